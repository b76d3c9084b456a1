use Rattle.std.proofs.Common.{ap, ◌∙◌, subst}
use Rattle.std.specs.Prelude.{option_map}
use Rattle.std.specs.FinMap.{get}
use Rattle.sha2.specs.Sha256.{sha256}
use Rattle.kl_store.specs.Names.{Names}
use Rattle.kl_store.specs.Disk.{names_now}
use Rattle.kl_store.proofs.Moments.{told_names}
use Rattle.kl_install.specs.After.{temp_name}
use Rattle.kl_install.specs.Staging.{Waits}
use Rattle.kl_install.proofs.Named.{target_short}
use Rattle.kl_install.proofs.Stagings.{files_then, quiet_then}
use Rattle.kl_store.proofs.KeptNames.{keeps_trans, kept_names}
use Rattle.kl_install.proofs.stage.stage_file.Goals as goal

pub temp_name-requires : goal.temp_name-requires
temp_name-requires g c = target_short c.args.target.now c.requires.target

pub returns-in_err-write_scratch-clause-images : goal.returns-in_err-write_scratch-clause-images
returns-in_err-write_scratch-clause-images g c = files_then c.settle_first.ensures.images c.in_ok-settle_first.ensures.ready c.digest_file.ensures.still c.write_scratch.ensures.images

pub returns-in_err-write_scratch-clause-quiet : goal.returns-in_err-write_scratch-clause-quiet
returns-in_err-write_scratch-clause-quiet g c = quiet_then c.settle_first.ensures.images c.in_ok-settle_first.ensures.ready c.digest_file.ensures.still c.write_scratch.ensures.images

pub returns-clause-quiet : goal.returns-clause-quiet
returns-clause-quiet g c = quiet_then c.settle_first.ensures.images c.in_ok-settle_first.ensures.ready c.digest_file.ensures.still c.write_scratch.ensures.images

pub returns-clause-images : goal.returns-clause-images
returns-clause-images g c = files_then c.settle_first.ensures.images c.in_ok-settle_first.ensures.ready c.digest_file.ensures.still c.write_scratch.ensures.images

pub returns-clause-old : goal.returns-clause-old
returns-clause-old g c = λ d told.
    let r = c.in_ok-settle_first.ensures.ready d told in
    c.in_ok-old.ensures.digest (names_now r.now) (told_names (g.S.Store.meaning c.settle_first.new.store) r.now r.told) ∙ ap (λ (m : Names). option_map sha256 (get m c.args.target.now)) r.names

pub returns-clause-waits : goal.returns-clause-waits
returns-clause-waits g c = λ d told.
    let r = c.in_ok-settle_first.ensures.ready d told in
    let waits = c.in_ok-write_scratch.ensures.waits r.now (c.digest_file.ensures.still.disk ∙ r.told) r.quiet in
    subst (λ (m : Names). Waits (temp_name c.args.target.now) c.args.bytes.now m (g.S.Store.meaning c.write_scratch.new.store).disk) r.names (rw c.temp_name.ensures at waits)

pub returns-in_err-write_scratch-clause-others : goal.returns-in_err-write_scratch-clause-others
returns-in_err-write_scratch-clause-others g c =
    let s = g.S.Store.meaning in
    keeps_trans (kept_names (s c.args.store.now) (s c.settle_first.new.store) c.settle_first.ensures.names) (keeps_trans (kept_names (s c.settle_first.new.store) (s c.digest_file.new.store) c.digest_file.ensures.still.names) (rw c.temp_name.ensures at c.write_scratch.ensures.others))

pub returns-clause-others : goal.returns-clause-others
returns-clause-others g c =
    let s = g.S.Store.meaning in
    keeps_trans (kept_names (s c.args.store.now) (s c.settle_first.new.store) c.settle_first.ensures.names) (keeps_trans (kept_names (s c.settle_first.new.store) (s c.digest_file.new.store) c.digest_file.ensures.still.names) (rw c.temp_name.ensures at c.write_scratch.ensures.others))
