use Rattle.std.proofs.Common.{◌∙◌, ap, rules, [], ◌∷◌}
use Rattle.kl_store.proofs.KeptNames.{keeps_trans}
use Rattle.kl_base.specs.declared.class.Slot.TheVariants.{Libs}
use Rattle.kl_intent.specs.IntentText.{is_target}
use Rattle.kl_install.specs.Installers.{batch_of}
use Rattle.kl_batch.specs.Batches.{library_files, map_of}
use Rattle.kl_batch.specs.Together.{file}
use Rattle.kl_batch.proofs.LibraryNames.{map_apart, map_target}
use Rattle.kl_batch.proofs.Placing.{commit_keeps, fails, free_disk, installs_at, staged_fails, staged_first, staged_next, stage_keeps}
use Rattle.kl_batch.proofs.library.put_library.Goals as goal

pub returns-in_err-stage-clause-installs : goal.returns-in_err-stage-clause-installs
returns-in_err-stage-clause-installs g c =
    fails Libs _ (c.requires.name.target, (map_target c.args.output.now c.requires.name, tt)) (free_disk (g.S.Store.meaning c.args.store.now) Libs c.requires.free) (search rules) c.stage.ensures.quiet c.stage.ensures.files

pub returns-in_err-stage-2-clause-installs : goal.returns-in_err-stage-2-clause-installs
returns-in_err-stage-2-clause-installs g c =
    let one = staged_first c.args.output.now c.requires.none (search rules) c.in_ok-stage.ensures.staged c.stage.ensures.quiet in
    fails Libs _ (c.requires.name.target, (map_target c.args.output.now c.requires.name, tt)) (free_disk (g.S.Store.meaning c.args.store.now) Libs c.requires.free) (search rules)
    (staged_fails _ _ one c.stage-2.ensures.quiet) (keeps_trans c.stage.ensures.files c.stage-2.ensures.files)

pub returns-clause-installs : goal.returns-clause-installs
returns-clause-installs g c =
    let output = c.args.output.now in
    let one = staged_first output c.requires.none (search rules) c.in_ok-stage.ensures.staged c.stage.ensures.quiet in
    let two = staged_next (file output c.args.image.now ∷ []) (map_of output) (map_apart output, tt) c.library_map.ensures one c.in_ok-stage-2.ensures.staged c.stage-2.ensures.quiet in
    installs_at Libs _ (batch_of c.stage-2.new.self) (c.stage-2.ensures.slot ∙ c.stage.ensures.slot ∙ c.requires.slot) (c.requires.name.target, (map_target output c.requires.name, tt))
    (free_disk (g.S.Store.meaning c.args.store.now) Libs c.requires.free) two c.commit.ensures.commits

pub returns-in_err-stage-clause-others : goal.returns-in_err-stage-clause-others
returns-in_err-stage-clause-others g c = stage_keeps c.args.output.now (search rules) (λ n p. p.2.0.1) c.stage.ensures.others

pub returns-in_err-stage-2-clause-others : goal.returns-in_err-stage-2-clause-others
returns-in_err-stage-2-clause-others g c =
    keeps_trans (stage_keeps c.args.output.now (search rules) (λ n p. p.2.0.1) c.stage.ensures.others)
    (stage_keeps (map_of c.args.output.now) c.library_map.ensures (λ n p. p.2.1.0.1) c.stage-2.ensures.others)

pub returns-clause-others : goal.returns-clause-others
returns-clause-others g c =
    let output = c.args.output.now in
    let one = staged_first output c.requires.none (search rules) c.in_ok-stage.ensures.staged c.stage.ensures.quiet in
    let two = staged_next (file output c.args.image.now ∷ []) (map_of output) (map_apart output, tt) c.library_map.ensures one c.in_ok-stage-2.ensures.staged c.stage-2.ensures.quiet in
    keeps_trans (stage_keeps output (search rules) (λ n p. p.2.0.1) c.stage.ensures.others)
    (keeps_trans (stage_keeps (map_of output) c.library_map.ensures (λ n p. p.2.1.0.1) c.stage-2.ensures.others)
    (commit_keeps Libs (library_files output c.args.image.now c.args.map.now) (batch_of c.stage-2.new.self) (c.stage-2.ensures.slot ∙ c.stage.ensures.slot ∙ c.requires.slot) two.names c.commit.ensures.others))

pub stage-requires-2-clause-target : goal.stage-requires-2-clause-target
stage-requires-2-clause-target g c = ap is_target c.library_map.ensures ∙ map_target c.args.output.now c.requires.name
