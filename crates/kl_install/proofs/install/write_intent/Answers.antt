use Rattle.std.proofs.Common.{inl, inr, ap, is_some}
use Rattle.std.proofs.lemmas.Result.{on_ok_weaker}
use Rattle.kl_store.specs.Names.{Rename, carried_out}
use Rattle.kl_store.specs.Disk.{joined, settled, names_now, with_file}
use Rattle.kl_store.proofs.Moments.{weaker, leaves_still, leaves_move, is_made, told_joined, told_settled}
use Rattle.kl_install.proofs.Steps.{has_intent}
use Rattle.kl_store.proofs.WrittenFiles.{written}
use Rattle.kl_store.proofs.KeptNames.{does_if_names, keeps_trans, keeps_fewer, kept_names, settles_names}
use Rattle.kl_install.proofs.install.write_intent.Goals as goal

pub returns-in_err-rename-clause-images : goal.returns-in_err-rename-clause-images
returns-in_err-rename-clause-images g c =
    leaves_move (Rename c.args.temp.now c.args.slot.now) tt (leaves_still (weaker c.write_whole.ensures.images (λ d told x near. inl near)) c.settle.ensures.settles.images) c.rename.ensures.does.images (λ d told.
    let d1 = with_file c.args.temp.now c.args.text.now d in
    (settled d1, told_settled d1 c.in_ok-settle.ensures.settles.done (c.in_ok-write_whole.ensures.done d told), tt, λ is. inr (has_intent d c.args.slot.now c.args.temp.now c.args.text.now c.requires)))

pub returns-clause-images : goal.returns-clause-images
returns-clause-images g c = leaves_still
    (leaves_move (Rename c.args.temp.now c.args.slot.now) tt (leaves_still (weaker c.write_whole.ensures.images (λ d told x near. inl near)) c.settle.ensures.settles.images) c.rename.ensures.does.images (λ d told.
    let d1 = with_file c.args.temp.now c.args.text.now d in
    (settled d1, told_settled d1 c.in_ok-settle.ensures.settles.done (c.in_ok-write_whole.ensures.done d told), tt, λ is. inr (has_intent d c.args.slot.now c.args.temp.now c.args.text.now c.requires))))
    c.settle-2.ensures.settles.images

pub returns-clause-done : goal.returns-clause-done
returns-clause-done g c = on_ok_weaker c.settle-2.result (λ s d told.
    let d1 = with_file c.args.temp.now c.args.text.now d in
    let told2 = told_settled d1 c.in_ok-settle.ensures.settles.done (c.in_ok-write_whole.ensures.done d told) in
    let made = is_made (settled d1) c.in_ok-rename.field-0 told2 (ap is_some (written d c.args.temp.now c.args.text.now)) c.in_ok-rename.ensures.does.made in
    (carried_out (Rename c.args.temp.now c.args.slot.now) (names_now d1), told_settled (joined (Rename c.args.temp.now c.args.slot.now) (settled d1)) s (told_joined (settled d1) made told2), has_intent d c.args.slot.now c.args.temp.now c.args.text.now c.requires)) c.settle-2.ensures.settles.done

pub returns-in_err-rename-clause-others : goal.returns-in_err-rename-clause-others
returns-in_err-rename-clause-others g c =
    keeps_trans (keeps_fewer (λ n is. is.1) c.write_whole.ensures.others)
    (keeps_trans (kept_names _ _ (settles_names c.settle.ensures.settles)) (does_if_names (Rename c.args.temp.now c.args.slot.now) (λ n is. (is.1, is.0)) c.rename.ensures.does))

pub returns-clause-others : goal.returns-clause-others
returns-clause-others g c =
    keeps_trans (keeps_fewer (λ n is. is.1) c.write_whole.ensures.others)
    (keeps_trans (kept_names _ _ (settles_names c.settle.ensures.settles))
    (keeps_trans (does_if_names (Rename c.args.temp.now c.args.slot.now) (λ n is. (is.1, is.0)) c.rename.ensures.does) (kept_names _ _ (settles_names c.settle-2.ensures.settles))))
