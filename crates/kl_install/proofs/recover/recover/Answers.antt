use Rattle.std.proofs.Common.{◌≡◌, refl, sym, ◌∙◌, subst}
use Rattle.std.specs.Prelude.{Some}
use Rattle.std.proofs.lemmas.Result.{on_ok_weaker}
use Rattle.kl_store.specs.Disk.{names_now, settled}
use Rattle.kl_store.proofs.Moments.{told_names, told_before, told_settled, same_disk}
use Rattle.kl_intent.specs.IntentText.{entries_of}
use Rattle.kl_install.specs.Finding.{FoundFits, HasIntentOf}
use Rattle.kl_install.proofs.Redone.{batch_found, nothing_after, bad_after}
use Rattle.kl_store.proofs.KeptNames.{keeps_trans, keeps_fewer, kept_names, settles_names}
use Rattle.kl_install.proofs.Ended.{stands_found}
use Rattle.kl_install.proofs.recover.recover.Goals as goal

pub finish_batch-requires-clause-few : goal.finish_batch-requires-clause-few
finish_batch-requires-clause-few g c = (subst FoundFits c.in-Batch.is c.in_ok-find.ensures.fits).0

pub finish_batch-requires-clause-entries : goal.finish_batch-requires-clause-entries
finish_batch-requires-clause-entries g c = (subst FoundFits c.in-Batch.is c.in_ok-find.ensures.fits).1

pub finish_batch-requires-clause-stands : goal.finish_batch-requires-clause-stands
finish_batch-requires-clause-stands g c = λ e now.
    let at : (g.S.Store.meaning c.settle.new.self).disk ≡ Some e = sym c.find.ensures.still.disk ∙ now in
    let first = told_before e c.settle.ensures.settles.images at in
    let d = first.0 in
    let told = first.1 in
    let m = g.S.Store.meaning in
    let done = told_settled d c.in_ok-settle.ensures.settles.done told in
    let found = c.in_ok-find.ensures.found (names_now d) (told_names (m c.settle.new.self) (settled d) done) in
    subst (HasIntentOf c.args.slot (entries_of c.in-Batch.intent)) (same_disk _ _ (sym done ∙ at)) (batch_found c.args.slot c.in_ok-find.field-0 c.in-Batch.intent (settled d) c.in-Batch.is refl found)

pub returns-in-Nothing-clause-done : goal.returns-in-Nothing-clause-done
returns-in-Nothing-clause-done g c = λ d told.
    let m = g.S.Store.meaning in
    let done = told_settled d c.in_ok-settle.ensures.settles.done told in
    let found = c.in_ok-find.ensures.found (names_now d) (told_names (m c.settle.new.self) (settled d) done) in
    (names_now d, c.find.ensures.still.disk ∙ done, sym (nothing_after c.args.slot c.in_ok-find.field-0 (names_now d) c.in-Nothing.is found))

pub returns-in-Bad-clause-done : goal.returns-in-Bad-clause-done
returns-in-Bad-clause-done g c = λ d told.
    let m = g.S.Store.meaning in
    let done = told_settled d c.in_ok-settle.ensures.settles.done told in
    let found = c.in_ok-find.ensures.found (names_now d) (told_names (m c.settle.new.self) (settled d) done) in
    (names_now d, c.find.ensures.still.disk ∙ done, sym (bad_after c.args.slot c.in_ok-find.field-0 c.in-Bad.line (names_now d) c.in-Bad.is found))

pub returns-in-Batch-clause-done : goal.returns-in-Batch-clause-done
returns-in-Batch-clause-done g c = on_ok_weaker c.finish_batch.result (λ s d told. s (settled d) (c.find.ensures.still.disk ∙ told_settled d c.in_ok-settle.ensures.settles.done told)) c.finish_batch.ensures.done

pub returns-in-Batch-clause-others : goal.returns-in-Batch-clause-others
returns-in-Batch-clause-others g c = λ m told.
    let s = g.S.Store.meaning in
    let same = settles_names c.settle.ensures.settles in
    let found = c.in_ok-find.ensures.found m (same ∙ told) in
    let stands = stands_found c.args.slot c.in_ok-find.field-0 c.in-Batch.intent m c.in-Batch.is found in
    keeps_trans (kept_names (s c.args.store.now) (s c.settle.new.self) same) (keeps_trans (kept_names (s c.settle.new.self) (s c.find.new.store) c.find.ensures.still.names) (keeps_fewer (λ n is. (is.0, is.1 (entries_of c.in-Batch.intent) stands)) c.finish_batch.ensures.others))
