use Rattle.std.proofs.Common.{rules, []}
use Rattle.kl_intent.specs.IntentText.{entries_of}
use Rattle.kl_install.specs.Batch.{batch}
use Rattle.kl_install.proofs.Named.{is_batch, apart_from}
use Rattle.kl_install.proofs.Whole.{first_images, second_images, third_images, can_move, can_remove, all_ends, commits}
use Rattle.kl_store.proofs.KeptNames.{keeps_trans, keeps_fewer}
use Rattle.kl_install.proofs.install.install.Goals as goal

pub move_batch-requires-clause-apart : goal.move_batch-requires-clause-apart
move_batch-requires-clause-apart g c = apart_from [] (entries_of c.args.intent.now) c.requires.entries.each c.requires.entries.distinct

pub move_batch-requires-clause-wait : goal.move_batch-requires-clause-wait
move_batch-requires-clause-wait g c =
    let es = entries_of c.args.intent.now in
    can_move (batch c.args.intent.now.slot es) (is_batch c.args.intent.now.slot es c.requires.entries) c.requires.staged c.intend.ensures.images c.in_ok-intend.ensures.done

pub forget-requires : goal.forget-requires
forget-requires g c =
    let es = entries_of c.args.intent.now in
    can_remove (batch c.args.intent.now.slot es) (is_batch c.args.intent.now.slot es c.requires.entries) c.intend.ensures.images c.move_batch.ensures.images c.in_ok-intend.ensures.done c.in_ok-move_batch.ensures.done

pub returns-in_err-intend-clause-commits : goal.returns-in_err-intend-clause-commits
returns-in_err-intend-clause-commits g c =
    let es = entries_of c.args.intent.now in
    let b = batch c.args.intent.now.slot es in
    let named = is_batch c.args.intent.now.slot es c.requires.entries in
    commits named c.requires.staged (search rules) (first_images b named c.requires.staged c.intend.ensures.images)

pub returns-in_err-move_batch-clause-commits : goal.returns-in_err-move_batch-clause-commits
returns-in_err-move_batch-clause-commits g c =
    let es = entries_of c.args.intent.now in
    let b = batch c.args.intent.now.slot es in
    let named = is_batch c.args.intent.now.slot es c.requires.entries in
    commits named c.requires.staged (search rules) (second_images b named c.requires.staged (first_images b named c.requires.staged c.intend.ensures.images) c.in_ok-intend.ensures.done c.move_batch.ensures.images)

pub returns-clause-commits : goal.returns-clause-commits
returns-clause-commits g c =
    let m = g.S.Store.meaning in
    let es = entries_of c.args.intent.now in
    let b = batch c.args.intent.now.slot es in
    let named = is_batch c.args.intent.now.slot es c.requires.entries in
    commits named c.requires.staged
    (all_ends (m c.args.store.now) (m c.intend.new.store) (m c.move_batch.new.store) (m c.forget.new.store) b c.forget.result named c.in_ok-intend.ensures.done c.in_ok-move_batch.ensures.done c.forget.ensures.done)
    (third_images (m c.intend.new.store) b named c.requires.staged (second_images b named c.requires.staged (first_images b named c.requires.staged c.intend.ensures.images) c.in_ok-intend.ensures.done c.move_batch.ensures.images)
    c.in_ok-intend.ensures.done c.in_ok-move_batch.ensures.done c.forget.ensures.images)

pub returns-in_err-intend-clause-others : goal.returns-in_err-intend-clause-others
returns-in_err-intend-clause-others g c = keeps_fewer (λ n is. (is.0, is.1)) c.intend.ensures.others

pub returns-in_err-move_batch-clause-others : goal.returns-in_err-move_batch-clause-others
returns-in_err-move_batch-clause-others g c = keeps_trans (keeps_fewer (λ n is. (is.0, is.1)) c.intend.ensures.others) (keeps_fewer (λ n is. is.2) c.move_batch.ensures.others)

pub returns-clause-others : goal.returns-clause-others
returns-clause-others g c =
    keeps_trans (keeps_fewer (λ n is. (is.0, is.1)) c.intend.ensures.others) (keeps_trans (keeps_fewer (λ n is. is.2) c.move_batch.ensures.others) (keeps_fewer (λ n is. is.0) c.forget.ensures.others))
