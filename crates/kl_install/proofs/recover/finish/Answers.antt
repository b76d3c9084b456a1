use Rattle.std.proofs.Common.{◌≡◌, ap, sym, ◌∙◌, subst}
use Rattle.std.specs.Prelude.{Some, IsSome}
use Rattle.std.specs.FinMap.{get, remove}
use Rattle.kl_store.specs.Names.{Names}
use Rattle.kl_store.specs.Disk.{Disk, names_now, AreMoves}
use Rattle.kl_store.proofs.Moments.{told_names, told_before, stays_then, weaker, leaves_on, same_disk}
use Rattle.kl_intent.specs.IntentText.{slot_name}
use Rattle.kl_install.specs.Moving.{CanRemove}
use Rattle.kl_install.proofs.Redone.{foreign_after, sound_after, part_after, removed_after, settled_disk, slot_there}
use Rattle.kl_store.proofs.KeptNames.{keeps_trans, keeps_fewer, kept_names}
use Rattle.kl_install.proofs.recover.finish.Goals as goal

pub returns-in-Some-clause-done : goal.returns-in-Some-clause-done
returns-in-Some-clause-done g c = λ d told.
    let m = g.S.Store.meaning in
    let slot = c.args.slot in
    let es = c.args.entries.now in
    let still = c.first_unsound.ensures.still in
    let has = c.requires.stands d told in
    let first = sym (c.in_ok-unsound.ensures.first (names_now d) (told_names (m c.args.store.now) d told)) ∙ c.in-Some.is in
    (names_now d, still.disk ∙ told ∙ ap (λ (e : Disk). Some e) (settled_disk d has.settled), sym (foreign_after slot es d c.in-Some.unsound has first))

pub move_again-requires-clause-moves : goal.move_again-requires-clause-moves
move_again-requires-clause-moves g c = λ e now. subst AreMoves (sym (c.requires.stands e (sym c.first_unsound.ensures.still.disk ∙ now)).settled) tt

pub returns-in_err-move_again-clause-images : goal.returns-in_err-move_again-clause-images
returns-in_err-move_again-clause-images g c =
    let m = g.S.Store.meaning in
    let slot = c.args.slot in
    let es = c.args.entries.now in
    let still = c.first_unsound.ensures.still in
    let none = λ (d : Disk) (told : (m c.args.store.now).disk ≡ Some d). sym (c.in_ok-unsound.ensures.first (names_now d) (told_names (m c.args.store.now) d told)) ∙ c.in_default.is in
    stays_then still (weaker c.move_again.ensures.images (λ e now x part.
    let told = sym still.disk ∙ now in
    part_after slot es e x c.requires.entries (c.requires.stands e told) (none e told) part))

pub forget-requires : goal.forget-requires
forget-requires g c = λ n now.
    let m = g.S.Store.meaning in
    let slot = c.args.slot in
    let es = c.args.entries.now in
    let still = c.first_unsound.ensures.still in
    let mid = told_before n c.move_again.ensures.images now in
    let end = c.in_ok-move_again.ensures.done mid.0 mid.1 in
    subst (CanRemove (slot_name slot)) (same_disk _ _ (sym end.1 ∙ now))
    (tt, subst (λ (k : Names). IsSome (get k (slot_name slot))) (sym end.2) (slot_there slot es mid.0 c.requires.entries (c.requires.stands mid.0 (sym still.disk ∙ mid.1))))

pub returns-in_err-forget-clause-images : goal.returns-in_err-forget-clause-images
returns-in_err-forget-clause-images g c =
    let m = g.S.Store.meaning in
    let slot = c.args.slot in
    let es = c.args.entries.now in
    let still = c.first_unsound.ensures.still in
    let none = λ (d : Disk) (told : (m c.args.store.now).disk ≡ Some d). sym (c.in_ok-unsound.ensures.first (names_now d) (told_names (m c.args.store.now) d told)) ∙ c.in_default.is in
    leaves_on (stays_then still (weaker c.move_again.ensures.images (λ e now x part.
    let told = sym still.disk ∙ now in
    part_after slot es e x c.requires.entries (c.requires.stands e told) (none e told) part))) c.forget.ensures.images (λ d told.
    let end = c.in_ok-move_again.ensures.done d (still.disk ∙ told) in
    (_, end.1, λ x is. removed_after slot es d x (c.requires.stands d told) (none d told) (is ∙ ap (λ (k : Names). remove k (slot_name slot)) end.2)))

pub returns-clause-images : goal.returns-clause-images
returns-clause-images g c =
    let m = g.S.Store.meaning in
    let slot = c.args.slot in
    let es = c.args.entries.now in
    let still = c.first_unsound.ensures.still in
    let none = λ (d : Disk) (told : (m c.args.store.now).disk ≡ Some d). sym (c.in_ok-unsound.ensures.first (names_now d) (told_names (m c.args.store.now) d told)) ∙ c.in_default.is in
    leaves_on (stays_then still (weaker c.move_again.ensures.images (λ e now x part.
    let told = sym still.disk ∙ now in
    part_after slot es e x c.requires.entries (c.requires.stands e told) (none e told) part))) c.forget.ensures.images (λ d told.
    let end = c.in_ok-move_again.ensures.done d (still.disk ∙ told) in
    (_, end.1, λ x is. removed_after slot es d x (c.requires.stands d told) (none d told) (is ∙ ap (λ (k : Names). remove k (slot_name slot)) end.2)))

pub returns-clause-done : goal.returns-clause-done
returns-clause-done g c = λ d told.
    let m = g.S.Store.meaning in
    let slot = c.args.slot in
    let es = c.args.entries.now in
    let still = c.first_unsound.ensures.still in
    let none = λ (d : Disk) (told : (m c.args.store.now).disk ≡ Some d). sym (c.in_ok-unsound.ensures.first (names_now d) (told_names (m c.args.store.now) d told)) ∙ c.in_default.is in
    let end = c.in_ok-move_again.ensures.done d (still.disk ∙ told) in
    (remove end.0 (slot_name slot), c.in_ok-forget.ensures.done _ end.1, ap (λ (k : Names). remove k (slot_name slot)) end.2 ∙ sym (sound_after slot es d (c.requires.stands d told) (none d told)))

pub returns-in_err-forget-clause-others : goal.returns-in_err-forget-clause-others
returns-in_err-forget-clause-others g c =
    keeps_trans (kept_names _ _ c.first_unsound.ensures.still.names) (keeps_trans (keeps_fewer (λ n is. is.1) c.move_again.ensures.others) (keeps_fewer (λ n is. is.0) c.forget.ensures.others))

pub returns-clause-others : goal.returns-clause-others
returns-clause-others g c =
    keeps_trans (kept_names _ _ c.first_unsound.ensures.still.names) (keeps_trans (keeps_fewer (λ n is. is.1) c.move_again.ensures.others) (keeps_fewer (λ n is. is.0) c.forget.ensures.others))
