-- The states of a whole commit, against those from before it.
use Rattle.std.proofs.Common.{◌≡◌, ◌≢◌, inl, inr, ◌⊎◌, ⊎_elim, ℕ, true, List, [], ◌∷◌, refl, sym, ap, ◌∙◌, is_some, IsSome, subst}
use Rattle.std.specs.Prelude.{Some, Result, OnOk}
use Rattle.std.specs.FinMap.{get, remove}
use Rattle.std.proofs.lemmas.Bool.{cond-true, cond-false}
use Rattle.kl_store.specs.Names.{Names, same_name, Create, Append}
use Rattle.kl_store.specs.Disk.{Disk, names_now, joined, without, IsImage, IsNear}
use Rattle.kl_store.proofs.NameMaps.{same_refl, same_apart, get-removed}
use Rattle.kl_store.proofs.Disks.{near_written}
use Rattle.kl_intent.specs.IntentText.{intent_text}
use Rattle.kl_install.specs.After.{temp_of}
use Rattle.kl_install.proofs.Named.{IsBatch, plain_apart}
use Rattle.kl_intent.specs.declared.intent.Entry.{Entry}
use Rattle.kl_store.specs.Names.{is_scratch}
use Rattle.kl_install.specs.Batch.{Batch, intent_name, intent_temp, Each, IsStaged, IsQuiet, IsOldOrNew, IsDone}
use Rattle.kl_store.specs.Meaning.{Meaning}
use Rattle.kl_store.specs.Images.{Leaves, LeavesOfDisk, IsSettledAt, Ends}
use Rattle.kl_store.proofs.Moments.{names_follow, weaker, leaves_on, same_disk, told_before}
use Rattle.std.proofs.lemmas.Result.{on_ok_weaker}
use Rattle.std.specs.Option.{ForSome}
use Rattle.kl_install.specs.Committed.{Commits}
use Rattle.kl_install.specs.Moving.{IsPlaced, IsWaiting, IsMoving, AreMoved, HasIntent, MayIntend, AllWait, CanMove, CanRemove}
use Rattle.kl_install.proofs.Recovered.{Fits, each_map, each_both, quiet_old, moving_new, done_new}
use Rattle.kl_store.proofs.WrittenFiles.{written_names, written_other}

turned : (a b : List ℕ) → a ≢ b → b ≢ a
turned a b p e = p (sym e)

pub fits : (b : Batch) (d : Disk) → IsBatch b → IsStaged b d → Fits b (names_now d)
fits b d named staged = record { batch = named; free = staged.free; ready = staged.ready }

pub near_old : (b : Batch) (d : Disk) (x : Names) → IsBatch b → IsStaged b d → IsNear (intent_temp b) d x → IsOldOrNew b (names_now d) x
near_old b d x named staged near = quiet_old b (names_now d) x (fits b d named staged)
    (λ n plain. near.others n (plain_apart n (intent_temp b) plain named.scratch) ∙ staged.quiet near.near near.image n plain)

slots_apart : (b : Batch) → IsBatch b → (intent_name b) ≢ (intent_temp b)
slots_apart b named = plain_apart (intent_name b) (intent_temp b) named.plain named.scratch

-- each entry's names are as before
pub entries_same : (b : Batch) (m y : Names) → IsBatch b → HasIntent (intent_name b) (intent_temp b) (intent_text b.slot b.entries) m y → Each (λ e. (get y e.target ≡ get m e.target) × (get y (temp_of e) ≡ get m (temp_of e))) b.entries
entries_same b m y named intent = each_map _ _ b.entries
    (λ e h. (intent.others e.target (turned _ _ h.0.0) (turned _ _ h.1.0), intent.others (temp_of e) (turned _ _ h.0.1) (turned _ _ h.1.1)))
    (each_both _ _ b.entries named.slot_away named.temp_away)

pub moving_old_new : (b : Batch) (m y x : Names) → Fits b m → HasIntent (intent_name b) (intent_temp b) (intent_text b.slot b.entries) m y → IsMoving b.entries y x → IsOldOrNew b m x
moving_old_new b m y x f intent moving = moving_new b m x f
    (moving.others (intent_name b) f.batch.slot_away ∙ intent.stands)
    (each_map _ _ b.entries (λ e h. ⊎_elim (λ placed. inl (placed.0 ∙ h.0.1, placed.1)) (λ waits. inr (waits.0 ∙ h.0.0, waits.1 ∙ h.0.1)) h.1) (each_both _ _ b.entries (entries_same b m y f.batch intent) moving.each))
    (λ n p q away. moving.others n away ∙ intent.others n p q)

all_wait : (es : List Entry) (y : Names) → Each (λ e. IsPlaced y y e ⊎ IsWaiting y y e) es
all_wait [] y = tt
all_wait (e ∷ es) y = (inr (refl, refl), all_wait es y)

-- nothing has moved yet
pub none_moved : (b : Batch) (m y : Names) → Fits b m → HasIntent (intent_name b) (intent_temp b) (intent_text b.slot b.entries) m y → IsOldOrNew b m y
none_moved b m y f intent = moving_old_new b m y y f intent (record { each = all_wait b.entries y; others = λ n away. refl })

pub waits : (b : Batch) (m y : Names) → Fits b m → HasIntent (intent_name b) (intent_temp b) (intent_text b.slot b.entries) m y → AllWait b.entries y
waits b m y f intent = each_map _ _ b.entries (λ e h. ap is_some (h.0.1 ∙ h.1.waits)) (each_both _ _ b.entries (entries_same b m y f.batch intent) f.ready)

pub slot_stays : (b : Batch) (m y z : Names) → IsBatch b → HasIntent (intent_name b) (intent_temp b) (intent_text b.slot b.entries) m y → AreMoved b.entries y z → IsSome (get z (intent_name b))
slot_stays b m y z named intent moved = ap is_some (moved.others (intent_name b) named.slot_away ∙ intent.stands)

pub all_done : (b : Batch) (m y z : Names) → IsBatch b → HasIntent (intent_name b) (intent_temp b) (intent_text b.slot b.entries) m y → AreMoved b.entries y z → IsDone b m (remove z (intent_name b))
all_done b m y z named intent moved =
    let at : (n : List ℕ) → n ≢ (intent_name b) → get (remove z (intent_name b)) n ≡ get z n = λ n p. get-removed z (intent_name b) n ∙ cond-false (same_name n (intent_name b)) _ _ (same_apart n (intent_name b) p) in
    let parts = each_both _ _ b.entries (each_both _ _ b.entries named.slot_away (entries_same b m y named intent)) moved.each in
    record {
      targets = each_map _ _ b.entries (λ e h. at e.target (turned _ _ h.0.0.0) ∙ h.1.0 ∙ h.0.1.1) parts;
      temps = each_map _ _ b.entries (λ e h. at (temp_of e) (turned _ _ h.0.0.1) ∙ h.1.1) parts;
      slot = get-removed z (intent_name b) (intent_name b) ∙ cond-true (same_name (intent_name b) (intent_name b)) _ _ (same_refl (intent_name b));
      slot_temp = at (intent_temp b) (turned _ _ (slots_apart b named)) ∙ moved.others (intent_temp b) named.temp_away ∙ intent.no_temp;
      others = λ n p q away. at n p ∙ moved.others n away ∙ intent.others n p q;
    }

-- a file that is staged leaves the images quiet
pub quiet_written : (d : Disk) (temp bytes : List ℕ) → is_scratch temp ≡ true → ((x : Names) → IsImage d x → IsQuiet (names_now d) x)
    → (x : Names) → IsImage (joined (Append temp bytes) (joined (Create temp) d)) x → IsQuiet (names_now (joined (Append temp bytes) (joined (Create temp) d))) x
quiet_written d temp bytes scratch quiet x image n plain =
    let near = near_written d temp bytes x image in
    let apart = plain_apart n temp plain scratch in
    near.others n apart ∙ quiet near.near near.image n plain ∙ sym (ap (λ (m : Names). get m n) (written_names d temp bytes) ∙ written_other (names_now d) temp bytes n apart)

staged_old : (b : Batch) (d : Disk) (x : Names) → IsBatch b → IsStaged b d → IsImage d x → IsOldOrNew b (names_now d) x
staged_old b d x named staged image = quiet_old b (names_now d) x (fits b d named staged) (staged.quiet x image)

-- the names follow from the images
pub commits : {T E : Type 0} {b : Batch} {before now : Meaning} {result : Result T E} → IsBatch b → ForSome before.disk (IsStaged b) → Ends before now result (IsDone b) → Leaves before now (IsOldOrNew b) → Commits b before now result
commits {b = b} named staged done images = record {
  done = done;
  images = images;
  names = λ d told e now. names_follow d e images told now (λ x. staged_old b d x named (staged d told));
}

-- the parts of a commit, one after another
pub first_images : {x y : Meaning} (b : Batch) → IsBatch b → ForSome x.disk (IsStaged b) → LeavesOfDisk x y (MayIntend (intent_name b) (intent_temp b) (intent_text b.slot b.entries)) → Leaves x y (IsOldOrNew b)
first_images b named staged images = weaker images (λ d told z. ⊎_elim (near_old b d z named (staged d told)) (none_moved b (names_now d) z (fits b d named (staged d told))))

pub second_images : {x y z : Meaning} (b : Batch) → IsBatch b → ForSome x.disk (IsStaged b) → Leaves x y (IsOldOrNew b) → ForSome x.disk (λ d. IsSettledAt y.disk (HasIntent (intent_name b) (intent_temp b) (intent_text b.slot b.entries) (names_now d)))
    → Leaves y z (IsMoving b.entries) → Leaves x z (IsOldOrNew b)
second_images b named staged first done images = leaves_on first images (λ d told. let end = done d told in (_, end.1, λ n. moving_old_new b (names_now d) end.0 n (fits b d named (staged d told)) end.2))

pub third_images : {x z w : Meaning} (y : Meaning) (b : Batch) → IsBatch b → ForSome x.disk (IsStaged b) → Leaves x z (IsOldOrNew b) → ForSome x.disk (λ d. IsSettledAt y.disk (HasIntent (intent_name b) (intent_temp b) (intent_text b.slot b.entries) (names_now d)))
    → ForSome y.disk (λ d. IsSettledAt z.disk (AreMoved b.entries (names_now d))) → Leaves z w (λ m n. n ≡ remove m (intent_name b)) → Leaves x w (IsOldOrNew b)
third_images y b named staged before done moved images = leaves_on before images (λ d told.
    let intent = done d told in
    let all = moved _ intent.1 in
    (_, all.1, λ n is. subst (IsOldOrNew b (names_now d)) (sym is) (done_new b (names_now d) (remove all.0 (intent_name b)) (fits b d named (staged d told)) (all_done b (names_now d) intent.0 all.0 named intent.2 all.2))))

-- what the files need to take their places
pub can_move : {x y : Meaning} (b : Batch) → IsBatch b → ForSome x.disk (IsStaged b) → LeavesOfDisk x y (MayIntend (intent_name b) (intent_temp b) (intent_text b.slot b.entries))
    → ForSome x.disk (λ d. IsSettledAt y.disk (HasIntent (intent_name b) (intent_temp b) (intent_text b.slot b.entries) (names_now d))) → ForSome y.disk (CanMove b.entries)
can_move b named staged images ends n now =
    let first = told_before n images now in
    let done = ends first.0 first.1 in
    let same = same_disk _ _ (sym done.1 ∙ now) in
    subst (CanMove b.entries) same (tt, waits b (names_now first.0) done.0 (fits b first.0 named (staged first.0 first.1)) done.2)

pub can_remove : {x y z : Meaning} (b : Batch) → IsBatch b → LeavesOfDisk x y (MayIntend (intent_name b) (intent_temp b) (intent_text b.slot b.entries)) → Leaves y z (IsMoving b.entries)
    → ForSome x.disk (λ d. IsSettledAt y.disk (HasIntent (intent_name b) (intent_temp b) (intent_text b.slot b.entries) (names_now d))) → ForSome y.disk (λ d. IsSettledAt z.disk (AreMoved b.entries (names_now d))) → ForSome z.disk (CanRemove (intent_name b))
can_remove b named first second ends moves n now =
    let mid = told_before n second now in
    let start = told_before mid.0 first mid.1 in
    let intent = ends start.0 start.1 in
    let moved = moves _ intent.1 in
    subst (CanRemove (intent_name b)) (same_disk _ _ (sym moved.1 ∙ now)) (tt, slot_stays b (names_now start.0) intent.0 moved.0 named intent.2 moved.2)

pub all_ends : {T E : Type 0} (x y z w : Meaning) (b : Batch) (result : Result T E) → IsBatch b → ForSome x.disk (λ d. IsSettledAt y.disk (HasIntent (intent_name b) (intent_temp b) (intent_text b.slot b.entries) (names_now d)))
    → ForSome y.disk (λ d. IsSettledAt z.disk (AreMoved b.entries (names_now d))) → OnOk result (ForSome z.disk (λ d. w.disk ≡ Some (without (intent_name b) d))) → OnOk result (ForSome x.disk (λ d. IsSettledAt w.disk (IsDone b (names_now d))))
all_ends x y z w b result named ends moves removed = on_ok_weaker result (λ s d told.
    let intent = ends d told in
    let moved = moves _ intent.1 in
    (remove moved.0 (intent_name b), s _ moved.1, all_done b (names_now d) intent.0 moved.0 named intent.2 moved.2)) removed
