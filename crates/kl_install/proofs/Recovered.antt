-- What recovery makes of the states of a batch.
use Rattle.std.proofs.Common.{◌≡◌, ◌≢◌, inl, inr, ◌⊎◌, ⊎_elim, ℕ, true, false, List, [], ◌∷◌, refl, sym, ap, ◌∙◌, is_some}
use Rattle.std.specs.Prelude.{Some, None, option_map}
use Rattle.std.specs.List.{list_all}
use Rattle.std.specs.FinMap.{get, remove}
use Rattle.std.proofs.lemmas.Bool.{cond-true, cond-false, cases_Bool}
use Rattle.kl_store.specs.Names.{Names, same_name, Rename, carried_out}
use Rattle.kl_store.proofs.NameMaps.{same_refl, same_eq, same_apart, get-renamed, get-removed}
use Rattle.kl_base.proofs.Bools.{true_false}
use Rattle.kl_base.specs.declared.class.Slot.{Slot}
use Rattle.kl_intent.specs.IntentText.{slot_name, intent_text}
use Rattle.kl_install.proofs.Named.{IsBatch, plain_apart}
use Rattle.kl_intent.specs.declared.intent.Entry.{Entry}
use Rattle.sha2.specs.Sha256.{sha256}
use Rattle.kl_store.specs.Names.{is_scratch}
use Rattle.kl_install.specs.After.{digest_at, is_sound, moved, all_moved, after_entries, after_text, after, temp_of, entries_in}
use Rattle.kl_install.specs.Standing.{IsSound}
use Rattle.kl_install.proofs.Sounds.{all_sound_so}
use Rattle.kl_install.specs.Batch.{Batch, intent_name, intent_temp, Each, IsAway, AreApart, IsReady, IsQuiet, IsOldOrNew, IsDone}
use Rattle.kl_install.specs.Moving.{IsPlaced, IsWaiting}

pub each_map : (P Q : Entry → Type 0) (es : List Entry) → ((e : Entry) → P e → Q e) → Each P es → Each Q es
each_map P Q [] f h = tt
each_map P Q (e ∷ es) f h = (f e h.0, each_map P Q es f h.1)

pub each_both : (P Q : Entry → Type 0) (es : List Entry) → Each P es → Each Q es → Each (λ e. P e × Q e) es
each_both P Q [] h k = tt
each_both P Q (e ∷ es) h k = ((h.0, k.0), each_both P Q es h.1 k.1)

pub each_all : (P : Entry → Type 0) (es : List Entry) → ((e : Entry) → P e) → Each P es
each_all P [] f = tt
each_all P (e ∷ es) f = (f e, each_all P es f)

-- a rename away from other names
pub renamed_other : (x : Names) (a b n : List ℕ) → n ≢ a → n ≢ b → get (carried_out (Rename a b) x) n ≡ get x n
renamed_other x a b n p q = get-renamed x a b n ∙ cond-false (same_name n b) _ _ (same_apart n b q) ∙ cond-false (same_name n a) _ _ (same_apart n a p)

pub renamed_to : (x : Names) (a b : List ℕ) → get (carried_out (Rename a b) x) b ≡ get x a
renamed_to x a b = get-renamed x a b b ∙ cond-true (same_name b b) _ _ (same_refl b)

pub renamed_from : (x : Names) (a b : List ℕ) → a ≢ b → get (carried_out (Rename a b) x) a ≡ None
renamed_from x a b p = get-renamed x a b a ∙ cond-false (same_name a b) _ _ (same_apart a b p) ∙ cond-true (same_name a a) _ _ (same_refl a)

pub moved_other : (e : Entry) (x : Names) (n : List ℕ) → n ≢ e.target → n ≢ (temp_of e) → get (moved e x) n ≡ get x n
moved_other e x n p q = ⊎_elim
    (λ is. ap (λ (y : Names). get y n) (cond-true (is_some (get x (temp_of e))) _ _ is) ∙ renamed_other x (temp_of e) e.target n q p)
    (λ none. ap (λ (y : Names). get y n) (cond-false (is_some (get x (temp_of e))) _ _ none))
    (cases_Bool (is_some (get x (temp_of e))))

pub all_moved_other : (es : List Entry) (x : Names) (n : List ℕ) → IsAway n es → get (all_moved es x) n ≡ get x n
all_moved_other [] x n away = refl
all_moved_other (e ∷ es) x n away = all_moved_other es (moved e x) n away.1 ∙ moved_other e x n away.0.0 away.0.1

-- what is placed stays, and what waits is placed
moved_here : (m : Names) (e : Entry) (x : Names) → IsReady m e → IsPlaced m x e ⊎ IsWaiting m x e → get (moved e x) e.target ≡ get m (temp_of e)
moved_here m e x ready (inl placed) = ap (λ (y : Names). get y e.target) (cond-false (is_some (get x (temp_of e))) _ _ (ap is_some placed.1)) ∙ placed.0
moved_here m e x ready (inr waits) = ap (λ (y : Names). get y e.target) (cond-true (is_some (get x (temp_of e))) _ _ (ap is_some (waits.1 ∙ ready.waits))) ∙ renamed_to x (temp_of e) e.target ∙ waits.1

-- the states of entries whose names a change leaves
pub states_kept : (m x y : Names) (es : List Entry) → Each (λ e. (get y e.target ≡ get x e.target) × (get y (temp_of e) ≡ get x (temp_of e))) es
    → Each (λ e. IsPlaced m x e ⊎ IsWaiting m x e) es → Each (λ e. IsPlaced m y e ⊎ IsWaiting m y e) es
states_kept m x y [] same h = tt
states_kept m x y (e ∷ es) same h = (
  ⊎_elim
      (λ placed. inl (same.0.0 ∙ placed.0, same.0.1 ∙ placed.1))
      (λ waits. inr (same.0.0 ∙ waits.0, same.0.1 ∙ waits.1)) h.0,
  states_kept m x y es same.1 h.1,
)

turned : (a b : List ℕ) → a ≢ b → b ≢ a
turned a b p e = p (sym e)

pub all_moved_targets : (m : Names) (es : List Entry) (x : Names) → AreApart es → Each (IsReady m) es → Each (λ e. IsPlaced m x e ⊎ IsWaiting m x e) es
    → Each (λ e. get (all_moved es x) e.target ≡ get m (temp_of e)) es
all_moved_targets m [] x apart ready h = tt
all_moved_targets m (e ∷ es) x apart ready h = (
  all_moved_other es (moved e x) e.target apart.1 ∙ moved_here m e x ready.0 h.0,
  all_moved_targets m es (moved e x) apart.3 ready.1
      (states_kept m x (moved e x) es (each_map _ _ es (λ f away. (moved_other e x f.target (turned _ _ away.0.0) (turned _ _ away.1.0), moved_other e x (temp_of f) (turned _ _ away.0.1) (turned _ _ away.1.1)))
      (each_both _ _ es apart.1 apart.2)) h.1),
)

digest_of : (x m : Names) (n p : List ℕ) → get x n ≡ get m p → digest_at x n ≡ digest_at m p
digest_of x m n p e = ap (option_map sha256) e

staged_digest : (m : Names) (e : Entry) → IsReady m e → digest_at m (temp_of e) ≡ Some e.new
staged_digest m e ready = ap (option_map sha256) ready.waits ∙ ap (λ (d : List ℕ). Some d) ready.new

sound_entry : (m x : Names) (e : Entry) → IsReady m e → IsPlaced m x e ⊎ IsWaiting m x e → IsSound x e
sound_entry m x e ready (inl placed) = inl (record { target = digest_of x m e.target (temp_of e) placed.0 ∙ staged_digest m e ready; temp = inl placed.1 })
sound_entry m x e ready (inr waits) = inr (record { target = digest_of x m e.target e.target waits.0 ∙ ready.old; temp = digest_of x m (temp_of e) (temp_of e) waits.1 ∙ staged_digest m e ready })

-- the slot is absent
pub after_none : (slot : Slot) (x : Names) → get x (slot_name slot) ≡ None → after slot x ≡ x
after_none slot x e = ap (after_text slot x) e

pub after_sound : (slot : Slot) (text : List ℕ) (x : Names) (es : List Entry) → get x (slot_name slot) ≡ Some text → entries_in slot text ≡ Some es → list_all (is_sound x) es ≡ true → after slot x ≡ remove (all_moved es x) (slot_name slot)
after_sound slot text x es stands reads sound = ap (after_text slot x) stands ∙ ap (after_entries slot x) reads ∙ cond-true (list_all (is_sound x) es) _ _ sound

-- a plain name that is no target is away from the entries
pub plain_away : (n : List ℕ) (es : List Entry) → is_scratch n ≡ false → Each (λ e. (is_scratch e.target ≡ false) × (is_scratch (temp_of e) ≡ true)) es → Each (λ e. n ≢ e.target) es → IsAway n es
plain_away n es plain ready not_target = each_map _ _ es (λ e h. (h.1, plain_apart n (temp_of e) plain h.0.1)) (each_both _ _ es ready not_target)

-- what is known of a batch, whatever the images
pub record Fits (b : Batch) (m : Names) : Type 0 where
  pub batch : IsBatch b
  pub free : get m (intent_name b) ≡ None
  pub ready : Each (IsReady m) b.entries

-- before the intent stands
pub quiet_old : (b : Batch) (m x : Names) → Fits b m → IsQuiet m x → IsOldOrNew b m x
quiet_old b m x fits quiet =
    let same : after b.slot x ≡ x = after_none b.slot x (quiet (intent_name b) fits.batch.plain ∙ fits.free) in
    record {
      targets = inl (each_map _ _ b.entries (λ e ready. ap (λ (y : Names). get y e.target) same ∙ quiet e.target ready.0) fits.batch.targets);
      others = λ n plain no. ap (λ (y : Names). get y n) same ∙ quiet n plain;
      whole = each_map _ _ b.entries (λ e ready. inl (quiet e.target ready.0)) fits.batch.targets;
      elsewhere = λ n plain slot no. quiet n plain;
      slot = inl (quiet (intent_name b) fits.batch.plain ∙ fits.free);
    }

-- while it stands
pub moving_new : (b : Batch) (m x : Names) → Fits b m → get x (intent_name b) ≡ Some (intent_text b.slot b.entries) → Each (λ e. IsPlaced m x e ⊎ IsWaiting m x e) b.entries
    → ((n : List ℕ) → n ≢ (intent_name b) → n ≢ (intent_temp b) → IsAway n b.entries → get x n ≡ get m n) → IsOldOrNew b m x
moving_new b m x fits stands states others =
    let sound : Each (IsSound x) b.entries = each_map _ _ b.entries (λ e h. sound_entry m x e h.0 h.1) (each_both _ _ b.entries fits.ready states) in
    let end : after b.slot x ≡ remove (all_moved b.entries x) (intent_name b) = after_sound b.slot (intent_text b.slot b.entries) x b.entries stands fits.batch.intent (all_sound_so x b.entries sound) in
    let at : (n : List ℕ) → n ≢ (intent_name b) → get (after b.slot x) n ≡ get (all_moved b.entries x) n =
    λ n p. ap (λ (y : Names). get y n) end ∙ get-removed (all_moved b.entries x) (intent_name b) n ∙ cond-false (same_name n (intent_name b)) _ _ (same_apart n (intent_name b) p) in
    let targets : Each (λ e. get (after b.slot x) e.target ≡ get m (temp_of e)) b.entries =
    each_map _ _ b.entries (λ e h. at e.target (turned _ _ h.0.0) ∙ h.1) (each_both _ _ b.entries fits.batch.slot_away (all_moved_targets m b.entries x fits.batch.apart fits.ready states)) in
    record {
      targets = inr targets;
      others = λ n plain no. ⊎_elim
          (λ is. ap (λ (y : Names). get y n) end ∙ get-removed (all_moved b.entries x) (intent_name b) n ∙ cond-true (same_name n (intent_name b)) _ _ is ∙ sym fits.free ∙ ap (λ (q : List ℕ). get m q) (sym (same_eq n (intent_name b) is)))
          (λ other. let away = plain_away n b.entries plain fits.batch.targets no in
          let apart : n ≢ (intent_name b) = λ e. true_false (sym (ap (λ (q : List ℕ). same_name q (intent_name b)) e ∙ same_refl (intent_name b)) ∙ other) in
          at n apart ∙ all_moved_other b.entries x n away ∙ others n apart (plain_apart n (intent_temp b) plain fits.batch.scratch) away)
          (cases_Bool (same_name n (intent_name b)));
      whole = each_map _ _ b.entries (λ e h. ⊎_elim (λ placed. inr (placed.0 ∙ sym h.1)) (λ waits. inl waits.0) h.0) (each_both _ _ b.entries states targets);
      elsewhere = λ n plain slot no. others n slot (plain_apart n (intent_temp b) plain fits.batch.scratch) (plain_away n b.entries plain fits.batch.targets no);
      slot = inr (record { are = fits.batch.are; text = stands }, sound);
    }

-- after it is gone
pub done_new : (b : Batch) (m x : Names) → Fits b m → IsDone b m x → IsOldOrNew b m x
done_new b m x fits done =
    let same : after b.slot x ≡ x = after_none b.slot x done.slot in
    record {
      targets = inr (each_map _ _ b.entries (λ e h. ap (λ (y : Names). get y e.target) same ∙ h) done.targets);
      others = λ n plain no. ap (λ (y : Names). get y n) same ∙ ⊎_elim
          (λ is. ap (λ (q : List ℕ). get x q) (same_eq n (intent_name b) is) ∙ done.slot ∙ sym fits.free ∙ ap (λ (q : List ℕ). get m q) (sym (same_eq n (intent_name b) is)))
          (λ other. done.others n (λ e. true_false (sym (ap (λ (q : List ℕ). same_name q (intent_name b)) e ∙ same_refl (intent_name b)) ∙ other)) (plain_apart n (intent_temp b) plain fits.batch.scratch) (plain_away n b.entries plain fits.batch.targets no))
          (cases_Bool (same_name n (intent_name b)));
      whole = each_map _ _ b.entries (λ e h. inr (ap (λ (y : Names). get y e.target) (sym same))) done.targets;
      elsewhere = λ n plain slot no. done.others n slot (plain_apart n (intent_temp b) plain fits.batch.scratch) (plain_away n b.entries plain fits.batch.targets no);
      slot = inl done.slot;
    }
