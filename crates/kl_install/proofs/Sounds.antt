-- The test of an entry decides whether it is sound.
use Rattle.std.proofs.Common.{◌≡◌, inl, inr, ◌⊎◌, ⊎_elim, true, false, ◌&&◌, ◌||◌, ℕ, List, [], ◌∷◌, refl, sym, ap, ◌∙◌}
use Rattle.std.specs.Prelude.{Option, Some, None, option_map, is_none}
use Rattle.std.specs.List.{list_all}
use Rattle.std.specs.FinMap.{get}
use Rattle.std.proofs.lemmas.Slice.Eq.{bytes_eq-Decides}
use Rattle.std.proofs.lemmas.Bool.{and_from, or_left, or_right, or_cases}
use Rattle.sha2.specs.Sha256.{sha256}
use Rattle.kl_base.proofs.Bools.{and_left, and_right, true_false}
use Rattle.kl_store.specs.Names.{Names}
use Rattle.kl_intent.specs.declared.intent.Entry.{Entry}
use Rattle.kl_install.specs.After.{digest_at, same_digest, is_sound, temp_of}
use Rattle.kl_install.specs.Standing.{IsSound}
use Rattle.kl_install.specs.Batch.{Each}

same_Some : {A : Type 0} (x y : A) → ◌≡◌ {A = Option A} (Some x) (Some y) → x ≡ y
same_Some x y e = cc

digests_same : (a b : Option (List ℕ)) → a ≡ b → same_digest a b ≡ true
digests_same None None e = refl
digests_same None (Some b) e = cc
digests_same (Some a) None e = cc
digests_same (Some a) (Some b) e = (bytes_eq-Decides a b).1 (same_Some a b e)

same_digests : (a b : Option (List ℕ)) → same_digest a b ≡ true → a ≡ b
same_digests None None e = refl
same_digests None (Some b) e = cc
same_digests (Some a) None e = cc
same_digests (Some a) (Some b) e = ap (λ (l : List ℕ). Some l) ((bytes_eq-Decides a b).0 e)

no_file : (o : Option (List ℕ)) → is_none (option_map sha256 o) ≡ true → o ≡ None
no_file None e = refl
no_file (Some b) e = cc

pub sound_is : (m : Names) (e : Entry) → is_sound m e ≡ true → IsSound m e
sound_is m e is =
    let target = digest_at m e.target in
    let temp = digest_at m (temp_of e) in
    let new = same_digest target (Some e.new) in
    let left = is_none temp || same_digest temp (Some e.new) in
    let old = same_digest target e.old in
    let waits = same_digest temp (Some e.new) in
    ⊎_elim
    (λ (p : (new && left) ≡ true). inl (record {
      target = same_digests target (Some e.new) (and_left new left p);
      temp = ⊎_elim (λ none. inl (no_file (get m (temp_of e)) none)) (λ some. inr (same_digests temp (Some e.new) some)) (or_cases (is_none temp) waits (and_right new left p));
    }))
    (λ (p : (old && waits) ≡ true). inr (record { target = same_digests target e.old (and_left old waits p); temp = same_digests temp (Some e.new) (and_right old waits p) }))
    (or_cases (new && left) (old && waits) is)

pub is_sound_so : (m : Names) (e : Entry) → IsSound m e → is_sound m e ≡ true
is_sound_so m e (inl new) = or_left _ _ (and_from _ _ (digests_same (digest_at m e.target) (Some e.new) new.target)
    (⊎_elim
    (λ none. or_left (is_none (digest_at m (temp_of e))) _ (ap (λ (o : Option (List ℕ)). is_none (option_map sha256 o)) none))
    (λ some. or_right (is_none (digest_at m (temp_of e))) _ (digests_same (digest_at m (temp_of e)) (Some e.new) some)) new.temp))
is_sound_so m e (inr old) = or_right _ _ (and_from _ _ (digests_same (digest_at m e.target) e.old old.target) (digests_same (digest_at m (temp_of e)) (Some e.new) old.temp))

pub is_unsound : (m : Names) (e : Entry) → is_sound m e ≡ false → ¬ IsSound m e
is_unsound m e fails sound = true_false (sym (is_sound_so m e sound) ∙ fails)

pub each_sound : (m : Names) (es : List Entry) → list_all (is_sound m) es ≡ true → Each (IsSound m) es
each_sound m [] e = tt
each_sound m (x ∷ es) e = (sound_is m x (and_left (is_sound m x) (list_all (is_sound m) es) e), each_sound m es (and_right (is_sound m x) (list_all (is_sound m) es) e))

pub all_sound_so : (m : Names) (es : List Entry) → Each (IsSound m) es → list_all (is_sound m) es ≡ true
all_sound_so m [] sound = refl
all_sound_so m (e ∷ es) sound = and_from _ _ (is_sound_so m e sound.0) (all_sound_so m es sound.1)
