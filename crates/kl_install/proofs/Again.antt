-- Recovery that was stopped leads to the same names.
use Rattle.std.proofs.Common.{◌≡◌, ◌≢◌, ⊎_elim, ℕ, Bool, true, false, ◌&&◌, ◌||◌, List, [], ◌∷◌, ◌++◌, refl, sym, ap, ◌∙◌, is_some}
use Rattle.std.specs.Prelude.{Option, Some, None, option_map, is_none}
use Rattle.std.specs.FinMap.{get}
use Rattle.std.proofs.lemmas.Bool.{cond-true, cond-false, and_from, or_left}
use Rattle.kl_store.specs.Names.{Names, Rename, carried_out}
use Rattle.kl_store.proofs.Disks.{some_or}
use Rattle.kl_intent.specs.declared.intent.Entry.{Entry}
use Rattle.sha2.specs.Sha256.{sha256}
use Rattle.kl_install.specs.After.{digest_at, same_digest, is_sound, moved, all_moved, temp_of}
use Rattle.kl_install.specs.Batch.{Each, AreApart}
use Rattle.kl_install.proofs.Recovered.{each_map, each_both, renamed_to, renamed_from, moved_other, all_moved_other}

pub all_moved-append : (xs ys : List Entry) (x : Names) → all_moved (xs ++ ys) x ≡ all_moved ys (all_moved xs x)
all_moved-append [] ys x = refl
all_moved-append (e ∷ xs) ys x = all_moved-append xs ys (moved e x)

-- the temporary is gone
pub moved_gone : (e : Entry) (x : Names) → e.target ≢ (temp_of e) → get (moved e x) (temp_of e) ≡ None
moved_gone e x apart = ⊎_elim
    (λ some. ap (λ (y : Names). get y (temp_of e)) (cond-true (is_some (get x (temp_of e))) _ _ (ap is_some some.1)) ∙ renamed_from x (temp_of e) e.target (λ is. apart (sym is)))
    (λ none. ap (λ (y : Names). get y (temp_of e)) (cond-false (is_some (get x (temp_of e))) _ _ (ap is_some none)) ∙ none)
    (some_or (get x (temp_of e)))

pub all_gone : (es : List Entry) (x : Names) → AreApart es → Each (λ e. get (all_moved es x) (temp_of e) ≡ None) es
all_gone [] x apart = tt
all_gone (e ∷ es) x apart = (all_moved_other es (moved e x) (temp_of e) apart.2 ∙ moved_gone e x apart.0, all_gone es (moved e x) apart.3)

none_left : (es : List Entry) (x : Names) → Each (λ e. get x (temp_of e) ≡ None) es → all_moved es x ≡ x
none_left [] x gone = refl
none_left (e ∷ es) x gone =
    let same : moved e x ≡ x = cond-false (is_some (get x (temp_of e))) _ _ (ap is_some gone.0) in
    ap (all_moved es) same ∙ none_left es x gone.1

pub moved_again : (done rest : List Entry) (y : Names) → AreApart done → all_moved (done ++ rest) (all_moved done y) ≡ all_moved (done ++ rest) y
moved_again done rest y apart = all_moved-append done rest (all_moved done y) ∙ ap (all_moved rest) (none_left done (all_moved done y) (all_gone done y apart)) ∙ sym (all_moved-append done rest y)

pub waiting_new : (p q r : Bool) → ((p && (false || q)) || (r && q)) ≡ true → q ≡ true
waiting_new p true r e = refl
waiting_new true false true e = e
waiting_new true false false e = e
waiting_new false false true e = e
waiting_new false false false e = e

-- an entry that was sound is sound when its file has moved
moved_sound : (e : Entry) (y : Names) → e.target ≢ (temp_of e) → is_sound y e ≡ true → is_sound (moved e y) e ≡ true
moved_sound e y apart sound = ⊎_elim
    (λ some.
    let same : moved e y ≡ carried_out (Rename (temp_of e) e.target) y = cond-true (is_some (get y (temp_of e))) _ _ (ap is_some some.1) in
    let target : get (moved e y) e.target ≡ get y (temp_of e) = ap (λ (z : Names). get z e.target) same ∙ renamed_to y (temp_of e) e.target in
    let new : same_digest (digest_at y (temp_of e)) (Some e.new) ≡ true =
    waiting_new (same_digest (digest_at y e.target) (Some e.new)) _ (same_digest (digest_at y e.target) e.old)
    (ap (λ b. (same_digest (digest_at y e.target) (Some e.new) && (b || same_digest (digest_at y (temp_of e)) (Some e.new))) || (same_digest (digest_at y e.target) e.old && same_digest (digest_at y (temp_of e)) (Some e.new))) (sym (ap (λ (o : Option (List ℕ)). is_none (option_map sha256 o)) some.1)) ∙ sound) in
    or_left _ _ (and_from _ _ (ap (λ (o : Option (List ℕ)). same_digest (option_map sha256 o) (Some e.new)) target ∙ new) (or_left (is_none (digest_at (moved e y) (temp_of e))) _ (ap (λ (o : Option (List ℕ)). is_none (option_map sha256 o)) (moved_gone e y apart)))))
    (λ none. ap (λ (z : Names). is_sound z e) (cond-false (is_some (get y (temp_of e))) _ _ (ap is_some none)) ∙ sound)
    (some_or (get y (temp_of e)))

-- soundness reads the entry's two names alone
pub sound_same : (e : Entry) (x y : Names) → get x e.target ≡ get y e.target → get x (temp_of e) ≡ get y (temp_of e) → is_sound x e ≡ is_sound y e
sound_same e x y p q =
    ap (λ (o : Option (List ℕ)). (same_digest (option_map sha256 o) (Some e.new) && (is_none (digest_at x (temp_of e)) || same_digest (digest_at x (temp_of e)) (Some e.new))) || (same_digest (option_map sha256 o) e.old && same_digest (digest_at x (temp_of e)) (Some e.new))) p
    ∙ ap (λ (o : Option (List ℕ)). (same_digest (digest_at y e.target) (Some e.new) && (is_none (option_map sha256 o) || same_digest (option_map sha256 o) (Some e.new))) || (same_digest (digest_at y e.target) e.old && same_digest (option_map sha256 o) (Some e.new))) q

turned : (a b : List ℕ) → a ≢ b → b ≢ a
turned a b p e = p (sym e)

-- after one move all entries are sound still
pub sound_on : (done : List Entry) (y : Names) → AreApart done → Each (λ e. is_sound y e ≡ true) done → Each (λ e. is_sound (all_moved done y) e ≡ true) done
sound_on [] y apart sound = tt
sound_on (e ∷ done) y apart sound = (
  sound_same e (all_moved done (moved e y)) (moved e y) (all_moved_other done (moved e y) e.target apart.1) (all_moved_other done (moved e y) (temp_of e) apart.2) ∙ moved_sound e y apart.0 sound.0,
  sound_on done (moved e y) apart.3 (each_map _ _ done (λ f h. sound_same f (moved e y) y (moved_other e y f.target (turned _ _ h.0.0.0) (turned _ _ h.0.1.0)) (moved_other e y (temp_of f) (turned _ _ h.0.0.1) (turned _ _ h.0.1.1)) ∙ h.1)
      (each_both _ _ done (each_both _ _ done apart.1 apart.2) sound.1)),
)
