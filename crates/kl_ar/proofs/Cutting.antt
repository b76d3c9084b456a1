-- Bytes without those at their end.
use Rattle.std.proofs.Common.{◌≡◌, ℕ, zero, suc, ◌+◌, ◌<◌, Bool, true, false, not, ◌||◌, List, [], ◌∷◌, length, take, refl, sym, ap, ◌∙◌, arith, add-one}
use Rattle.std.specs.Prelude.{◌==◌}
use Rattle.bstr.specs.Bytes.{is_in, not_in}
use Rattle.bstr.specs.Find.{Nowhere, Passes}
use Rattle.kl_ar.specs.Fields.{cut_byte, without_end}

or_none : (t : Bool) → (t || false) ≡ t
or_none true = refl
or_none false = refl

of_one : (v c : ℕ) → is_in (v ∷ []) c ≡ (c == v)
unfolding is_in
of_one v c = or_none (c == v)

not_not : (t : Bool) → (not t ≡ true → ⊥) → t ≡ true
not_not true h = refl
not_not false h = absurd (h refl)

is_not : (t : Bool) → not t ≡ true → t ≡ false
is_not true e = cc
is_not false e = refl

-- a byte that is the one that is cut, and one that is kept
cut_at : (v c : ℕ) → (not_in (v ∷ []) c ≡ true → ⊥) → (c == v) ≡ true
cut_at v c h = sym (of_one v c) ∙ not_not (is_in (v ∷ []) c) h

kept_at : (v c : ℕ) → not_in (v ∷ []) c ≡ true → (c == v) ≡ false
kept_at v c p = sym (of_one v c) ∙ is_not (is_in (v ∷ []) c) p

before_some : (v c : ℕ) (xs : List ℕ) → 0 < length xs → cut_byte v c xs ≡ c ∷ xs
before_some v c [] h = absurd (omega arith)
before_some v c (x ∷ xs) h = refl

some_taken : (xs : List ℕ) (n : ℕ) → n < length xs → 0 < length (take (suc n) xs)
some_taken [] n h = absurd (omega arith)
some_taken (x ∷ xs) n h = omega arith

pub all_cut : (v : ℕ) (xs : List ℕ) → Nowhere (Passes (not_in (v ∷ [])) xs) 0 (length xs) → without_end v xs ≡ []
all_cut v [] none = refl
all_cut v (c ∷ xs) none =
    let here = cut_at v c (none 0 (omega arith) (omega arith)) in
    rw (all_cut v xs (λ k low high. none (suc k) (omega arith) (omega arith)), here) refl

cut_behind : (v : ℕ) (xs : List ℕ) (n : ℕ) → n < length xs → Passes (not_in (v ∷ [])) xs n → Nowhere (Passes (not_in (v ∷ [])) xs) (n + 1) (length xs)
    → without_end v xs ≡ take (suc n) xs
cut_behind v [] n h p none = absurd (omega arith)
cut_behind v (c ∷ xs) zero h p none =
    let here = kept_at v c p in
    rw (all_cut v xs (λ k low high. none (suc k) (omega arith) (omega arith)), here) refl
cut_behind v (c ∷ xs) (suc n) h p none =
    ap (cut_byte v c) (cut_behind v xs n (omega arith) p (λ k low high. none (suc k) (omega arith) (omega arith)))
    ∙ before_some v c (take (suc n) xs) (some_taken xs n (omega arith))

pub cut_is : (v : ℕ) (xs : List ℕ) (n : ℕ) → n < length xs → Passes (not_in (v ∷ [])) xs n → Nowhere (Passes (not_in (v ∷ [])) xs) (n + 1) (length xs)
    → take (n + 1) xs ≡ without_end v xs
cut_is v xs n h p none = rw add-one (sym (cut_behind v xs n h p none))
