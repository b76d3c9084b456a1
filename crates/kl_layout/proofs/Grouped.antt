-- Items by their keys: a list is the groups of all keys, in another order.
use Rattle.std.proofs.Common.{ℕ, suc, ◌≡◌, List, [], ◌∷◌, ◌++◌, refl, Bool, true, false, not, ◌&&◌, ◌||◌, inl, inr, eq-eqb}
use Rattle.std.specs.Prelude.{flat_map, ◌==◌, IsPermutation}
use Rattle.std.proofs.lemmas.Bool.{cases_Bool, eqb-true}
use Rattle.std.proofs.lemmas.List.Sorted.{IsPermutation-refl, IsPermutation-sym, IsPermutation-cons, IsPermutation-trans, IsPermutation-middle, IsPermutation-append_right}
use Rattle.kl_model.specs.Lists.{each_from, only_if, number_in}
use Rattle.kl_model.proofs.Each.{each-same}
use Rattle.kl_layout.specs.Once.{AreDistinct}

not_both : (a b : ℕ) → (a == b) ≡ false → (b == a) ≡ true → ⊥
not_both a b differ same = let e : b ≡ a = eqb-true b a same in let both : (a == a) ≡ false = rw e at differ in let self : (a == a) ≡ true = eq-eqb a a refl in cc

or_true : (a b : Bool) → (a || b) ≡ true → a ≡ false → b ≡ true
or_true true b e h = cc
or_true false b e h = e

or_false : (a b : Bool) → (a || b) ≡ false → (a ≡ false) × (b ≡ false)
or_false true b e = cc
or_false false b e = (refl, e)

module _ {X Y : Type 0} (f : ℕ → X → Y) where
  -- those of a list that pass a test, by place
  abbrev pub passing : (X → Bool) → ℕ → List X → List Y
  passing t n xs = each_from n (λ k x. only_if (t x) (f k x)) xs

  pub passing-same : (t u : X → Bool) (n : ℕ) (xs : List X) → ((x : X) → t x ≡ u x) → passing t n xs ≡ passing u n xs
  passing-same t u n xs same = each-same n _ _ xs (λ k x. rw (same x) refl)

  pub passing-none : (t : X → Bool) (n : ℕ) (xs : List X) → ((x : X) → t x ≡ false) → passing t n xs ≡ []
  passing-none t n [] none = refl
  passing-none t n (x ∷ xs) none = rw (none x) (passing-none t (suc n) xs none)

  -- those that pass another test too, and those that don't
  pub passing-both : (t p : X → Bool) (n : ℕ) (xs : List X) → IsPermutation (passing t n xs) (passing (λ x. t x && p x) n xs ++ passing (λ x. t x && not (p x)) n xs)
  passing-both t p n [] = IsPermutation-refl []
  passing-both t p n (x ∷ xs) =
      let rest = passing-both t p (suc n) xs in
      let some = passing (λ x. t x && p x) (suc n) xs in
      let others = passing (λ x. t x && not (p x)) (suc n) xs in
      elim (cases_Bool (t x)) [
        | inr a ↦ rw a rest
        | inl a ↦ elim (cases_Bool (p x)) [
          | inl b ↦ rw (a, b) (IsPermutation-cons (f n x) _ _ rest)
          | inr b ↦ rw (a, b) (IsPermutation-trans _ _ _ (IsPermutation-cons (f n x) _ _ rest) (IsPermutation-sym _ _ (IsPermutation-middle some (f n x) others)))
        ]
      ]

  -- each key's items are those of its group
  pub passing-keys : (key : X → ℕ) (keys : List ℕ) (t : X → Bool) (n : ℕ) (xs : List X) → AreDistinct keys → ((x : X) → t x ≡ true → number_in keys (key x) ≡ true)
      → IsPermutation (passing t n xs) (flat_map (λ k. passing (λ x. t x && (key x == k)) n xs) keys)
  passing-keys key [] t n xs distinct known =
      rw (passing-none t n xs (λ x. elim (cases_Bool (t x)) [ inl a ↦ (let bad : false ≡ true = known x a in cc) | inr a ↦ a ])) (IsPermutation-refl [])
  passing-keys key (k ∷ ks) t n xs distinct known =
      IsPermutation-trans _ _ _ (passing-both t (λ x. key x == k) n xs)
      (IsPermutation-append_right (passing (λ x. t x && (key x == k)) n xs) _ _ (rw (go ks distinct.0) at (passing-keys key ks (λ x. t x && not (key x == k)) n xs distinct.1 rest)))
    where
      rest : (x : X) → (t x && not (key x == k)) ≡ true → number_in ks (key x) ≡ true
      rest x e = elim (cases_Bool (key x == k)) [
        | inl a ↦ (let bad : (t x && false) ≡ true = rw a at e in elim (cases_Bool (t x)) [ inl b ↦ (let m : false ≡ true = rw b at bad in cc) | inr b ↦ (let m : false ≡ true = rw b at bad in cc) ])
        | inr a ↦
            let passes : t x ≡ true = elim (cases_Bool (t x)) [ inl b ↦ b | inr b ↦ (let m : false ≡ true = rw b at e in cc) ] in
            let other : (k == key x) ≡ false = elim (cases_Bool (k == key x)) [ inl b ↦ absurd (not_both (key x) k a b) | inr b ↦ b ] in
            or_true (k == key x) (number_in ks (key x)) (known x passes) other
      ]

      same : (j : ℕ) → (j == k) ≡ false → (x : X) → ((t x && not (key x == k)) && (key x == j)) ≡ (t x && (key x == j))
      same j differ x = elim (cases_Bool (t x)) [
        | inr a ↦ rw a refl
        | inl a ↦ elim (cases_Bool (key x == j)) [
          | inr b ↦ elim (cases_Bool (key x == k)) [ inl c ↦ rw (a, b, c) refl | inr c ↦ rw (a, b, c) refl ]
          | inl b ↦
              let is : key x ≡ j = eqb-true (key x) j b in
              let apart : (key x == k) ≡ false = rw is differ in
              rw (a, b, apart) refl
        ]
      ]

      go : (js : List ℕ) → number_in js k ≡ false
          → flat_map (λ j. passing (λ x. (t x && not (key x == k)) && (key x == j)) n xs) js ≡ flat_map (λ j. passing (λ x. t x && (key x == j)) n xs) js
      go [] e = refl
      go (j ∷ js) e =
          let parts = or_false (j == k) (number_in js k) e in
          rw (passing-same (λ x. (t x && not (key x == k)) && (key x == j)) (λ x. t x && (key x == j)) n xs (same j parts.0), go js parts.1) refl
