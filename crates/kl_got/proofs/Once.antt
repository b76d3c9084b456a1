-- Lists in which each item stands once: one item more.
use Rattle.std.proofs.Common.{ℕ, zero, suc, ◌≡◌, ◌+◌, ◌∙◌, List, [], ◌∷◌, ◌++◌, length, refl, ap, sym, Bool, true, false, not, ◌||◌, cond, inl, inr, arith}
use Rattle.std.specs.Prelude.{Some, None, Option, filter}
use Rattle.std.specs.Option.{option_or}
use Rattle.std.specs.List.{list_any, position_from}
use Rattle.std.proofs.lemmas.Bool.{cases_Bool}
use Rattle.std.proofs.lemmas.List.{append-nil}
use Rattle.std.proofs.lemmas.List.Elements.{filter-append}
use Rattle.kl_model.specs.Lists.{once, only_if}

or_none : {X : Type 0} (o : Option X) → option_or o None ≡ o
or_none None = refl
or_none (Some x) = refl

-- a test that tells equal items apart from others
module _ {X : Type 0} (same : X → X → Bool) (is : (a b : X) → same a b ≡ true → a ≡ b) (self : (a : X) → same a a ≡ true) where
  pub other_way : (a b : X) → same a b ≡ false → same b a ≡ false
  other_way a b e = elim (cases_Bool (same b a)) [
    | inl t ↦ let s : b ≡ a = is b a t in let no : true ≡ false = sym (self a) ∙ rw s at e in cc
    | inr f ↦ f
  ]

  -- items with one more, unless it stands there
  abbrev pub with_one : List X → X → List X
  with_one xs t = xs ++ only_if (not (list_any (same t) xs)) t

  pub found-any : (n : ℕ) (xs : List X) (t : X) (k : ℕ) → position_from (same t) n xs ≡ Some k → list_any (same t) xs ≡ true
  found-any n [] t k e = cc
  found-any n (m ∷ ms) t k e = elim (cases_Bool (same t m)) [
    | inl a ↦ rw a refl
    | inr a ↦ rw a (found-any (n + 1) ms t k (rw a at e))
  ]

  pub missing-any : (n : ℕ) (xs : List X) (t : X) → position_from (same t) n xs ≡ None → list_any (same t) xs ≡ false
  missing-any n [] t e = refl
  missing-any n (m ∷ ms) t e = elim (cases_Bool (same t m)) [
    | inl a ↦ let no : Some n ≡ None = rw a at e in cc
    | inr a ↦ rw a (missing-any (n + 1) ms t (rw a at e))
  ]

  place_push : (n : ℕ) (xs : List X) (t q : X)
      → position_from (same q) n (xs ++ t ∷ []) ≡ option_or (position_from (same q) n xs) (cond (same q t) (Some (n + length xs)) None)
  place_push n [] t q = let e : n + zero ≡ n = omega arith in rw e refl
  place_push n (m ∷ ms) t q = elim (cases_Bool (same q m)) [
    | inl a ↦ rw a refl
    | inr a ↦ let e : n + 1 + length ms ≡ n + suc (length ms) = omega arith in rw a (place_push (n + 1) ms t q ∙ rw e refl)
  ]

  -- the number of an item among items with one more
  pub place_new : (xs : List X) (t q : X) → position_from (same t) 0 xs ≡ None
      → position_from (same q) 0 (xs ++ t ∷ []) ≡ cond (same t q) (Some (length xs)) (position_from (same q) 0 xs)
  place_new xs t q new = let z : 0 + length xs ≡ length xs = omega arith in (rw z at (place_push 0 xs t q)) ∙ (elim (cases_Bool (same t q)) [
    | inl a ↦ let s : t ≡ q = is t q a in
        let back : same q t ≡ true = rw s (self q) in
        let none : position_from (same q) 0 xs ≡ None = rw s at new in rw (a, back, none) refl
    | inr a ↦ rw (a, other_way t q a) (or_none _)
  ])

  pub place_last : (xs : List X) (t : X) → position_from (same t) 0 xs ≡ None → position_from (same t) 0 (xs ++ t ∷ []) ≡ Some (length xs)
  place_last xs t e = place_new xs t t e ∙ (let s = self t in rw s refl)

  -- an item that stands already, and one that doesn't
  pub with_old : (xs : List X) (t : X) → list_any (same t) xs ≡ true → xs ≡ with_one xs t
  with_old xs t h = rw h (sym (append-nil xs))

  pub with_new : (xs : List X) (t : X) → list_any (same t) xs ≡ false → xs ++ t ∷ [] ≡ with_one xs t
  with_new xs t h = rw h refl

  -- one item more
  pub once_push : (ts : List X) (t : X) → once same (ts ++ t ∷ []) ≡ with_one (once same ts) t
  once_push [] t = refl
  once_push (m ∷ ms) t =
      let others = λ (y : X). not (same m y) in
      let kept = once same ms in
      ap (λ l. m ∷ filter others l) (once_push ms t)
      ∙ (ap (λ l. m ∷ l) (filter-append others kept (only_if (not (list_any (same t) kept)) t))
      ∙ ap (λ l. m ∷ filter others kept ++ l) (last_of m t kept))
    where
      any-filter : (p : X → Bool) (t : X) → p t ≡ true → (xs : List X) → list_any (same t) (filter p xs) ≡ list_any (same t) xs
      any-filter p t e [] = refl
      any-filter p t e (x ∷ xs) = elim (cases_Bool (same t x)) [
        | inl a ↦ let s : t ≡ x = is t x a in let keeps : p x ≡ true = rw s at e in rw (keeps, a) refl
        | inr a ↦ elim (cases_Bool (p x)) [
          | inl b ↦ rw (b, a) (any-filter p t e xs)
          | inr b ↦ rw (b, a) (any-filter p t e xs)
        ]
      ]

      last_of : (m t : X) (kept : List X) → filter (λ y. not (same m y)) (only_if (not (list_any (same t) kept)) t)
          ≡ only_if (not (same t m || list_any (same t) (filter (λ y. not (same m y)) kept))) t
      last_of m t kept = elim (cases_Bool (same t m)) [
        | inl a ↦
            let back : same m t ≡ true = (let s : t ≡ m = is t m a in rw s (self m)) in
            rw a (elim (cases_Bool (list_any (same t) kept)) [ inl b ↦ rw b refl | inr b ↦ rw (b, back) refl ])
        | inr a ↦
            let back = other_way t m a in
            let passes : not (same m t) ≡ true = rw back refl in
            rw (a, any-filter (λ y. not (same m y)) t passes kept) (elim (cases_Bool (list_any (same t) kept)) [ inl b ↦ rw b refl | inr b ↦ rw (b, back) refl ])
      ]
