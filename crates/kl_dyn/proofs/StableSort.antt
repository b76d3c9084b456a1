-- A stable sort gives what `in_order` gives.
use Rattle.std.proofs.Common.{ℕ, suc, ◌≡◌, ◌<◌, ◌≤◌, ◌∙◌, List, [], ◌∷◌, ◌++◌, length, get_or, refl, ap, sym, subst, arith, append_assoc, Bool, true, false, not, ◌&&◌, inl, inr, ◌⊎◌}
use Rattle.std.specs.Prelude.{◌==◌, filter, fold, nat_lt}
use Rattle.std.specs.Cmp.{IsStrictWeakOrder}
use Rattle.std.specs.List.Sorted.{IsSortedBy, IsSortedByKey, IsStableBy, IsStableByKey, ties}
use Rattle.std.specs.Ordering.{is_lt, nat_cmp}
use Rattle.std.proofs.lemmas.Bool.{cases_Bool}
use Rattle.std.proofs.lemmas.List.{append-nil}
use Rattle.std.proofs.lemmas.List.Elements.{filter-append}
use Rattle.std.proofs.lemmas.List.Sorted.{sorted_far, IsStrictWeakOrder-by_number}
use Rattle.kl_model.specs.Lists.{in_order, put_in}

first_is : {X : Type 0} (x y : X) (xs ys : List X) → x ∷ xs ≡ y ∷ ys → x ≡ y
first_is x y xs ys e = cc

rest_is : {X : Type 0} (x y : X) (xs ys : List X) → x ∷ xs ≡ y ∷ ys → xs ≡ ys
rest_is x y xs ys e = cc

both_false : (a b : Bool) → not a && not b ≡ true → (a ≡ false) × (b ≡ false)
both_false true b e = cc
both_false false true e = cc
both_false false false e = (refl, refl)

module _ {X : Type 0} (before : X → X → Bool) (o : IsStrictWeakOrder before) where
  -- no item of a list comes before x
  abbrev Above : X → List X → Type 0
  Above x [] = Unit {0}
  Above x (y ∷ ys) = (before y x ≡ false) × Above x ys

  -- no item comes before an earlier one
  abbrev Up : List X → Type 0
  Up [] = Unit {0}
  Up (x ∷ xs) = Above x xs × Up xs

  above_of : (x : X) (xs : List X) → ((k : ℕ) (d : X) → k < length xs → before (get_or xs k d) x ≡ false) → Above x xs
  above_of x [] h = tt
  above_of x (y ∷ ys) h = (h 0 x (omega arith), above_of x ys (λ k d l. h (suc k) d (omega (arith, l))))

  up_of : (xs : List X) → ((i j : ℕ) (d : X) → i ≤ j → j < length xs → before (get_or xs j d) (get_or xs i d) ≡ false) → Up xs
  up_of [] h = tt
  up_of (x ∷ xs) h =
      (above_of x xs (λ k d l. h 0 (suc k) d (omega arith) (omega (arith, l))), up_of xs (λ i j d l m. h (suc i) (suc j) d (omega (arith, l)) (omega (arith, m))))

  self : (x : X) → before x x ≡ false
  self x = elim (cases_Bool (before x x)) [ inl a ↦ o.one_way x x a | inr a ↦ a ]

  tied : (x : X) → ties before x x ≡ true
  tied x = let s = self x in rw s refl

  above_lower : (x y : X) (ys : List X) → before y x ≡ false → Above y ys → Above x ys
  above_lower x y [] e a = tt
  above_lower x y (z ∷ ys) e a = (o.chain z y x a.0 e, above_lower x y ys e a.1)

  above_put : (y x : X) (ys : List X) → before x y ≡ false → Above y ys → Above y (put_in before x ys)
  above_put y x [] e a = (e, tt)
  above_put y x (z ∷ ys) e a = elim (cases_Bool (before x z)) [
    | inl b ↦ rw b (e, a)
    | inr b ↦ rw b (a.0, above_put y x ys e a.1)
  ]

  up_put : (x : X) (ys : List X) → Up ys → Up (put_in before x ys)
  up_put x [] u = (tt, tt)
  up_put x (y ∷ ys) u = elim (cases_Bool (before x y)) [
    | inl b ↦ rw b ((o.one_way x y b, above_lower x y ys (o.one_way x y b) u.0), u)
    | inr b ↦ rw b (above_put y x ys b u.0, up_put x ys u.1)
  ]

  up_fold : (ys xs : List X) → Up ys → Up (fold (λ ys x. put_in before x ys) ys xs)
  up_fold ys [] u = u
  up_fold ys (x ∷ xs) u = up_fold (put_in before x ys) xs (up_put x ys u)

  -- where x comes before the first of a list, none of it ties with what x ties with
  apart : (w x y z : X) → ties before w x ≡ true → before x y ≡ true → before z y ≡ false → ties before w z ≡ false
  apart w x y z t b a = elim (cases_Bool (ties before w z)) [
    | inr n ↦ n
    | inl s ↦
        let one = both_false (before w x) (before x w) t in
        let two = both_false (before w z) (before z w) s in
        let no : true ≡ false = sym b ∙ o.chain x z y (o.chain x w z one.1 two.0) a in
        cc
  ]

  none_tie : (w x y : X) (ys : List X) → ties before w x ≡ true → before x y ≡ true → Above y ys → filter (ties before w) ys ≡ []
  none_tie w x y [] t b a = refl
  none_tie w x y (z ∷ ys) t b a = let n = apart w x y z t b a.0 in rw n (none_tie w x y ys t b a.1)

  put_stable : (w x : X) (ys : List X) → Up ys → filter (ties before w) (put_in before x ys) ≡ filter (ties before w) (ys ++ x ∷ [])
  put_stable w x [] u = refl
  put_stable w x (y ∷ ys) u = elim (cases_Bool (before x y)) [
    | inr b ↦ rw (b, put_stable w x ys u.1) refl
    | inl b ↦ rw b (first b (cases_Bool (ties before w x)))
  ]
    where
      first : before x y ≡ true → (ties before w x ≡ true) ⊎ (ties before w x ≡ false) → filter (ties before w) (x ∷ y ∷ ys) ≡ filter (ties before w) ((y ∷ ys) ++ x ∷ [])
      first b (inr n) = rw (filter-append (ties before w) (y ∷ ys) (x ∷ []), n) (sym (append-nil (filter (ties before w) (y ∷ ys))))
      first b (inl t) =
          let none : filter (ties before w) (y ∷ ys) ≡ [] = none_tie w x y (y ∷ ys) t b (self y, u.0) in
          rw (filter-append (ties before w) (y ∷ ys) (x ∷ []), t, none) refl

  fold_stable : (w : X) (ys xs : List X) → Up ys → filter (ties before w) (fold (λ ys x. put_in before x ys) ys xs) ≡ filter (ties before w) (ys ++ xs)
  fold_stable w ys [] u = rw append-nil refl
  fold_stable w ys (x ∷ xs) u =
      fold_stable w (put_in before x ys) xs (up_put x ys u)
      ∙ (filter-append (ties before w) (put_in before x ys) xs
      ∙ (ap (λ l. l ++ filter (ties before w) xs) (put_stable w x ys u)
      ∙ (sym (filter-append (ties before w) (ys ++ x ∷ []) xs) ∙ ap (filter (ties before w)) (append_assoc ys (x ∷ []) xs))))

  -- an item that stands behind another doesn't come before it
  kept_above : (p : X → Bool) (z : X) (zs : List X) (y : X) (ys : List X) → filter p zs ≡ y ∷ ys → Above z zs → before y z ≡ false
  kept_above p z [] y ys e a = cc
  kept_above p z (v ∷ zs) y ys e a = elim (cases_Bool (p v)) [
    | inl h ↦ let is : v ≡ y = first_is v y (filter p zs) ys (rw h at e) in subst (λ v. before v z ≡ false) is a.0
    | inr h ↦ kept_above p z zs y ys (rw h at e) a.1
  ]

  abbrev Alike : List X → List X → Type 0
  Alike ys zs = (w : X) → filter (ties before w) ys ≡ filter (ties before w) zs

  same_first : (y z : X) (ys zs : List X) → Up (y ∷ ys) → Up (z ∷ zs) → Alike (y ∷ ys) (z ∷ zs) → y ≡ z
  same_first y z ys zs u v same = elim (cases_Bool (ties before y z)) [
    | inl a ↦ first_is y z _ _ (rw (tied y, a) at (same y))
    | inr a ↦ elim (cases_Bool (ties before z y)) [
      | inl b ↦ first_is y z _ _ (rw (tied z, b) at (same z))
      | inr b ↦
          let one : before y z ≡ false = kept_above (ties before y) z zs y (filter (ties before y) ys) (sym (rw (tied y, a) at (same y))) v.0 in
          let two : before z y ≡ false = kept_above (ties before z) y ys z (filter (ties before z) zs) (rw (tied z, b) at (same z)) u.0 in
          let no : true ≡ false = rw (one, two) at a in
          cc
    ]
  ]

  same_rest : (y : X) (ys zs : List X) → Alike (y ∷ ys) (y ∷ zs) → Alike ys zs
  same_rest y ys zs same w = elim (cases_Bool (ties before w y)) [
    | inl a ↦ rest_is y y _ _ (rw a at (same w))
    | inr a ↦ rw a at (same w)
  ]

  unique : (ys zs : List X) → Up ys → Up zs → Alike ys zs → ys ≡ zs
  unique [] [] u v same = refl
  unique [] (z ∷ zs) u v same = let no : [] ≡ z ∷ filter (ties before z) zs = rw (tied z) at (same z) in cc
  unique (y ∷ ys) [] u v same = let no : y ∷ filter (ties before y) ys ≡ [] = rw (tied y) at (same y) in cc
  unique (y ∷ ys) (z ∷ zs) u v same =
      let first : z ≡ y = sym (same_first y z ys zs u v same) in
      let same2 : Alike (y ∷ ys) (y ∷ zs) = subst (λ z. Alike (y ∷ ys) (z ∷ zs)) first same in
      rw first (ap (λ l. y ∷ l) (unique ys zs u.1 v.1 (same_rest y ys zs same2)))

  -- what a stable sort gives
  pub stable_in_order : (xs ys : List X) → IsSortedBy before ys → IsStableBy before xs ys → ys ≡ in_order before xs
  stable_in_order xs ys sorted stable =
      unique ys (in_order before xs) (up_of ys (sorted_far before o ys sorted)) (up_fold [] xs tt) (λ w. stable w ∙ sym (fold_stable w [] xs tt))

-- which of two numbers is less
less_is : (a b : ℕ) → is_lt (nat_cmp a b) ≡ nat_lt a b
less_is a b = elim (cases_Bool (nat_lt a b)) [
  | inl l ↦ rw l refl
  | inr l ↦ rw l (elim (cases_Bool (a == b)) [ inl e ↦ rw e refl | inr e ↦ rw e refl ])
]

-- the same by numbers
pub sort_by_number : {X : Type 0} (key : X → ℕ) (xs ys : List X) → IsSortedByKey key nat_cmp ys → IsStableByKey key nat_cmp xs ys
    → ys ≡ in_order (λ x y. nat_lt (key x) (key y)) xs
sort_by_number {X = X} key xs ys sorted stable =
    let same : (λ (x y : X). is_lt (nat_cmp (key x) (key y))) ≡ (λ (x y : X). nat_lt (key x) (key y)) = λ i x y. less_is (key x) (key y) i in
    stable_in_order (λ x y. nat_lt (key x) (key y)) (IsStrictWeakOrder-by_number key) xs ys (subst (λ b. IsSortedBy b ys) same sorted) (subst (λ b. IsStableBy b xs ys) same stable)
