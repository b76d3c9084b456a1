-- Names by number: one name more, and that no name stands twice.
use Rattle.std.proofs.Common.{ℕ, zero, suc, ◌≡◌, ◌+◌, ◌∙◌, List, [], ◌∷◌, ◌++◌, length, refl, ap, sym, Bool, true, false, not, ◌||◌, cond, inl, inr, arith, rules}
use Rattle.std.specs.Prelude.{Some, None, Option, slice_get, filter}
use Rattle.std.specs.Option.{option_or}
use Rattle.std.specs.Str.{bytes_eq}
use Rattle.std.specs.List.{position_from}
use Rattle.std.proofs.lemmas.Bool.{cases_Bool}
use Rattle.std.proofs.lemmas.List.{append-nil}
use Rattle.std.proofs.lemmas.List.Elements.{filter-append}
use Rattle.std.proofs.lemmas.Slice.Eq.{bytes_eq-Decides}
use Rattle.kl_model.specs.Lists.{among, once, only_if}
use Rattle.kl_names.specs.Numbers.{place_in, with_name}

pub same_text : (a b : List ℕ) → bytes_eq a b ≡ true → a ≡ b
same_text a b e = search (rules, bytes_eq-Decides)

pub same_self : (a : List ℕ) → bytes_eq a a ≡ true
same_self a = search (rules, bytes_eq-Decides)

pub other_way : (a b : List ℕ) → bytes_eq a b ≡ false → bytes_eq b a ≡ false
other_way a b e = elim (cases_Bool (bytes_eq b a)) [
  | inl t ↦ let s : b ≡ a = same_text b a t in let no : true ≡ false = sym (same_self a) ∙ rw s at e in cc
  | inr f ↦ f
]

-- where a name is found, and where it isn't
module _ (t : List ℕ) where
  pub found-among : (n : ℕ) (names : List (List ℕ)) (k : ℕ) → position_from (bytes_eq t) n names ≡ Some k → among names t ≡ true
  found-among n [] k e = cc
  found-among n (m ∷ ms) k e = elim (cases_Bool (bytes_eq t m)) [
    | inl a ↦ rw a refl
    | inr a ↦ rw a (found-among (n + 1) ms k (rw a at e))
  ]

  pub missing-among : (n : ℕ) (names : List (List ℕ)) → position_from (bytes_eq t) n names ≡ None → among names t ≡ false
  missing-among n [] e = refl
  missing-among n (m ∷ ms) e = elim (cases_Bool (bytes_eq t m)) [
    | inl a ↦ let no : Some n ≡ None = rw a at e in cc
    | inr a ↦ rw a (missing-among (n + 1) ms (rw a at e))
  ]

or_none : {X : Type 0} (o : Option X) → option_or o None ≡ o
or_none None = refl
or_none (Some x) = refl

-- the number of a name among names with one more
pub place_push : (n : ℕ) (names : List (List ℕ)) (t q : List ℕ)
    → position_from (bytes_eq q) n (names ++ t ∷ []) ≡ option_or (position_from (bytes_eq q) n names) (cond (bytes_eq q t) (Some (n + length names)) None)
place_push n [] t q = let e : n + zero ≡ n = omega arith in rw e refl
place_push n (m ∷ ms) t q = elim (cases_Bool (bytes_eq q m)) [
  | inl a ↦ rw a refl
  | inr a ↦ let e : n + 1 + length ms ≡ n + suc (length ms) = omega arith in rw a (place_push (n + 1) ms t q ∙ rw e refl)
]

pub place_new : (names : List (List ℕ)) (t q : List ℕ) → place_in names t ≡ None
    → place_in (names ++ t ∷ []) q ≡ cond (bytes_eq t q) (Some (length names)) (place_in names q)
place_new names t q new = let z : 0 + length names ≡ length names = omega arith in (rw z at (place_push 0 names t q)) ∙ (elim (cases_Bool (bytes_eq t q)) [
  | inl a ↦ let s : t ≡ q = same_text t q a in
      let back : bytes_eq q t ≡ true = rw s (same_self q) in
      let none : place_in names q ≡ None = rw s at new in rw (a, back, none) refl
  | inr a ↦ rw (a, other_way t q a) (or_none _)
])

-- a test that tells alike names apart from none keeps a name among those that pass it
among-filter : (p : List ℕ → Bool) (t : List ℕ) → p t ≡ true → (names : List (List ℕ)) → among (filter p names) t ≡ among names t
among-filter p t e [] = refl
among-filter p t e (m ∷ ms) = elim (cases_Bool (bytes_eq t m)) [
  | inl a ↦ let s : t ≡ m = same_text t m a in let keeps : p m ≡ true = rw s at e in rw (keeps, a) refl
  | inr a ↦ elim (cases_Bool (p m)) [
    | inl b ↦ rw (b, a) (among-filter p t e ms)
    | inr b ↦ rw (b, a) (among-filter p t e ms)
  ]
]

-- a name stands among names once where it stands among them
pub among-once : (ts : List (List ℕ)) (t : List ℕ) → among (once bytes_eq ts) t ≡ among ts t
among-once [] t = refl
among-once (m ∷ ms) t = elim (cases_Bool (bytes_eq t m)) [
  | inl a ↦ rw a refl
  | inr a ↦
      let back = other_way t m a in
      let passes : not (bytes_eq m t) ≡ true = rw back refl in
      rw (a, among-filter (λ y. not (bytes_eq m y)) t passes (once bytes_eq ms)) (among-once ms t)
]

-- one name more, of names that stand once
pub names_push : (ts : List (List ℕ)) (t : List ℕ) → once bytes_eq (ts ++ t ∷ []) ≡ with_name (once bytes_eq ts) t
names_push [] t = refl
names_push (m ∷ ms) t =
    let others = λ (y : List ℕ). not (bytes_eq m y) in
    let kept = once bytes_eq ms in
    ap (λ l. m ∷ filter others l) (names_push ms t)
    ∙ (ap (λ l. m ∷ l) (filter-append others kept (only_if (not (among kept t)) t))
    ∙ ap (λ l. m ∷ filter others kept ++ l) (last kept))
  where
    last : (kept : List (List ℕ)) → filter (λ y. not (bytes_eq m y)) (only_if (not (among kept t)) t)
        ≡ only_if (not (bytes_eq t m || among (filter (λ y. not (bytes_eq m y)) kept) t)) t
    last kept = elim (cases_Bool (bytes_eq t m)) [
      | inl a ↦
          let back : bytes_eq m t ≡ true = (let s : t ≡ m = same_text t m a in rw s (same_self m)) in
          rw a (elim (cases_Bool (among kept t)) [ inl b ↦ rw b refl | inr b ↦ rw (b, back) refl ])
      | inr a ↦
          let back = other_way t m a in
          let passes : not (bytes_eq m t) ≡ true = rw back refl in
          rw (a, among-filter (λ y. not (bytes_eq m y)) t passes kept) (elim (cases_Bool (among kept t)) [ inl b ↦ rw b refl | inr b ↦ rw (b, back) refl ])
    ]

-- a name that stands already, and one that doesn't
pub with_old : (names : List (List ℕ)) (t : List ℕ) (k : ℕ) → place_in names t ≡ Some k → names ≡ with_name names t
with_old names t k e = let h : among names t ≡ true = found-among t 0 names k e in rw h (sym (append-nil names))

pub with_new : (names : List (List ℕ)) (t : List ℕ) → place_in names t ≡ None → names ++ t ∷ [] ≡ with_name names t
with_new names t e = let h : among names t ≡ false = missing-among t 0 names e in rw h refl

pub place_last : (names : List (List ℕ)) (t : List ℕ) → place_in names t ≡ None → place_in (names ++ t ∷ []) t ≡ Some (length names)
place_last names t e = place_new names t t e ∙ (let s = same_self t in rw s refl)

-- names with one more keep their numbers
pub get_left : {X : Type 0} (xs ys : List X) (k : ℕ) (x : X) → slice_get xs k ≡ Some x → slice_get (xs ++ ys) k ≡ Some x
get_left [] ys k x e = cc
get_left (y ∷ xs) ys zero x e = e
get_left (y ∷ xs) ys (suc k) x e = get_left xs ys k x e

-- the name that a number stands for
pub place_get : (n : ℕ) (names : List (List ℕ)) (t : List ℕ) (k : ℕ) → position_from (bytes_eq t) n names ≡ Some k → (j : ℕ) × (n + j ≡ k) × (slice_get names j ≡ Some t)
place_get n [] t k e = cc
place_get n (m ∷ ms) t k e = elim (cases_Bool (bytes_eq t m)) [
  | inl a ↦
      let at : Some n ≡ Some k = rw a at e in
      let here : n ≡ k = cc in
      let z : n + zero ≡ n = omega arith in
      (zero, z ∙ here, ap Some (sym (same_text t m a)))
  | inr a ↦
      let rest = place_get (n + 1) ms t k (rw a at e) in
      let z : n + suc rest.0 ≡ n + 1 + rest.0 = omega arith in
      (suc rest.0, z ∙ rest.1, rest.2)
]

pub number_leads : (names : List (List ℕ)) (t : List ℕ) (k : ℕ) → place_in names t ≡ Some k → slice_get names k ≡ Some t
number_leads names t k e = let r = place_get 0 names t k e in let z : r.0 ≡ k = (let w : r.0 ≡ 0 + r.0 = omega arith in w ∙ r.1) in rw z at r.2
