-- Names that ascend are known by which stand among them; a sort of the dynamic names gives them in their order.
use Rattle.std.proofs.Common.{ℕ, suc, ◌≡◌, ◌+◌, ◌<◌, ◌∙◌, List, [], ◌∷◌, length, get_or, map, refl, ap, sym, subst, arith, Bool, true, false, ◌&&◌, inl, inr}
use Rattle.std.specs.Prelude.{All, AllPairs, IsPermutation, IsSorted, Some, filter, slice_get}
use Rattle.std.specs.Cmp.Lexicographic.{slice_cmp}
use Rattle.std.specs.List.{IsDistinct}
use Rattle.std.specs.Ordering.{is_lt, nat_cmp, ordering_then}
use Rattle.std.specs.Str.{bytes_eq}
use Rattle.std.specs.declared.cmp.Ordering.{Ordering}
use Rattle.std.specs.declared.cmp.Ordering.TheVariants.{Less, Equal, Greater}
use Rattle.std.proofs.lemmas.Bool.{cases_Bool}
use Rattle.std.proofs.lemmas.Cmp.{nat_list_cmp_total, nat_list_eq_equiv}
use Rattle.std.proofs.lemmas.List.{get_or-map, length-map}
use Rattle.std.proofs.lemmas.List.Elements.{All-head, All-tail}
use Rattle.std.proofs.lemmas.List.Kept.{AllPairs-filter}
use Rattle.std.proofs.lemmas.List.Sorted.{IsPermutation-map, list_any-IsPermutation}
use Rattle.std.proofs.lemmas.Map.Keys.{IsDistinct-IsPermutation, IsDistinct-from_apart, Less-from_sorted, apart_from_distinct, sorted_from_all_adjacent}
use Rattle.std.proofs.lemmas.Map.Text.{is_eq-slice_cmp}
use Rattle.kl_model.specs.Lists.{among}
use Rattle.kl_model.specs.Names.{Occurrence, comes_before, occurrences, sorted_names}
use Rattle.kl_model.specs.declared.object.Input.{Input}
use Rattle.kl_model.proofs.ListWords.{in_order-permutes, names_order, once-apart}
use Rattle.kl_model.proofs.StandOnce.{any-filter, names_ascend}
use Rattle.kl_names.specs.Numbers.{names_in}
use Rattle.kl_names.proofs.NotedSteps.{AreOnce}
use Rattle.kl_names.proofs.NameLists.{same_self, same_text}

abbrev pub Ascend : List (List ℕ) → Type 0
Ascend xs = AllPairs (λ x y. comes_before x y ≡ true) xs

tail : (x : List ℕ) (xs : List (List ℕ)) → Ascend (x ∷ xs) → Ascend xs
tail x xs a = λ i j d l m. a (suc i) (suc j) d (omega arith) (omega arith)

after : (x : List ℕ) (xs : List (List ℕ)) → All (λ y. comes_before x y ≡ true) xs → (t : List ℕ) → among xs t ≡ true → comes_before x t ≡ true
after x [] all t e = cc
after x (y ∷ ys) all t e = elim (cases_Bool (bytes_eq t y)) [
  | inl a ↦ let s : t ≡ y = same_text t y a in rw s (All-head (λ y. comes_before x y ≡ true) y ys all)
  | inr a ↦ after x ys (All-tail (λ y. comes_before x y ≡ true) y ys all) t (rw a at e)
]

heads : (x : List ℕ) (xs : List (List ℕ)) → Ascend (x ∷ xs) → All (λ y. comes_before x y ≡ true) xs
heads x xs a = λ k d l. a 0 (suc k) d (omega arith) (omega arith)

never_again : (x : List ℕ) (xs : List (List ℕ)) → Ascend (x ∷ xs) → among xs x ≡ false
never_again x xs a = elim (cases_Bool (among xs x)) [
  | inl b ↦
      let h : comes_before x x ≡ true = after x xs (heads x xs a) x b in
      let no : true ≡ false = sym h ∙ names_order.one_way x x h in
      cc
  | inr b ↦ b
]

-- the first of two lists that ascend and have the same names
same_first : (x y : List ℕ) (xs ys : List (List ℕ)) → Ascend (x ∷ xs) → Ascend (y ∷ ys) → ((t : List ℕ) → among (x ∷ xs) t ≡ among (y ∷ ys) t) → x ≡ y
same_first x y xs ys a b same = elim (cases_Bool (bytes_eq x y)) [
  | inl e ↦ same_text x y e
  | inr e ↦
      let back : bytes_eq y x ≡ false = nat_list_eq_equiv.symm y x ∙ e in
      let self = same_self x in
      let other = same_self y in
      let in_ys : true ≡ among ys x = rw (self, e) at (same x) in
      let in_xs : among xs y ≡ true = rw (other, back) at (same y) in
      let y_first : comes_before y x ≡ true = after y ys (heads y ys b) x (sym in_ys) in
      let x_first : comes_before x y ≡ true = after x xs (heads x xs a) y in_xs in
      let no : true ≡ false = sym y_first ∙ names_order.one_way x y x_first in
      cc
]

same_rest : (x : List ℕ) (xs ys : List (List ℕ)) → Ascend (x ∷ xs) → Ascend (x ∷ ys) → ((t : List ℕ) → among (x ∷ xs) t ≡ among (x ∷ ys) t) → (t : List ℕ) → among xs t ≡ among ys t
same_rest x xs ys a b same t = elim (cases_Bool (bytes_eq t x)) [
  | inl e ↦ let s : t ≡ x = same_text t x e in rw s (never_again x xs a ∙ sym (never_again x ys b))
  | inr e ↦ rw e at (same t)
]

pub same_names : (xs ys : List (List ℕ)) → Ascend xs → Ascend ys → ((t : List ℕ) → among xs t ≡ among ys t) → xs ≡ ys
same_names [] [] a b same = refl
same_names [] (y ∷ ys) a b same = let self = same_self y in let no : false ≡ true = rw self at (same y) in cc
same_names (x ∷ xs) [] a b same = let self = same_self x in let no : true ≡ false = rw self at (same x) in cc
same_names (x ∷ xs) (y ∷ ys) a b same =
    let first : y ≡ x = sym (same_first x y xs ys a b same) in
    let b2 : Ascend (x ∷ ys) = rw first at b in
    let same2 : (t : List ℕ) → among (x ∷ xs) t ≡ among (x ∷ ys) t = rw first at same in
    rw first (ap (λ l. x ∷ l) (same_names xs ys (tail x xs a) (tail x ys b2) (same_rest x xs ys a b2 same2)))

-- two texts that differ, of which a sort by text and number lets the first stand before the second
less : (x y : List ℕ) (a b : ℕ) (r s : Ordering) → slice_cmp nat_cmp y x ≡ r → slice_cmp nat_cmp x y ≡ s → is_lt (ordering_then r (nat_cmp b a)) ≡ false → bytes_eq x y ≡ false → s ≡ Less
less x y a b Less s er es h apart = cc
less x y a b Equal s er es h apart =
    let same : true ≡ bytes_eq y x = rw er at (is_eq-slice_cmp y x) in
    let no : true ≡ false = same ∙ (nat_list_eq_equiv.symm y x ∙ apart) in
    cc
less x y a b Greater s er es h apart =
    let turned = nat_list_cmp_total.antisymm x y in
    let back : slice_cmp nat_cmp x y ≡ Less = rw er at turned in
    sym es ∙ back

module _ {X : Type 0} (name : X → List ℕ) (number : X → ℕ) where
  abbrev pub by_name : X → X → Ordering
  by_name x y = ordering_then (slice_cmp nat_cmp (name x) (name y)) (nat_cmp (number x) (number y))

  adjacent : (first : X) (rest : List X) → IsSorted by_name (first ∷ rest) → IsDistinct bytes_eq (map name (first ∷ rest)) → (d : List ℕ) (k : ℕ)
      → k + 1 < length (map name (first ∷ rest)) → slice_cmp nat_cmp (get_or (map name (first ∷ rest)) k d) (get_or (map name (first ∷ rest)) (k + 1) d) ≡ Less
  adjacent first rest sorted apart d k h =
      let xs : List X = first ∷ rest in
      let many = length-map xs name in
      let l : k + 1 < length xs = omega (arith, many, h) in
      let l0 : k < length xs = omega (arith, l) in
      let x : X = get_or xs k first in
      let y : X = get_or xs (k + 1) first in
      let a : get_or (map name xs) k d ≡ name x = get_or-map name xs k first d l0 in
      let b : get_or (map name xs) (k + 1) d ≡ name y = get_or-map name xs (k + 1) first d l in
      let differ : bytes_eq (name x) (name y) ≡ false = rw (a, b) at (apart_from_distinct bytes_eq (map name xs) k (k + 1) d apart (omega arith) h) in
      let s : slice_cmp nat_cmp (name x) (name y) ≡ Less = less (name x) (name y) (number x) (number y) _ _ refl refl (sorted k first (omega arith) l) differ in
      ap (λ n. slice_cmp nat_cmp n (get_or (map name xs) (k + 1) d)) a ∙ (ap (slice_cmp nat_cmp (name x)) b ∙ s)

  -- what a sort by name and number gives, of items whose names differ
  sorted_ascend : (xs : List X) → IsSorted by_name xs → IsDistinct bytes_eq (map name xs) → Ascend (map name xs)
  sorted_ascend [] sorted apart i j d l m = absurd (omega arith)
  sorted_ascend (first ∷ rest) sorted apart i j d l m =
      let s = Less-from_sorted (slice_cmp nat_cmp) (map name (first ∷ rest)) i j d (sorted_from_all_adjacent nat_list_cmp_total (map name (first ∷ rest)) d (adjacent first rest sorted apart d)) l m in
      rw s refl

  -- those of some names, each once, that pass a test
  module _ (p : List ℕ → Bool) (inputs : List Input) (xs ys : List X) (listed : map name xs ≡ filter p (names_in (occurrences inputs))) (moved : IsPermutation xs ys) where
    moved_names : IsPermutation (map name xs) (map name ys)
    moved_names = IsPermutation-map name xs ys moved

    apart : IsDistinct bytes_eq (map name ys)
    apart =
        let names = names_in (occurrences inputs) in
        let alone : AllPairs (λ x y. bytes_eq x y ≡ false) (filter p names) = AllPairs-filter (λ x y. bytes_eq x y ≡ false) p names (once-apart bytes_eq (map (λ (o : Occurrence). o.name) (occurrences inputs))) in
        IsDistinct-IsPermutation bytes_eq (λ x y. nat_list_eq_equiv.symm x y) (map name xs) (map name ys) moved_names
        (subst (IsDistinct bytes_eq) (sym listed) (IsDistinct-from_apart bytes_eq (filter p names) alone))

    members : (t : List ℕ) → among (map name ys) t ≡ among (filter p (sorted_names inputs)) t
    members t =
        let names = names_in (occurrences inputs) in
        sym (list_any-IsPermutation (bytes_eq t) (map name xs) (map name ys) moved_names)
        ∙ (ap (λ l. among l t) listed
        ∙ (any-filter (bytes_eq t) p names
        ∙ (list_any-IsPermutation (λ x. p x && bytes_eq t x) names (sorted_names inputs) (in_order-permutes comes_before names)
        ∙ sym (any-filter (bytes_eq t) p (sorted_names inputs)))))

    pub sorted_are : IsSorted by_name ys → map name ys ≡ filter p (sorted_names inputs)
    sorted_are sorted =
        same_names (map name ys) (filter p (sorted_names inputs)) (sorted_ascend ys sorted apart)
        (AllPairs-filter (λ x y. comes_before x y ≡ true) p (sorted_names inputs) (names_ascend inputs)) members

  -- the numbers of the items lead to their names
  pub numbers_lead : (names : List (List ℕ)) (xs : List X) → All (λ x. slice_get names (number x) ≡ Some (name x)) xs
      → map (slice_get names) (map number xs) ≡ map Some (map name xs)
  numbers_lead names [] all = refl
  numbers_lead names (x ∷ xs) all =
      let first = All-head (λ x. slice_get names (number x) ≡ Some (name x)) x xs all in
      let rest = numbers_lead names xs (All-tail (λ x. slice_get names (number x) ≡ Some (name x)) x xs all) in
      rw (first, rest) refl

-- names that ascend stand once
pub ascend-once : (xs : List (List ℕ)) → Ascend xs → AreOnce xs
ascend-once [] a = tt
ascend-once (x ∷ xs) a = (never_again x xs a, ascend-once xs (tail x xs a))
