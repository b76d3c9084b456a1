-- The two tables of entries in place of the entries in the order of fields and slots.
use Rattle.std.proofs.Common.{suc, List, [], ◌∷◌, ◌++◌, length-append, get_or, filter, map, subst, arith, Bool, not, inl, inr}
use Rattle.std.specs.Prelude.{All, AllPairs}
use Rattle.std.proofs.lemmas.Bool.{cases_Bool}
use Rattle.std.proofs.lemmas.List.{get_or-map, get_or_append_left, length-map}
use Rattle.std.proofs.lemmas.List.Elements.{All-append, All-cons, All-filter, All-map}
use Rattle.std.proofs.lemmas.List.Kept.{AllPairs-cons, AllPairs-filter}
use Rattle.std.proofs.lemmas.List.Sorted.{All-permutation, IsPermutation-sym}
use Rattle.kl_elf.specs.declared.records.Rela.{Rela}
use Rattle.kl_model.proofs.Each.{pairs-append}
use Rattle.kl_model.proofs.ListWords.{in_order-all, in_order-pairs, in_order-permutes}
use Rattle.kl_model.specs.Lists.{in_order}

-- what holds of a list holds of its parts
pub all_left : {X : Type 0} (P : X → Type 0) (xs ys : List X) → All P (xs ++ ys) → All P xs
all_left P xs ys h k d l =
    let long = length-append xs ys in
    subst P (get_or_append_left xs ys d k l) (h k d (omega (arith, long, l)))

pub all_right : {X : Type 0} (P : X → Type 0) (xs ys : List X) → All P (xs ++ ys) → All P ys
all_right P [] ys h = h
all_right P (x ∷ xs) ys h = all_right P xs ys (λ k d l. h (suc k) d (omega (arith, l)))

map_back : {X Y : Type 0} (P : Y → Type 0) (f : X → Y) (xs : List X) → All P (map f xs) → All (λ x. P (f x)) xs
map_back P f xs h k d l = subst P (get_or-map f xs k d (f d) l) (h k (f d) (let same = length-map xs f in omega (arith, same, l)))

pairs_map : {X Y : Type 0} (R : Y → Y → Type 0) (f : X → Y) (xs : List X) → AllPairs (λ x y. R (f x) (f y)) xs → AllPairs R (map f xs)
pairs_map R f [] h = λ i j d l m. absurd (omega (arith, m))
pairs_map R f (x ∷ xs) h =
    AllPairs-cons R (f x) (map f xs) (All-map (R (f x)) f xs (λ k d l. h 0 (suc k) d (omega arith) (omega (arith, l))))
    (pairs_map R f xs (λ i j d l m. h (suc i) (suc j) d (omega (arith, l)) (omega (arith, m))))

-- what holds of those that pass a test and of those that don't holds of all
both_parts : {X : Type 0} (P : X → Type 0) (q : X → Bool) (xs : List X) → All P (filter (λ x. not (q x)) xs) → All P (filter q xs) → All P xs
both_parts P q [] a b = λ k d l. absurd (omega (arith, l))
both_parts P q (x ∷ xs) a b = elim (cases_Bool (q x)) [
  | inl e ↦ All-cons P x xs (rw e at b 0 x (omega arith)) (both_parts P q xs (rw e at a) (λ k d l. (rw e at b) (suc k) d (omega (arith, l))))
  | inr e ↦ All-cons P x xs (rw e at a 0 x (omega arith)) (both_parts P q xs (λ k d l. (rw e at a) (suc k) d (omega (arith, l))) (rw e at b))
]

-- those that don't pass a test, and those that do, in pairs
cross : {X : Type 0} (R : X → X → Type 0) (turned : (x y : X) → R x y → R y x) (q : X → Bool) (xs : List X) → AllPairs R xs
    → All (λ x. All (R x) (filter q xs)) (filter (λ x. not (q x)) xs)
cross R turned q [] h = λ k d l. absurd (omega (arith, l))
cross R turned q (x ∷ xs) h =
    let first : All (R x) xs = λ k d l. h 0 (suc k) d (omega arith) (omega (arith, l)) in
    let rest = cross R turned q xs (λ i j d l m. h (suc i) (suc j) d (omega (arith, l)) (omega (arith, m))) in
    elim (cases_Bool (q x)) [
      | inl e ↦
          let none = All-filter (λ y. not (q y)) (R x) xs first in
          rw e (λ k d l. All-cons (R (get_or (filter (λ y. not (q y)) xs) k d)) x (filter q xs) (turned x _ (none k d l)) (rest k d l))
      | inr e ↦ rw e (All-cons (λ y. All (R y) (filter q xs)) x (filter (λ y. not (q y)) xs) (All-filter q (R x) xs first) rest)
    ]

-- the tables of a list of entries, of which some go to the second
module _ {X : Type 0} (h : X → Rela) (q : X → Bool) (before : Rela → Rela → Bool) (xs : List X) where
  abbrev pub first : List Rela
  first = in_order before (map h (filter (λ x. not (q x)) xs))

  abbrev pub second : List Rela
  second = in_order before (map h (filter q xs))

  pub all_tables : (P : Rela → Type 0) → All (λ x. P (h x)) xs → All P (first ++ second)
  all_tables P all =
      All-append P first second
      (in_order-all before P (map h (filter (λ x. not (q x)) xs)) (All-map P h (filter (λ x. not (q x)) xs) (All-filter (λ x. not (q x)) (λ x. P (h x)) xs all)))
      (in_order-all before P (map h (filter q xs)) (All-map P h (filter q xs) (All-filter q (λ x. P (h x)) xs all)))

  pub all_back : (P : Rela → Type 0) → All P (first ++ second) → All (λ x. P (h x)) xs
  all_back P all =
      both_parts (λ x. P (h x)) q xs
      (map_back P h (filter (λ x. not (q x)) xs)
      (All-permutation P first (map h (filter (λ x. not (q x)) xs)) (IsPermutation-sym (map h (filter (λ x. not (q x)) xs)) first (in_order-permutes before (map h (filter (λ x. not (q x)) xs))))
      (all_left P first second all)))
      (map_back P h (filter q xs)
      (All-permutation P second (map h (filter q xs)) (IsPermutation-sym (map h (filter q xs)) second (in_order-permutes before (map h (filter q xs)))) (all_right P first second all)))

  pub pairs_tables : (R : Rela → Rela → Type 0) → ((x y : Rela) → R x y → R y x) → AllPairs (λ x y. R (h x) (h y)) xs → AllPairs R (first ++ second)
  pairs_tables R turned pairs =
      pairs-append R first second
      (in_order-pairs before R turned (map h (filter (λ x. not (q x)) xs)) (pairs_map R h (filter (λ x. not (q x)) xs) (AllPairs-filter (λ x y. R (h x) (h y)) (λ x. not (q x)) xs pairs)))
      (in_order-pairs before R turned (map h (filter q xs)) (pairs_map R h (filter q xs) (AllPairs-filter (λ x y. R (h x) (h y)) q xs pairs)))
      (in_order-all before (λ r. All (R r) second) (map h (filter (λ x. not (q x)) xs))
      (All-map (λ r. All (R r) second) h (filter (λ x. not (q x)) xs)
      (λ k d l. in_order-all before (R (h (get_or (filter (λ x. not (q x)) xs) k d))) (map h (filter q xs))
      (All-map (R (h (get_or (filter (λ x. not (q x)) xs) k d))) h (filter q xs) (cross (λ x y. R (h x) (h y)) (λ x y. turned (h x) (h y)) q xs pairs k d l)))))
