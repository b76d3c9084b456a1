-- What `once` and `in_order` make of a list.
use Rattle.std.proofs.Common.{ℕ, suc, ◌≡◌, ◌+◌, ◌<◌, ◌≤◌, ◌∙◌, List, [], ◌∷◌, ◌++◌, length, get_or, refl, ap, sym, arith, Bool, true, false, not, inl, inr}
use Rattle.std.specs.Prelude.{All, AllPairs, filter, fold, nat_lt}
use Rattle.std.specs.Cmp.{IsEquivalence, IsStrictWeakOrder}
use Rattle.std.specs.List.{list_any}
use Rattle.std.specs.List.Sorted.{IsPermutation}
use Rattle.std.specs.Ordering.{nat_cmp}
use Rattle.std.specs.Cmp.Lexicographic.{slice_cmp}
use Rattle.std.specs.Cmp.{IsTotalOrder}
use Rattle.std.specs.declared.cmp.Ordering.{Ordering}
use Rattle.std.specs.declared.cmp.Ordering.TheVariants.{Less, Equal, Greater}
use Rattle.std.proofs.lemmas.Bool.{cases_Bool}
use Rattle.std.proofs.lemmas.Cmp.{nat_list_cmp_total}
use Rattle.std.proofs.lemmas.List.{append-nil}
use Rattle.std.proofs.lemmas.List.Elements.{All-cons, All-filter, All-head, All-tail, filter_passes}
use Rattle.std.proofs.lemmas.List.Kept.{AllPairs-cons, AllPairs-filter}
use Rattle.std.proofs.lemmas.List.Sorted.{IsPermutation-append_left, IsPermutation-cons, IsPermutation-middle, IsPermutation-refl, IsPermutation-sym, IsPermutation-trans}
use Rattle.std.proofs.lemmas.Map.Views.{any-filter_same}
use Rattle.kl_model.specs.Lists.{in_order, once, put_in}
use Rattle.kl_model.specs.Names.{comes_before, is_less}

no_from_not : (b : Bool) → not b ≡ true → b ≡ false
no_from_not true e = cc
no_from_not false e = refl

module _ {X : Type 0} (same : X → X → Bool) where
  -- no item stands twice
  pub once-apart : (xs : List X) → AllPairs (λ x y. same x y ≡ false) (once same xs)
  once-apart [] = λ i j d h l. absurd (omega arith)
  once-apart (x ∷ xs) =
      let rest = once same xs in
      AllPairs-cons (λ a b. same a b ≡ false) x (filter (λ y. not (same x y)) rest)
      (λ k d h. no_from_not _ (filter_passes (λ y. not (same x y)) rest k d h))
      (AllPairs-filter (λ a b. same a b ≡ false) (λ y. not (same x y)) rest (once-apart xs))

  -- what holds of all items holds of those
  pub once-all : (P : X → Type 0) (xs : List X) → All P xs → All P (once same xs)
  once-all P [] all = all
  once-all P (x ∷ xs) all =
      All-cons P x (filter (λ y. not (same x y)) (once same xs)) (All-head P x xs all)
      (All-filter (λ y. not (same x y)) P (once same xs) (once-all P xs (All-tail P x xs all)))

  -- each item stands there
  pub once-has : IsEquivalence same → (t : X) (xs : List X) → list_any (same t) (once same xs) ≡ list_any (same t) xs
  once-has e t [] = refl
  once-has e t (x ∷ xs) =
      elim (cases_Bool (same t x)) [
        | inl a ↦ rw a refl
        | inr a ↦ rw a (any-filter_same (same t) (λ y. not (same x y)) true (λ y h. kept y a h) (once same xs) ∙ once-has e t xs)
      ]
    where
      kept : (y : X) → same t x ≡ false → same t y ≡ true → not (same x y) ≡ true
      kept y a h = let apart : same x y ≡ false = e.symm x y ∙ (sym (e.congr t y x h) ∙ a) in rw apart refl

module _ {X : Type 0} (before : X → X → Bool) where
  put_in-permutes : (x : X) (ys : List X) → IsPermutation (x ∷ ys) (put_in before x ys)
  put_in-permutes x [] = IsPermutation-refl (x ∷ [])
  put_in-permutes x (y ∷ ys) =
      elim (cases_Bool (before x y)) [
        | inl a ↦ rw a (IsPermutation-refl (x ∷ y ∷ ys))
        | inr a ↦ rw a (IsPermutation-trans (x ∷ y ∷ ys) (y ∷ x ∷ ys) (y ∷ put_in before x ys)
            (IsPermutation-sym (y ∷ x ∷ ys) (x ∷ y ∷ ys) (IsPermutation-middle (y ∷ []) x ys))
            (IsPermutation-cons y (x ∷ ys) (put_in before x ys) (put_in-permutes x ys)))
      ]

  put_all : (acc xs : List X) → IsPermutation (acc ++ xs) (fold (λ ys x. put_in before x ys) acc xs)
  put_all acc [] = rw append-nil (IsPermutation-refl acc)
  put_all acc (x ∷ xs) =
      IsPermutation-trans (acc ++ x ∷ xs) (put_in before x acc ++ xs) (fold (λ ys z. put_in before z ys) (put_in before x acc) xs)
      (IsPermutation-trans (acc ++ x ∷ xs) ((x ∷ acc) ++ xs) (put_in before x acc ++ xs) (IsPermutation-middle acc x xs)
      (IsPermutation-append_left xs (x ∷ acc) (put_in before x acc) (put_in-permutes x acc)))
      (put_all (put_in before x acc) xs)

  -- the items in another order
  pub in_order-permutes : (xs : List X) → IsPermutation xs (in_order before xs)
  in_order-permutes xs = put_all [] xs

  put_in-all : (P : X → Type 0) (x : X) (ys : List X) → P x → All P ys → All P (put_in before x ys)
  put_in-all P x [] p all = All-cons P x [] p all
  put_in-all P x (y ∷ ys) p all =
      elim (cases_Bool (before x y)) [
        | inl a ↦ rw a (All-cons P x (y ∷ ys) p all)
        | inr a ↦ rw a (All-cons P y (put_in before x ys) (All-head P y ys all) (put_in-all P x ys p (All-tail P y ys all)))
      ]

  put_all-all : (P : X → Type 0) (acc xs : List X) → All P acc → All P xs → All P (fold (λ ys x. put_in before x ys) acc xs)
  put_all-all P acc [] held all = held
  put_all-all P acc (x ∷ xs) held all = put_all-all P (put_in before x acc) xs (put_in-all P x acc (All-head P x xs all) held) (All-tail P x xs all)

  -- what holds of all items holds of them in order
  pub in_order-all : (P : X → Type 0) (xs : List X) → All P xs → All P (in_order before xs)
  in_order-all P xs all = put_all-all P [] xs (λ k d h. absurd (omega arith)) all

  module _ (R : X → X → Type 0) (turned : (x y : X) → R x y → R y x) where
    put_in-pairs : (x : X) (ys : List X) → All (R x) ys → AllPairs R ys → AllPairs R (put_in before x ys)
    put_in-pairs x [] all pairs = λ i j d l m. absurd (omega arith)
    put_in-pairs x (y ∷ ys) all pairs =
        elim (cases_Bool (before x y)) [
          | inl a ↦ rw a (AllPairs-cons R x (y ∷ ys) all pairs)
          | inr a ↦ rw a (AllPairs-cons R y (put_in before x ys)
              (put_in-all (R y) x ys (turned x y (All-head (R x) y ys all)) (λ k d l. pairs 0 (suc k) d (omega arith) (omega arith)))
              (put_in-pairs x ys (All-tail (R x) y ys all) (λ i j d l m. pairs (suc i) (suc j) d (omega arith) (omega arith))))
        ]

    put_all-pairs : (acc xs : List X) → AllPairs R acc → AllPairs R xs → All (λ x. All (R x) acc) xs → AllPairs R (fold (λ ys x. put_in before x ys) acc xs)
    put_all-pairs acc [] held pairs all = held
    put_all-pairs acc (x ∷ xs) held pairs all =
        put_all-pairs (put_in before x acc) xs (put_in-pairs x acc (All-head (λ x. All (R x) acc) x xs all) held)
        (λ i j d l m. pairs (suc i) (suc j) d (omega arith) (omega arith))
        (λ k d h. put_in-all (R (get_or xs k d)) x acc (turned x (get_or xs k d) (pairs 0 (suc k) d (omega arith) (omega arith))) (All-tail (λ x. All (R x) acc) x xs all k d h))

    -- what holds of all pairs of items holds of them in order, where it goes both ways
    pub in_order-pairs : (xs : List X) → AllPairs R xs → AllPairs R (in_order before xs)
    in_order-pairs xs pairs = put_all-pairs [] xs (λ i j d l m. absurd (omega arith)) pairs (λ k d h j e m. absurd (omega arith))

  -- no item comes before one that stands before it
  abbrev pub AreInOrder : List X → Type 0
  AreInOrder xs = AllPairs (λ x y. before y x ≡ false) xs

  module _ (o : IsStrictWeakOrder before) where
    put_in-ordered : (x : X) (ys : List X) → AreInOrder ys → AreInOrder (put_in before x ys)
    put_in-ordered x [] h = λ i j d l m. absurd (omega arith)
    put_in-ordered x (y ∷ ys) h =
        elim (cases_Bool (before x y)) [
          | inl a ↦ rw a (AllPairs-cons (λ v w. before w v ≡ false) x (y ∷ ys)
              (All-cons (λ w. before w x ≡ false) y ys (o.one_way x y a) (λ k d l. o.chain (get_or ys k d) y x (later k d l) (o.one_way x y a))) h)
          | inr a ↦ rw a (AllPairs-cons (λ v w. before w v ≡ false) y (put_in before x ys)
              (put_in-all (λ w. before w y ≡ false) x ys a (λ k d l. later k d l)) (put_in-ordered x ys (λ i j d l m. h (suc i) (suc j) d (omega arith) (omega arith))))
        ]
      where
        later : (k : ℕ) (d : X) → k < length ys → before (get_or ys k d) y ≡ false
        later k d l = h 0 (suc k) d (omega arith) (omega arith)

    put_all-ordered : (acc xs : List X) → AreInOrder acc → AreInOrder (fold (λ ys x. put_in before x ys) acc xs)
    put_all-ordered acc [] h = h
    put_all-ordered acc (x ∷ xs) h = put_all-ordered (put_in before x acc) xs (put_in-ordered x acc h)

    pub in_order-ordered : (xs : List X) → AreInOrder (in_order before xs)
    in_order-ordered xs = put_all-ordered [] xs (λ i j d l m. absurd (omega arith))

-- texts in ascending bytes
names_one_way : (x y : List ℕ) (a b : Ordering) → slice_cmp nat_cmp x y ≡ a → slice_cmp nat_cmp y x ≡ b → is_less a ≡ true → is_less b ≡ false
names_one_way x y Less Less ea eb h = let turned = nat_list_cmp_total.antisymm x y in let no : Less ≡ Greater = rw (ea, eb) at turned in cc
names_one_way x y Less Equal ea eb h = refl
names_one_way x y Less Greater ea eb h = refl
names_one_way x y Equal b ea eb h = cc
names_one_way x y Greater b ea eb h = cc

names_chain : (x y z : List ℕ) (a b c : Ordering) → slice_cmp nat_cmp x y ≡ a → slice_cmp nat_cmp y z ≡ b → slice_cmp nat_cmp x z ≡ c
    → is_less a ≡ false → is_less b ≡ false → is_less c ≡ false
names_chain x y z a b Equal ea eb ec h k = refl
names_chain x y z a b Greater ea eb ec h k = refl
names_chain x y z Less b Less ea eb ec h k = cc
names_chain x y z Equal b Less ea eb ec h k =
    let same = nat_list_cmp_total.congr x y z ea in
    let less : b ≡ Less = sym eb ∙ (sym same ∙ ec) in rw less at k
names_chain x y z Greater b Less ea eb ec h k =
    let turned = nat_list_cmp_total.antisymm y x in
    let back : slice_cmp nat_cmp y x ≡ Less = rw ea at turned in
    let less : b ≡ Less = sym eb ∙ nat_list_cmp_total.trans y x z back ec in rw less at k

pub names_order : IsStrictWeakOrder comes_before
names_order = record {
  one_way = λ x y h. names_one_way x y (slice_cmp nat_cmp x y) (slice_cmp nat_cmp y x) refl refl h;
  chain = λ x y z h k. names_chain x y z (slice_cmp nat_cmp x y) (slice_cmp nat_cmp y z) (slice_cmp nat_cmp x z) refl refl refl h k;
}
