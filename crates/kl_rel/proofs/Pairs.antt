-- What holds of any two items of a list: in its parts, after a map, after a filter, in another order.
use Rattle.std.proofs.Common.{ℕ, zero, suc, ◌≡◌, ◌<◌, Bool, true, false, cond, ◌&&◌, List, [], ◌∷◌, ◌++◌, length, get_or, refl, arith}
use Rattle.std.specs.Prelude.{All, AllPairs, IsPermutation, map, filter}
use Rattle.std.specs.List.{AllByRecursion, IsDistinct}
use Rattle.std.proofs.Math.Seq.{get_or-append_seam}
use Rattle.std.proofs.lemmas.List.{get_or_append_left, get_or-map, length_push, length-map}
use Rattle.std.proofs.lemmas.List.Elements.{All-cons, All-head, All-tail, All-map}
use Rattle.std.proofs.lemmas.List.Kept.{AllPairs-cons}
use Rattle.std.proofs.lemmas.Map.Keys.{IsDistinct-IsPermutation, apart_from_distinct}

-- of a list with one item more, and of what is before it
pub pairs_front : {X : Type 0} (R : X → X → Type 0) (xs : List X) (y : X) → AllPairs R (xs ++ y ∷ []) → AllPairs R xs
pairs_front R xs y pairs = λ i j d less short.
    let long = length_push xs y in
    let first : i < length xs = omega (arith, less, short) in
    rw (get_or_append_left xs (y ∷ []) d i first, get_or_append_left xs (y ∷ []) d j short) at
    (pairs i j d less (omega (arith, long, short)))

pub pair_last : {X : Type 0} (R : X → X → Type 0) (xs : List X) (y : X) → AllPairs R (xs ++ y ∷ []) → (k : ℕ) (d : X) → k < length xs
    → R (get_or xs k d) y
pair_last R xs y pairs k d h =
    let long = length_push xs y in
    rw (get_or_append_left xs (y ∷ []) d k h, get_or-append_seam xs y [] d) at (pairs k (length xs) d h (omega (arith, long)))

-- of a list without its first
pairs_rest : {X : Type 0} (R : X → X → Type 0) (x : X) (xs : List X) → AllPairs R (x ∷ xs) → AllPairs R xs
pairs_rest R x xs pairs = λ i j d less short. pairs (suc i) (suc j) d (omega (arith, less)) (omega (arith, short))

pairs_first : {X : Type 0} (R : X → X → Type 0) (x : X) (xs : List X) → AllPairs R (x ∷ xs) → All (R x) xs
pairs_first R x xs pairs = λ k d h. pairs zero (suc k) d (omega arith) (omega (arith, h))

-- of what is made of each item
pub pairs_map : {X Y : Type 0} (m : X → Y) (R : X → X → Type 0) (Q : Y → Y → Type 0) (to : (x y : X) → R x y → Q (m x) (m y)) (xs : List X)
    → AllPairs R xs → AllPairs Q (map m xs)
pairs_map m R Q to [] pairs = λ i j d less short. absurd (omega (arith, short))
pairs_map m R Q to (x ∷ xs) pairs =
    let firsts = pairs_first R x xs pairs in
    AllPairs-cons Q (m x) (map m xs) (All-map (Q (m x)) m xs (λ k d h. to x (get_or xs k d) (firsts k d h)))
    (pairs_map m R Q to xs (pairs_rest R x xs pairs))

pub pairs_unmap : {X Y : Type 0} (m : X → Y) (R : X → X → Type 0) (Q : Y → Y → Type 0) (from : (x y : X) → Q (m x) (m y) → R x y) (xs : List X)
    → AllPairs Q (map m xs) → AllPairs R xs
pairs_unmap m R Q from xs pairs = λ i j d less short.
    let long = length-map xs m in
    let first : i < length xs = omega (arith, less, short) in
    from (get_or xs i d) (get_or xs j d)
    (rw (get_or-map m xs i d (m d) first, get_or-map m xs j d (m d) short) at (pairs i j (m d) less (omega (arith, long, short))))

-- of a filtered list, and of any two of which one doesn't pass
all_passing : {X : Type 0} (p : X → Bool) (P : X → Type 0) (xs : List X) → All P (filter p xs) → All (λ y. p y ≡ true → P y) xs
all_passing p P [] all = λ k d h. absurd (omega (arith, h))
all_passing p P (y ∷ ys) all = go (p y) refl (all_passing p P ys) all
  where
    go : (t : Bool) → p y ≡ t → (All P (filter p ys) → All (λ z. p z ≡ true → P z) ys) → All P (cond t (y ∷ filter p ys) (filter p ys))
        → All (λ z. p z ≡ true → P z) (y ∷ ys)
    go true e rest all = All-cons (λ z. p z ≡ true → P z) y ys (λ _. All-head P y (filter p ys) all) (rest (All-tail P y (filter p ys) all))
    go false e rest all = All-cons (λ z. p z ≡ true → P z) y ys (λ is. cc) (rest all)

one_passes : {X : Type 0} (p : X → Bool) (R : X → X → Type 0) (x y : X) (t : Bool) → p y ≡ t → p x ≡ true → (p y ≡ true → R x y)
    → ((p x && p y) ≡ false → R x y) → R x y
one_passes p R x y true e px passes other = passes e
one_passes p R x y false e px passes other = other (rw (px, e) refl)

pub pairs_unfilter : {X : Type 0} (p : X → Bool) (R : X → X → Type 0) (xs : List X) → AllPairs (λ x y. (p x && p y) ≡ false → R x y) xs
    → AllPairs R (filter p xs) → AllPairs R xs
pairs_unfilter p R [] others pairs = λ i j d less short. absurd (omega (arith, short))
pairs_unfilter p R (x ∷ xs) others pairs =
    go (p x) refl (pairs_first (λ y z. (p y && p z) ≡ false → R y z) x xs others)
    (pairs_unfilter p R xs (pairs_rest (λ y z. (p y && p z) ≡ false → R y z) x xs others)) pairs
  where
    go : (t : Bool) → p x ≡ t → All (λ y. (p x && p y) ≡ false → R x y) xs → (AllPairs R (filter p xs) → AllPairs R xs)
        → AllPairs R (cond t (x ∷ filter p xs) (filter p xs)) → AllPairs R (x ∷ xs)
    go true e firsts rest pairs =
        let passing = all_passing p (R x) xs (pairs_first R x (filter p xs) pairs) in
        AllPairs-cons R x xs (λ k d h. one_passes p R x (get_or xs k d) (p (get_or xs k d)) refl e (passing k d h) (firsts k d h))
        (rest (pairs_rest R x (filter p xs) pairs))
    go false e firsts rest pairs = AllPairs-cons R x xs (λ k d h. firsts k d h (rw e refl)) (rest pairs)

-- in another order, where a test decides it that goes both ways
module _ {X : Type 0} (e : X → X → Bool) (flips : (x y : X) → e x y ≡ e y x) where
  distinct : (xs : List X) → AllPairs (λ x y. e x y ≡ false) xs → IsDistinct e xs
  unfolding IsDistinct
  distinct [] pairs = tt
  distinct (x ∷ xs) pairs =
      (firsts xs (pairs_first (λ x y. e x y ≡ false) x xs pairs), distinct xs (pairs_rest (λ x y. e x y ≡ false) x xs pairs))
    where
      firsts : (ys : List X) → All (λ y. e x y ≡ false) ys → AllByRecursion (λ y. e x y ≡ false) ys
      firsts [] all = tt
      firsts (y ∷ ys) all = (All-head (λ y. e x y ≡ false) y ys all, firsts ys (All-tail (λ y. e x y ≡ false) y ys all))

  pub pairs_permutation : (xs ys : List X) → IsPermutation xs ys → AllPairs (λ x y. e x y ≡ false) xs → AllPairs (λ x y. e x y ≡ false) ys
  pairs_permutation xs ys s pairs =
      λ i j d less short. apart_from_distinct e ys i j d (IsDistinct-IsPermutation e flips xs ys s (distinct xs pairs)) less short
