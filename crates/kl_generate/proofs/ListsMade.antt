-- Lists that each of some items gives as much to.
use Rattle.std.proofs.Common.{ℕ, zero, suc, ◌≡◌, ◌+◌, ◌*◌, ◌<◌, ◌≤◌, List, [], ◌∷◌, length, get_or, refl, arith, Bool, true, false, not, inl, inr, length-append}
use Rattle.std.specs.Prelude.{Some, All, filter, find, sum_by}
use Rattle.std.specs.List.{list_any}
use Rattle.std.proofs.lemmas.Bool.{cases_Bool}
use Rattle.std.proofs.lemmas.List.Elements.{All-head, All-tail}
use Rattle.std.proofs.lemmas.List.Sums.{sum_by-append, sum_by-cons}
use Rattle.kl_model.specs.Lists.{each_from, once}

-- each item gives c
pub length-each-is : {X Y : Type 0} (c n : ℕ) (f : ℕ → X → List Y) (xs : List X)
    → ((k : ℕ) (d : X) → k < length xs → length (f (n + k) (get_or xs k d)) ≡ c) → length (each_from n f xs) ≡ c * length xs
length-each-is c n f [] h = omega arith
length-each-is c n f (x ∷ xs) h =
    let e : n + zero ≡ n = omega arith in
    let first : length (f n x) ≡ c = rw e at (h 0 x (omega arith)) in
    let rest = length-each-is c (suc n) f xs (λ k d l. let next : suc n + k ≡ n + suc k = omega arith in rw next (h (suc k) d (omega arith))) in
    let whole = length-append (f n x) (each_from (suc n) f xs) in
    let more : c * suc (length xs) ≡ c + c * length xs = grind arith in
    omega arith

-- each item gives a sum of at most c
pub sum-each-le : {X Y : Type 0} (size : Y → ℕ) (c n : ℕ) (f : ℕ → X → List Y) (xs : List X)
    → ((k : ℕ) (d : X) → k < length xs → sum_by size (f (n + k) (get_or xs k d)) ≤ c) → sum_by size (each_from n f xs) ≤ c * length xs
sum-each-le size c n f [] h = omega arith
sum-each-le size c n f (x ∷ xs) h =
    let e : n + zero ≡ n = omega arith in
    let first : sum_by size (f n x) ≤ c = rw e at (h 0 x (omega arith)) in
    let rest = sum-each-le size c (suc n) f xs (λ k d l. let next : suc n + k ≡ n + suc k = omega arith in rw next (h (suc k) d (omega arith))) in
    let whole = sum_by-append size (f n x) (each_from (suc n) f xs) in
    let more : c * suc (length xs) ≡ c + c * length xs = grind arith in
    omega arith

-- each number of a sum is at most c
pub sum-le : {X : Type 0} (f : X → ℕ) (c : ℕ) (xs : List X) → All (λ x. f x ≤ c) xs → sum_by f xs ≤ c * length xs
sum-le f c [] all = omega arith
sum-le f c (x ∷ xs) all =
    let first = All-head (λ x. f x ≤ c) x xs all in
    let rest = sum-le f c xs (All-tail (λ x. f x ≤ c) x xs all) in
    let whole = sum_by-cons f x xs in
    let more : c * suc (length xs) ≡ c + c * length xs = grind arith in
    omega arith

-- two items that each give one thing
pub two-give : {X Y : Type 0} (n : ℕ) (f : ℕ → X → List Y) (a b : X) (rest : List X) (y z : Y) → f n a ≡ y ∷ [] → f (suc n) b ≡ z ∷ []
    → each_from (suc (suc n)) f rest ≡ [] → each_from n f (a ∷ b ∷ rest) ≡ y ∷ z ∷ []
two-give n f a b rest y z p q r = rw (p, q, r) refl

pub filter-none : {X : Type 0} (p : X → Bool) (xs : List X) → All (λ x. p x ≡ false) xs → filter p xs ≡ []
filter-none p [] all = refl
filter-none p (x ∷ xs) all = rw (All-head (λ x. p x ≡ false) x xs all) (filter-none p xs (All-tail (λ x. p x ≡ false) x xs all))

-- something is found where one passes
pub found : {X : Type 0} (p : X → Bool) (xs : List X) → list_any p xs ≡ true → (x : X) × (find p xs ≡ Some x)
found p [] e = cc
found p (x ∷ xs) e = elim (cases_Bool (p x)) [ inl a ↦ (x, rw a refl) | inr a ↦ let rest = found p xs (rw a at e) in (rest.0, rw a rest.1) ]

pub filter-le : {X : Type 0} (p : X → Bool) (xs : List X) → length (filter p xs) ≤ length xs
filter-le p [] = omega arith
filter-le p (x ∷ xs) = elim (cases_Bool (p x)) [ inl a ↦ rw a (omega (arith, filter-le p xs)) | inr a ↦ rw a (omega (arith, filter-le p xs)) ]

pub once-le : {X : Type 0} (same : X → X → Bool) (xs : List X) → length (once same xs) ≤ length xs
once-le same [] = omega arith
once-le same (x ∷ xs) = omega (arith, once-le same xs, filter-le (λ y. not (same x y)) (once same xs))
