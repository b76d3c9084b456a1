-- Passes over numbers in order: the first flaw, and lists that are made item by item.
use Rattle.std.proofs.Common.{ℕ, zero, suc, ◌≡◌, ◌+◌, ◌-◌, ◌<◌, ◌≤◌, ◌∙◌, Bool, true, false, List, [], ◌∷◌, ◌++◌, refl, ap, sym, arith, append_assoc}
use Rattle.std.specs.Prelude.{map, filter, flat_map, Option, Some, None}
use Rattle.std.specs.List.{range_with_len}
use Rattle.std.proofs.lemmas.List.{append-nil}
use Rattle.kl_rel.specs.Flaws.{first_of, IsAnswer}
use Rattle.kl_rel.specs.declared.fault.ReadFault.{ReadFault}
use Rattle.kl_rel.specs.declared.fault.ReadError.{ReadError}
use Rattle.kl_rel.specs.declared.fault.ReadError.TheVariants.{Flaw, NoMemory}

-- the numbers from n on, below c
abbrev pub upto : ℕ → ℕ → List ℕ
upto n c = range_with_len n (c - n)

pub upto-next : (n c : ℕ) → n < c → upto n c ≡ n ∷ upto (n + 1) c
upto-next n c h = let e : c - n ≡ suc (c - (n + 1)) = omega arith in rw e refl

pub upto-end : (n c : ℕ) → c ≤ n → upto n c ≡ []
upto-end n c h = let e : c - n ≡ zero = omega arith in rw e refl

-- the flaw of the numbers from n on is that of the whole pass
pub first_passes : {w : Option ReadFault} (f : ℕ → Option ReadFault) (n c : ℕ) → f n ≡ None → n < c → first_of (map f (upto n c)) ≡ w → first_of (map f (upto (n + 1) c)) ≡ w
first_passes f n c none h e = let next = upto-next n c h in let at = rw next at e in rw none at at

pub first_stops : {w : Option ReadFault} (f : ℕ → Option ReadFault) (n c : ℕ) (fault : ReadFault) → f n ≡ Some fault → n < c → first_of (map f (upto n c)) ≡ w → w ≡ Some fault
first_stops f n c fault some h e = let next = upto-next n c h in let at = rw next at e in sym (rw some at at)

pub first_ends : {w : Option ReadFault} (f : ℕ → Option ReadFault) (n c : ℕ) → c ≤ n → first_of (map f (upto n c)) ≡ w → w ≡ None
first_ends f n c h e = let end = upto-end n c h in sym (rw end at e)

-- what is made so far, with what the numbers from n on give, is the whole list
pub map_passes : {X : Type 0} {all : List X} (f : ℕ → X) (n c : ℕ) (made : List X) → n < c → made ++ map f (upto n c) ≡ all → (made ++ f n ∷ []) ++ map f (upto (n + 1) c) ≡ all
map_passes f n c made h e = let next = upto-next n c h in let at = rw next at e in append_assoc made (f n ∷ []) (map f (upto (n + 1) c)) ∙ at

pub map_ends : {X : Type 0} {all : List X} (f : ℕ → X) (n c : ℕ) (made : List X) → c ≤ n → made ++ map f (upto n c) ≡ all → made ≡ all
map_ends f n c made h e = let end = upto-end n c h in sym (append-nil made) ∙ (rw end at e)

pub flat_map_passes : {X : Type 0} {all : List X} (f : ℕ → List X) (n c : ℕ) (made : List X) → n < c → made ++ flat_map f (upto n c) ≡ all → (made ++ f n) ++ flat_map f (upto (n + 1) c) ≡ all
flat_map_passes f n c made h e = let next = upto-next n c h in let at = rw next at e in append_assoc made (f n) (flat_map f (upto (n + 1) c)) ∙ at

pub flat_map_ends : {X : Type 0} {all : List X} (f : ℕ → List X) (n c : ℕ) (made : List X) → c ≤ n → made ++ flat_map f (upto n c) ≡ all → made ≡ all
flat_map_ends f n c made h e = let end = upto-end n c h in sym (append-nil made) ∙ (rw end at e)

pub filter_takes : {all : List ℕ} (p : ℕ → Bool) (n c : ℕ) (made : List ℕ) → p n ≡ true → n < c → made ++ filter p (upto n c) ≡ all → (made ++ n ∷ []) ++ filter p (upto (n + 1) c) ≡ all
filter_takes p n c made is h e =
    let next = upto-next n c h in
    let at = rw next at e in
    append_assoc made (n ∷ []) (filter p (upto (n + 1) c)) ∙ (rw is at at)

pub filter_passes : {all : List ℕ} (p : ℕ → Bool) (n c : ℕ) (made : List ℕ) → p n ≡ false → n < c → made ++ filter p (upto n c) ≡ all → made ++ filter p (upto (n + 1) c) ≡ all
filter_passes p n c made isnt h e =
    let next = upto-next n c h in
    let at = rw next at e in
    rw isnt at at

-- one number more
pub range-more : (a n : ℕ) → range_with_len a (n + 1) ≡ range_with_len a n ++ (a + n) ∷ []
range-more a zero = let e : a + 0 ≡ a = omega arith in rw e refl
range-more a (suc n) =
    let e : suc n + 1 ≡ suc (n + 1) = omega arith in
    let f : a + suc n ≡ (a + 1) + n = omega arith in
    rw (e, f) (ap (λ xs. a ∷ xs) (range-more (a + 1) n))

pub map-append : {X Y : Type 0} (f : X → Y) (xs ys : List X) → map f (xs ++ ys) ≡ map f xs ++ map f ys
map-append f [] ys = refl
map-append f (x ∷ xs) ys = ap (λ zs. f x ∷ zs) (map-append f xs ys)

pub map-more : {X : Type 0} (f : ℕ → X) (a n : ℕ) → map f (range_with_len a (n + 1)) ≡ map f (range_with_len a n) ++ f (a + n) ∷ []
map-more f a n = ap (map f) (range-more a n) ∙ map-append f (range_with_len a n) ((a + n) ∷ [])

-- a refusal at a number is one of the pass
pub answer_stops : {w : Option ReadFault} (f : ℕ → Option ReadFault) (n c : ℕ) (e : ReadError) → IsAnswer (f n) e → n < c → first_of (map f (upto n c)) ≡ w → IsAnswer w e
answer_stops f n c (Flaw fault) is h e = first_stops f n c fault is h e
answer_stops f n c NoMemory is h e = tt

pub flat_map-append : {X Y : Type 0} (f : X → List Y) (xs ys : List X) → flat_map f (xs ++ ys) ≡ flat_map f xs ++ flat_map f ys
flat_map-append f [] ys = refl
flat_map-append f (x ∷ xs) ys = ap (λ zs. f x ++ zs) (flat_map-append f xs ys) ∙ sym (append_assoc (f x) (flat_map f xs) (flat_map f ys))

pub flat_map-more : {X : Type 0} (f : ℕ → List X) (a n : ℕ) → flat_map f (range_with_len a (n + 1)) ≡ flat_map f (range_with_len a n) ++ f (a + n)
flat_map-more f a n =
    ap (flat_map f) (range-more a n) ∙ (flat_map-append f (range_with_len a n) ((a + n) ∷ []) ∙ ap (λ ys. flat_map f (range_with_len a n) ++ ys) (append-nil (f (a + n))))

-- all numbers below n
pub upto-start : (n : ℕ) → upto 0 n ≡ range_with_len 0 n
upto-start n = let e : n - 0 ≡ n = omega arith in rw e refl

pub flat_map_skips : {X : Type 0} {all : List X} (f : ℕ → List X) (n c : ℕ) (made : List X) → f n ≡ [] → n < c → made ++ flat_map f (upto n c) ≡ all → made ++ flat_map f (upto (n + 1) c) ≡ all
flat_map_skips f n c made none h e = let next = upto-next n c h in let at = rw next at e in rw none at at
