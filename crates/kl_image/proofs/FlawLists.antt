-- Lists of flaws that are empty, and their parts.
use Rattle.std.proofs.Common.{ℕ, ◌≡◌, ◌+◌, ◌<◌, ◌∙◌, Bool, true, false, List, [], ◌∷◌, length, get_or, drop, take, zero, suc, refl, sym, arith}
use Rattle.std.specs.Prelude.{find, Some, None}
use Rattle.kl_model.specs.Lists.{each, each_from, only_if}
use Rattle.kl_model.proofs.Each.{each-split, none_left, none_right}

-- where all items give nothing, each gives nothing
pub none_at : {X Y : Type 0} (f : ℕ → X → List Y) (xs : List X) (k : ℕ) (d : X) → each xs f ≡ [] → k < length xs → f k (get_or xs k d) ≡ []
none_at f xs k d none h =
    let first : zero + k ≡ k = omega arith in
    let split = rw first at (each-split 0 f xs k d h) in
    none_left (f k (get_or xs k d)) (each_from (suc k) f (drop (suc k) xs)) (none_right (each_from 0 f (take k xs)) _ (sym split ∙ none))

-- what isn't told doesn't stand
pub not_told : {Y : Type 0} (stands : Bool) (y : Y) → only_if stands y ≡ [] → stands ≡ false
not_told true y e = cc
not_told false y e = refl

-- the first item that passes, and none among one item more
pub find_first : {X : Type 0} (p : X → Bool) (xs : List X) (i : ℕ) (d : X) → find p (take i xs) ≡ None → i < length xs → p (get_or xs i d) ≡ true
    → find p xs ≡ Some (get_or xs i d)
find_first p [] i d none h is = absurd (omega arith)
find_first p (x ∷ xs) zero d none h is = rw is refl
find_first p (x ∷ xs) (suc i) d none h is = go (p x) refl (λ rest. find_first p xs i d rest (omega arith) is)
  where
    go : (t : Bool) → p x ≡ t → (find p (take i xs) ≡ None → find p xs ≡ Some (get_or xs i d)) → find p (x ∷ xs) ≡ Some (get_or xs i d)
    go true e rest = let bad : Some x ≡ None = rw e at none in cc
    go false e rest = rw e (rest (rw e at none))

pub find_more : {X : Type 0} (p : X → Bool) (xs : List X) (i : ℕ) (d : X) → find p (take i xs) ≡ None → i < length xs → p (get_or xs i d) ≡ false
    → find p (take (i + 1) xs) ≡ None
find_more p [] i d none h is = absurd (omega arith)
find_more p (x ∷ xs) zero d none h is = rw is refl
find_more p (x ∷ xs) (suc i) d none h is = go (p x) refl (λ rest. find_more p xs i d rest (omega arith) is)
  where
    go : (t : Bool) → p x ≡ t → (find p (take i xs) ≡ None → find p (take (i + 1) xs) ≡ None) → find p (take (suc i + 1) (x ∷ xs)) ≡ None
    go true e rest = let bad : Some x ≡ None = rw e at none in cc
    go false e rest = let next : suc i + 1 ≡ suc (i + 1) = omega arith in rw (next, e) (rest (rw e at none))
