-- What stands before the first item that passes a test.
use Rattle.std.proofs.Common.{ℕ, suc, ◌≡◌, ◌+◌, List, [], ◌∷◌, take, refl, arith, Bool, true, false}
use Rattle.std.specs.List.{before_first, position_or_len}

one_more : {X : Type 0} (n : ℕ) (x : X) (xs : List X) → take (1 + n) (x ∷ xs) ≡ x ∷ take n xs
one_more n x xs = let e : 1 + n ≡ suc n = omega arith in rw e refl

pub before_pass : {X : Type 0} (t : X → Bool) (x : X) (xs : List X) → t x ≡ false → before_first t (x ∷ xs) ≡ x ∷ before_first t xs
before_pass t x xs e = rw e (one_more (position_or_len t xs) x xs)

pub before_stop : {X : Type 0} (t : X → Bool) (x : X) (xs : List X) → t x ≡ true → before_first t (x ∷ xs) ≡ []
before_stop t x xs e = rw e refl
