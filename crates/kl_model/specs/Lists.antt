-- Words on lists.
use Rattle.std.specs.Prelude.{ℕ, suc, ◌+◌, ◌-◌, ◌*◌, ◌/◌, ◌==◌, not, Bool, cond, if◌then◌else◌, List, [], ◌∷◌, ◌++◌, filter, fold}
use Rattle.std.specs.Str.{bytes_eq}
use Rattle.std.specs.List.{list_any}

-- f of the place and the item of each item, joined in order; the first place is n
abbrev pub each_from : {X Y : Type 0} → ℕ → (ℕ → X → List Y) → List X → List Y
each_from n f [] = []
each_from n f (x ∷ xs) = f n x ++ each_from (suc n) f xs

abbrev pub each : {X Y : Type 0} → List X → (ℕ → X → List Y) → List Y
each xs f = each_from 0 f xs

-- the value alone, or nothing
abbrev pub only_if : {X : Type 0} → Bool → X → List X
only_if b x = if b then x ∷ [] else []

-- whether a text is among texts, and a number among numbers
abbrev pub among : List (List ℕ) → List ℕ → Bool
among texts t = list_any (bytes_eq t) texts

abbrev pub number_in : List ℕ → ℕ → Bool
number_in ns n = list_any (λ m. m == n) ns

-- the least multiple of n at or past a
abbrev pub up : ℕ → ℕ → ℕ
up a n = (a + n - 1) / n * n

-- each item once, where it comes first
abbrev pub once : {X : Type 0} → (X → X → Bool) → List X → List X
once same [] = []
once same (x ∷ xs) = x ∷ filter (λ y. not (same x y)) (once same xs)

-- an item put before the first that it comes before
abbrev pub put_in : {X : Type 0} → (X → X → Bool) → X → List X → List X
put_in before x [] = x ∷ []
put_in before x (y ∷ ys) = if before x y then x ∷ y ∷ ys else y ∷ put_in before x ys

-- items in order; of two neither of which comes before the other, the earlier stays first
abbrev pub in_order : {X : Type 0} → (X → X → Bool) → List X → List X
in_order before xs = fold (λ ys x. put_in before x ys) [] xs
