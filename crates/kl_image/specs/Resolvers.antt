-- The numbers that a resolver gives to names.
use Rattle.std.specs.Prelude.{ℕ, List, unwrap_or}
use Rattle.std.specs.Ordering.{nat_cmp}
use Rattle.std.specs.Cmp.Lexicographic.{slice_cmp}
use Rattle.std.specs.FinMap.{FinMap, get}

-- numbers by name
abbrev pub Numbers : Type 0
Numbers = FinMap (slice_cmp nat_cmp) ℕ

-- the number of a name, and 0 for a name without one
abbrev pub number_of : Numbers → List ℕ → ℕ
number_of numbers name = unwrap_or (get numbers name) 0
