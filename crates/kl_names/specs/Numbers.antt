-- Names by number: each once, in the order in which they come first.
use Rattle.std.specs.Prelude.{ℕ, ◌≡◌, not, List, ◌++◌, map, slice_get, Option, Some}
use Rattle.std.specs.Str.{bytes_eq}
use Rattle.std.specs.List.{position_from}
use Rattle.kl_model.specs.Lists.{among, once, only_if}
use Rattle.kl_model.specs.Names.{Occurrence}

-- the number of a name
abbrev pub place_in : List (List ℕ) → List ℕ → Option ℕ
place_in names t = position_from (bytes_eq t) 0 names

-- names with one more, unless it stands there
abbrev pub with_name : List (List ℕ) → List ℕ → List (List ℕ)
with_name names t = names ++ only_if (not (among names t)) t

-- the names of some occurrences, each once
abbrev pub names_in : List Occurrence → List (List ℕ)
names_in os = once bytes_eq (map (λ o. o.name) os)

-- The names are those of some occurrences, each once, and each occurrence's number leads to its name.
pub record AreNumbered (os : List Occurrence) (names : List (List ℕ)) (numbers : List ℕ) : Type 0 where
  pub once : names ≡ names_in os
  pub named : map (slice_get names) numbers ≡ map (λ o. Some o.name) os
