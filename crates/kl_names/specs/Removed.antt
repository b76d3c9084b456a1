-- The sections that are left out with their COMDAT groups.
use Rattle.std.specs.Prelude.{ℕ, ◌≡◌, Bool, ◌||◌, List, [], ◌∷◌}
use Rattle.std.specs.Str.{bytes_eq}
use Rattle.std.specs.Borrow.{Bor}
use Rattle.std.specs.HashSet.{HashSet, contains_by}
use Rattle.kl_model.specs.Lists.{among, each, number_in}
use Rattle.kl_model.specs.Kept.{input_at, is_repeated, no_section}
use Rattle.kl_model.specs.declared.object.Input.{Input}

-- whether each section of an input is left out, from section 0 on
abbrev pub repeated_table : List Input → ℕ → List Bool
repeated_table inputs i = each (no_section ∷ (input_at inputs i).object.sections) (λ s y. is_repeated inputs i s ∷ [])

abbrev pub repeated_tables : List Input → List (List Bool)
repeated_tables inputs = each inputs (λ i x. repeated_table inputs i ∷ [])

-- For the contracts inside this crate alone: a set has these texts; marks with those of some numbers.
abbrev pub Sees : {S : Type 0} → HashSet (Bor (List ℕ)) S → List (List ℕ) → Type 0
Sees seen texts = (q : List ℕ) → contains_by (λ k. bytes_eq q k.now) seen ≡ among texts q

abbrev pub marked : List Bool → List ℕ → List Bool
marked marks numbers = each marks (λ s b. (b || number_in numbers s) ∷ [])
