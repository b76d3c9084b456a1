-- The form of a map: which lines it has, and in which order.
use Rattle.std.specs.Prelude.{ℕ, zero, suc, ◌≡◌, ◌≤◌, ◌⊎◌, ◌==◌, ◌&&◌, ◌||◌, nat_lt, Bool, true, List, [], ◌∷◌, ◌++◌, length, map}
use Rattle.kl_base.specs.declared.class.Class.TheVariants.{Text, Rodata, Rwdata, Bss}
use Rattle.kl_model.specs.declared.area.TheConstants as area
use Rattle.kl_model.specs.declared.graph.PieceId.{PieceId}
use Rattle.kl_model.specs.declared.graph.PieceId.TheVariants.{Section, Common, Gap}
use Rattle.kl_model.specs.declared.place.Placed.{Placed}
use Rattle.kl_map.specs.Spelling.{IsMap}
use Rattle.kl_map.specs.declared.map.Map.{Map}

-- a section, told by the number of its input and its own
abbrev pub section_id : ℕ × ℕ → PieceId
section_id (input, section) = Section input section

-- a section comes before another by its input, then by its own number
abbrev pub is_before : ℕ × ℕ → ℕ × ℕ → Bool
is_before a b = nat_lt a.0 b.0 || ((a.0 == b.0) && nat_lt a.1 b.1)

-- each section comes before the next
abbrev pub Ascend : List (ℕ × ℕ) → Type 0
Ascend [] = Unit {0}
Ascend (a ∷ []) = Unit {0}
Ascend (a ∷ b ∷ sections) = (is_before a b ≡ true) × Ascend (b ∷ sections)

-- so many commons, numbered on from the first of these numbers
abbrev pub commons_from : ℕ → ℕ → List PieceId
commons_from first zero = []
commons_from first (suc more) = Common first ∷ commons_from (suc first) more

-- the gaps of all classes
abbrev pub all_gaps : List PieceId
all_gaps = Gap Text ∷ Gap Rodata ∷ Gap Rwdata ∷ Gap Bss ∷ []

-- The order behind the areas: sections ascend strictly, commons are numbered from 0, and gaps are none or four.
pub record IsInOrder (ids : List PieceId) : Type 0 where
  pub sections : List (ℕ × ℕ)
  pub commons : ℕ
  pub gaps : List PieceId
  pub ascend : Ascend sections
  pub none_or_all : (gaps ≡ []) ⊎ (gaps ≡ all_gaps)
  pub are : ids ≡ map section_id sections ++ commons_from 0 commons ++ gaps

abbrev pub placed_ids : List Placed → List PieceId
placed_ids pieces = map (λ p. p.id) pieces

-- A MAP IN THE FORM: with all areas but the runs at least, and everything behind them in order
pub record IsMapForm (map : Map) : Type 0 where
  pub fits : IsMap map
  pub areas : area.FIRST_RUN ≤ length map.placement.areas
  pub order : IsInOrder (placed_ids map.placement.pieces)
