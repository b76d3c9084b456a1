-- A map has one spelling.
use Rattle.std.specs.Prelude.{◌≡◌, ◌<◌, ◌^◌, length, None, All}
use Rattle.hex.specs.Hex.{IsBytes}
use Rattle.kl_base.specs.Names.{name_fault}
use Rattle.kl_model.specs.declared.graph.PieceId.{PieceId}
use Rattle.kl_model.specs.declared.graph.PieceId.TheVariants.{Section, Common, Gap}
use Rattle.kl_model.specs.declared.place.AreaAt.{AreaAt}
use Rattle.kl_model.specs.declared.place.Placed.{Placed}
use Rattle.kl_map.specs.declared.map.Map.{Map}
use Rattle.kl_map.specs.MapText.{map_text}

-- the addresses of an area fit 64 bits
abbrev pub AreaFits : AreaAt → Type 0
AreaFits area = (area.start < 2 ^ 64) × (area.end < 2 ^ 64)

-- the numbers of an id fit 32 bits
abbrev pub IdFits : PieceId → Type 0
IdFits (Section input section) = (input < 2 ^ 32) × (section < 2 ^ 32)
IdFits (Common number) = number < 2 ^ 32
IdFits (Gap class) = Unit {0}

-- the numbers of a piece, a common or a gap fit their types
abbrev pub PlacedFits : Placed → Type 0
PlacedFits placed = IdFits placed.id × (placed.address < 2 ^ 64) × (placed.size < 2 ^ 64)

-- what each map in memory keeps: the output is a name, and the numbers fit their types
pub record IsMap (map : Map) : Type 0 where
  pub output : name_fault map.output ≡ None
  pub seed_length : length map.seed ≡ 32
  pub seed : IsBytes map.seed
  pub base : map.placement.base < 2 ^ 64
  pub areas : All AreaFits map.placement.areas
  pub pieces : All PlacedFits map.placement.pieces

-- no two maps have one text
abbrev pub OneSpelling : Type 0
OneSpelling =
    (first second : Map) → IsMap first → IsMap second → map_text first ≡ map_text second → first ≡ second
