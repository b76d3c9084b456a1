-- Where parts are laid that stand by spread. For the contracts inside this crate alone.
use Rattle.std.specs.Prelude.{ℕ, ◌+◌, ◌%◌, ◌^◌, ◌≡◌, ◌<◌, ◌≤◌, List, [], ◌∷◌, ◌++◌, map, flat_map, length, slice_get, slice_index, slice_index_or, sum_by, Option, Some, None, IfSome, ⊤}
use Rattle.std.specs.Option.{option_map_or, option_or}
use Rattle.kl_base.specs.declared.class.Class.{Class}
use Rattle.kl_base.specs.declared.class.Class.TheVariants.{Text, Rodata, Rwdata, Bss}
use Rattle.kl_base.specs.declared.limits.TheConstants.{ALIGN_POWER_LIMIT}
use Rattle.kl_model.specs.Areas.{class_number}
use Rattle.kl_model.specs.Laid.{reach}
use Rattle.kl_model.specs.Line.{Spread, classes, gap_size}
use Rattle.kl_model.specs.Lists.{each, up}
use Rattle.kl_model.specs.Placed.{extent, extent_of, stop_of}
use Rattle.kl_model.specs.Sizes.{page_of, text_from}
use Rattle.kl_model.specs.declared.graph.Graph.{Graph}
use Rattle.kl_model.specs.declared.graph.Piece.{Piece}
use Rattle.kl_model.specs.declared.graph.PieceId.TheVariants as id
use Rattle.kl_model.specs.declared.kit.Kit.{Kit}
use Rattle.kl_model.specs.declared.place.AreaAt.{AreaAt}
use Rattle.kl_model.specs.declared.place.Body.{Body}
use Rattle.kl_model.specs.declared.place.Body.TheVariants as body
use Rattle.kl_model.specs.declared.place.Gaps.{Gaps}
use Rattle.kl_model.specs.declared.place.LinePart.{LinePart}
use Rattle.kl_model.specs.declared.place.Placed.{Placed}
use Rattle.kl_model.specs.declared.area.TheConstants as area
use Rattle.kl_layout.specs.declared.stops.TheConstants.{FIRST_AREA, FIRST_PIECE}
use Rattle.kl_layout.specs.Spreads.{commons_number, spread_at, spread_numbers}

-- a body's number: gaps are first, by class, then the areas that a linker makes, then the pieces
abbrev pub body_number : Body → ℕ
body_number (body.Gap c) = class_number c
body_number (body.Area n) = FIRST_AREA + n
body_number (body.Piece n) = FIRST_PIECE + n

-- a body has one of so many numbers, and no run is an area that a linker makes
abbrev pub IsBody : ℕ → Body → Type 0
IsBody count (body.Gap c) = FIRST_PIECE ≤ count
IsBody count (body.Area n) = (n < area.FIRST_RUN) × (FIRST_PIECE ≤ count)
IsBody count (body.Piece n) = FIRST_PIECE + n < count

-- an alignment: a power of two up to the limit
abbrev pub IsStep : ℕ → Type 0
IsStep n = (k : ℕ) × (k ≤ ALIGN_POWER_LIMIT) × (n ≡ 2 ^ k)

-- a part whose body has one of so many numbers, and whose alignment is a power of two
pub record IsPart (count : ℕ) (x : LinePart) : Type 0 where
  pub known : IsBody count x.body
  pub align : IsStep x.align

-- how many bytes parts take at most
abbrev pub room : List LinePart → ℕ
room parts = sum_by (λ x. x.size + x.align) parts

-- the address of a body among parts that are laid from an address on, kept modulo 2^64, or another where it isn't there
abbrev pub address_or : Body → ℕ → List LinePart → ℕ → ℕ
address_or b from parts other = option_map_or (λ n. n % 2 ^ 64) (stop_of b from parts) other

-- addresses by the numbers of bodies in which those of parts are written that are laid from an address on
abbrev pub HasStops : ℕ → List LinePart → List ℕ → List ℕ → Type 0
HasStops from parts old new =
    (b : Body) → IsBody (length old) b → slice_index new (body_number b) ≡ address_or b from parts (slice_index old (body_number b))

-- the spreads of these numbers, and their parts
abbrev pub listed : List (List LinePart) → List ℕ → List Spread
listed lists numbers = map (λ n. record { area = Some n; parts = slice_index_or lists n [] }) numbers

abbrev pub joined : List (List LinePart) → List ℕ → List LinePart
joined lists numbers = flat_map (λ n. slice_index_or lists n []) numbers

-- the area of a number among spreads that are laid from an address on, or another where it isn't there
abbrev pub area_or : ℕ → ℕ → List Spread → Option AreaAt → Option AreaAt
area_or n from ss other = option_or (extent_of n from ss) other

-- areas by number in which those of spreads are written that are laid from an address on
abbrev pub HasAreas : ℕ → List Spread → List AreaAt → List AreaAt → Type 0
HasAreas from ss old new = (n : ℕ) → n < length old → slice_get new n ≡ area_or n from ss (slice_get old n)

-- the line of a class
abbrev pub listed_line : Kit → List (List LinePart) → Class → List LinePart
listed_line kit lists c = joined lists (spread_numbers kit c)

-- where the line of each class is laid from
module _ (kit : Kit) (g : Graph) (lists : List (List LinePart)) where
  abbrev listed_rodata : ℕ
  listed_rodata = up (reach (text_from kit g) (listed_line kit lists Text)) (page_of kit g)

  abbrev listed_rwdata : ℕ
  listed_rwdata = up (reach listed_rodata (listed_line kit lists Rodata)) (page_of kit g)

  abbrev listed_bss : ℕ
  listed_bss = up (reach listed_rwdata (listed_line kit lists Rwdata)) (page_of kit g)

  abbrev pub listed_from : Class → ℕ
  listed_from Text = text_from kit g
  listed_from Rodata = listed_rodata
  listed_from Rwdata = listed_rwdata
  listed_from Bss = listed_bss

-- areas by number have the extents of those of spreads that are laid from an address on
abbrev pub AreExtents : List AreaAt → ℕ → List Spread → Type 0
AreExtents areas from [] = ⊤
AreExtents areas from (s ∷ ss) = IfSome s.area (λ n. slice_get areas n ≡ Some (extent from s.parts)) × AreExtents areas (reach from s.parts) ss

-- the spreads of the lists of a class
abbrev pub class_spreads : Kit → List (List LinePart) → Class → List Spread
class_spreads kit lists c = map (spread_at (commons_number kit) lists) (spread_numbers kit c)

-- everything in the lists is laid: each body's address is its stop, and each class and each area has its extent
pub record AreListed (kit : Kit) (g : Graph) (lists : List (List LinePart)) (addresses : List ℕ) (areas : List AreaAt) : Type 0 where
  pub stops : (c : Class) (b : Body) (n : ℕ) → IsBody (length addresses) b → stop_of b (listed_from kit g lists c) (listed_line kit lists c) ≡ Some n
      → slice_index addresses (body_number b) ≡ n % 2 ^ 64
  pub extents : (c : Class) → AreExtents areas (listed_from kit g lists c) (class_spreads kit lists c)
  pub classes : (c : Class) → slice_get areas (class_number c) ≡ Some (extent (listed_from kit g lists c) (listed_line kit lists c))

-- a piece and a gap at the addresses that these give by the numbers of bodies
abbrev pub laid_piece : List ℕ → ℕ → Piece → List Placed
laid_piece addresses n x = record { id = x.id; address = slice_index addresses (body_number (body.Piece n)); size = x.size } ∷ []

abbrev pub laid_gap : List ℕ → Class → ℕ → Placed
laid_gap addresses c size = record { id = id.Gap c; address = slice_index addresses (body_number (body.Gap c)); size = size }

abbrev pub laid_gaps : List ℕ → Option Gaps → List Placed
laid_gaps addresses None = []
laid_gaps addresses (Some z) = map (λ c. laid_gap addresses c (gap_size z c)) classes

abbrev pub laid_pieces : Graph → Option Gaps → List ℕ → List Placed
laid_pieces g gaps addresses = each g.pieces (laid_piece addresses) ++ laid_gaps addresses gaps
