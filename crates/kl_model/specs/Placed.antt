-- The placement of a graph as a computation. That it is laid out, and that there is no other, is a law on the linker's layout.
use Rattle.std.specs.Prelude.{ℕ, ◌+◌, ◌-◌, ◌%◌, ◌^◌, Bool, false, cond, if◌then◌else◌, ◌==◌, List, [], ◌∷◌, ◌++◌, map, unwrap_or, Option, Some, None}
use Rattle.std.specs.Option.{option_or, option_map_or}
use Rattle.std.specs.List.{range_with_len}
use Rattle.kl_base.specs.declared.class.Class.{Class}
use Rattle.kl_base.specs.declared.class.Class.TheVariants.{Text, Rodata, Rwdata, Bss}
use Rattle.kl_model.specs.Lists.{each, each_from}
use Rattle.kl_model.specs.Areas.{same_class}
use Rattle.kl_model.specs.Line.{Spread, spreads, class_line, classes, gap_size}
use Rattle.kl_model.specs.Lists.{up}
use Rattle.kl_model.specs.Sizes.{page_of, text_from}
use Rattle.kl_model.specs.Laid.{reach, no_area}
use Rattle.kl_model.specs.declared.place.Body.{Body}
use Rattle.kl_model.specs.declared.place.Body.TheVariants as body
use Rattle.kl_model.specs.declared.place.LinePart.{LinePart}
use Rattle.kl_model.specs.declared.place.Gaps.{Gaps}
use Rattle.kl_model.specs.declared.place.Made.{Made}
use Rattle.kl_model.specs.declared.place.AreaAt.{AreaAt}
use Rattle.kl_model.specs.declared.place.Placed.{Placed}
use Rattle.kl_model.specs.declared.place.Placement.{Placement}
use Rattle.kl_model.specs.declared.graph.PieceId.TheVariants as id
use Rattle.kl_model.specs.declared.graph.Graph.{Graph}
use Rattle.kl_model.specs.declared.kit.Kit.{Kit}
use Rattle.kl_model.specs.declared.area.TheConstants as area

abbrev pub same_body : Body → Body → Bool
same_body (body.Piece n) (body.Piece m) = n == m
same_body (body.Gap c) (body.Gap d) = same_class c d
same_body (body.Area n) (body.Area m) = n == m
same_body _ _ = false

-- where a body stands in parts that are laid from an address on, if it is there
abbrev pub stop_of : Body → ℕ → List LinePart → Option ℕ
stop_of b from [] = None
stop_of b from (x ∷ xs) = if same_body b x.body then Some (up from x.align) else stop_of b (up from x.align + x.size) xs

-- where parts that are laid from an address on start and end, each kept modulo 2^64
abbrev pub first_stop : ℕ → List LinePart → ℕ
first_stop from [] = from
first_stop from (x ∷ xs) = up from x.align

abbrev pub extent : ℕ → List LinePart → AreaAt
extent from parts = record { start = first_stop from parts % 2 ^ 64; end = reach from parts % 2 ^ 64 }

-- the extent of the area of a number among spreads that are laid from an address on
abbrev pub extent_of : ℕ → ℕ → List Spread → Option AreaAt
extent_of n from [] = None
extent_of n from (s ∷ ss) = if option_map_or (λ m. m == n) s.area false then Some (extent from s.parts) else extent_of n (reach from s.parts) ss

module _ (kit : Kit) (g : Graph) (gaps : Option Gaps) (order : List ℕ) (made : Made) where
  -- where each class is laid from
  abbrev pub rodata_from : ℕ
  rodata_from = up (reach (text_from kit g) (class_line kit g gaps order made Text)) (page_of kit g)

  abbrev pub rwdata_from : ℕ
  rwdata_from = up (reach rodata_from (class_line kit g gaps order made Rodata)) (page_of kit g)

  abbrev pub bss_from : ℕ
  bss_from = up (reach rwdata_from (class_line kit g gaps order made Rwdata)) (page_of kit g)

  abbrev pub class_from : Class → ℕ
  class_from Text = text_from kit g
  class_from Rodata = rodata_from
  class_from Rwdata = rwdata_from
  class_from Bss = bss_from

  -- the extents of a class and of an area
  abbrev pub class_extent : Class → AreaAt
  class_extent c = extent (class_from c) (class_line kit g gaps order made c)

  abbrev pub spread_extent : ℕ → Class → Option AreaAt
  spread_extent n c = extent_of n (class_from c) (spreads kit g gaps order made c)

  abbrev pub area_extent : ℕ → AreaAt
  area_extent n = unwrap_or (option_or (spread_extent n Text) (option_or (spread_extent n Rodata) (option_or (spread_extent n Rwdata) (spread_extent n Bss)))) no_area

  -- the address of a body that stands in a class
  abbrev pub stop_in : Class → Body → ℕ
  stop_in c b = unwrap_or (stop_of b (class_from c) (class_line kit g gaps order made c)) 0 % 2 ^ 64

  abbrev pub placed_gaps : Option Gaps → List Placed
  placed_gaps None = []
  placed_gaps (Some z) = map (λ c. record { id = id.Gap c; address = stop_in c (body.Gap c); size = gap_size z c }) classes

  -- The placement: the areas by number, the pieces in the graph's order, the gaps by class.
  abbrev pub placed : Placement
  placed = record {
    base = kit.base;
    areas = map class_extent classes
        ++ (map area_extent (range_with_len area.INIT (area.FIRST_RUN - area.INIT)) ++ each_from area.FIRST_RUN (λ n r. area_extent n ∷ []) kit.runs);
    pieces = each g.pieces (λ n x. record { id = x.id; address = stop_in x.class (body.Piece n); size = x.size } ∷ []) ++ placed_gaps gaps;
  }
