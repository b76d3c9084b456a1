-- What stands in a class, in order.
use Rattle.std.specs.Prelude.{ℕ, ◌+◌, Bool, true, false, not, ◌&&◌, ◌==◌, List, [], ◌∷◌, ◌++◌, flat_map, slice_index, Option, Some, None}
use Rattle.kl_model.specs.Lists.{each, only_if}
use Rattle.kl_model.specs.Kept.{part_number}
use Rattle.kl_model.specs.Areas.{same_class, class_number}
use Rattle.kl_base.specs.declared.class.Class.{Class}
use Rattle.kl_base.specs.declared.class.Class.TheVariants.{Text, Rodata, Rwdata, Bss}
use Rattle.kl_model.specs.declared.object.Part.{Part}
use Rattle.kl_model.specs.declared.object.Part.TheVariants.{Head, Drawn, Tail}
use Rattle.kl_model.specs.declared.graph.PieceId.{PieceId}
use Rattle.kl_model.specs.declared.graph.PieceId.TheVariants as id
use Rattle.kl_model.specs.declared.graph.Piece.{Piece}
use Rattle.kl_model.specs.declared.graph.Graph.{Graph}
use Rattle.kl_model.specs.declared.kit.KitKind.{KitKind}
use Rattle.kl_model.specs.declared.kit.KitKind.TheVariants.{Kernel, Library}
use Rattle.kl_model.specs.declared.kit.Kit.{Kit}
use Rattle.kl_model.specs.declared.place.Gaps.{Gaps}
use Rattle.kl_model.specs.declared.place.Made.{Made}
use Rattle.kl_model.specs.declared.place.Body.TheVariants as body
use Rattle.kl_model.specs.declared.place.LinePart.{LinePart}
use Rattle.kl_model.specs.declared.area.TheConstants as area

-- the four classes in their order in memory
abbrev pub classes : List Class
classes = Text ∷ Rodata ∷ Rwdata ∷ Bss ∷ []

-- parts in a row, and the area that they are, if they are one
pub record Spread : Type 0 where
  pub area : Option ℕ
  pub parts : List LinePart

-- a piece as a part
abbrev pub piece_part : ℕ → Piece → LinePart
piece_part n x = record { body = body.Piece n; size = x.size; align = x.align }

-- the pieces that pass a test, as parts, in the graph's order
abbrev pub piece_parts : Graph → (Piece → Bool) → List LinePart
piece_parts g test = each g.pieces (λ n x. only_if (test x) (piece_part n x))

abbrev pub is_of_input : ℕ → PieceId → Bool
is_of_input i (id.Section j s) = i == j
is_of_input i (id.Common n) = false
is_of_input i (id.Gap c) = false

abbrev pub is_common_id : PieceId → Bool
is_common_id (id.Section j s) = false
is_common_id (id.Common n) = true
is_common_id (id.Gap c) = false

-- the numbers of the inputs of a part of the kit
abbrev pub inputs_in : Graph → Part → List ℕ
inputs_in g part = each g.parts (λ i x. only_if (part_number x == part_number part) i)

-- what f gives for each input by the sequence: head inputs, what stands between, drawn inputs in order, tail inputs
abbrev pub sequence : Graph → List ℕ → List LinePart → (ℕ → List LinePart) → List LinePart
sequence g order between f =
    flat_map f (inputs_in g Head) ++ (between ++ (flat_map (λ d. f (slice_index (inputs_in g Drawn) d)) order ++ flat_map f (inputs_in g Tail)))

abbrev pub gap_size : Gaps → Class → ℕ
gap_size z Text = z.text
gap_size z Rodata = z.rodata
gap_size z Rwdata = z.rwdata
gap_size z Bss = z.bss

-- the gap of a class, where there are gaps; it is aligned to 16 bytes
abbrev pub gap_parts : Option Gaps → Class → List LinePart
gap_parts None c = []
gap_parts (Some z) c = record { body = body.Gap c; size = gap_size z c; align = 16 } ∷ []

-- the pieces of one input in an area or a run, or the ordinary ones, whose area is their class's number
abbrev pub of_input : Graph → Class → ℕ → ℕ → List LinePart
of_input g c area i = piece_parts g (λ x. is_of_input i x.id && (same_class x.class c && (x.area == area)))

-- the ordinary pieces of a class, and its gap
abbrev pub ordinary : Graph → Option Gaps → List ℕ → Class → Spread
ordinary g gaps order c = record { area = None; parts = sequence g order (gap_parts gaps c) (of_input g c (class_number c)) }

-- the runs of a class, in line order
abbrev pub run_spreads : Kit → Graph → List ℕ → Class → List Spread
run_spreads kit g order c = each kit.runs (λ k r. only_if (same_class r.class c)
    (record { area = Some (area.FIRST_RUN + k); parts = sequence g order [] (of_input g c (area.FIRST_RUN + k)) }))

-- an area of pieces, which stand in kit order
abbrev pub area_spread : Graph → ℕ → Spread
area_spread g n = record { area = Some n; parts = piece_parts g (λ x. x.area == n) }

-- a made area, which is one part where it isn't empty
abbrev pub made_parts : ℕ → ℕ → ℕ → List LinePart
made_parts n size align = only_if (not (size == 0)) (record { body = body.Area n; size = size; align = align })

abbrev pub made_spread : ℕ → ℕ → ℕ → Spread
made_spread n size align = record { area = Some n; parts = made_parts n size align }

-- the global offset table, in rodata of a kernel, in data of a library
abbrev pub got_spread : KitKind → Made → Class → List Spread
got_spread Kernel made Rodata = made_spread area.GOT made.got 8 ∷ []
got_spread Library made Rwdata = made_spread area.GOT made.got 8 ∷ []
got_spread _ made _ = []

-- what follows the ordinary pieces and the runs
abbrev pub last_spreads : KitKind → Graph → Made → Class → List Spread
last_spreads kind g made Text = area_spread g area.INIT ∷ area_spread g area.FINI ∷ made_spread area.STUBS made.stubs 16 ∷ []
last_spreads kind g made Rodata = area_spread g area.EH_FRAME ∷ made_spread area.TABLES made.tables 8 ∷ got_spread kind made Rodata
last_spreads kind g made Rwdata =
    area_spread g area.CTORS ∷ area_spread g area.DTORS ∷ area_spread g area.INIT_ARRAY ∷ area_spread g area.FINI_ARRAY
    ∷ (got_spread kind made Rwdata ++ made_spread area.DYNAMIC made.dynamic 8 ∷ [])
last_spreads kind g made Bss = record { area = None; parts = piece_parts g (λ x. is_common_id x.id) } ∷ []

abbrev pub spreads : Kit → Graph → Option Gaps → List ℕ → Made → Class → List Spread
spreads kit g gaps order made c = ordinary g gaps order c ∷ (run_spreads kit g order c ++ last_spreads kit.kind g made c)

-- the parts of a class in order
abbrev pub class_line : Kit → Graph → Option Gaps → List ℕ → Made → Class → List LinePart
class_line kit g gaps order made c = flat_map (λ s. s.parts) (spreads kit g gaps order made c)

-- every piece, every gap and every made area that isn't empty
abbrev pub every_part : Graph → Option Gaps → Made → List LinePart
every_part g gaps made =
    each g.pieces (λ n x. piece_part n x ∷ []) ++ (flat_map (gap_parts gaps) classes
    ++ (made_parts area.STUBS made.stubs 16 ++ (made_parts area.TABLES made.tables 8 ++ (made_parts area.GOT made.got 8 ++ made_parts area.DYNAMIC made.dynamic 8))))
