-- The parts of an image by spread. A spread has the number of its area; the commons, which are no area, have the number behind all
-- areas. For the contracts inside this crate alone.
use Rattle.std.specs.Prelude.{ℕ, ◌+◌, ◌≡◌, ◌<◌, ◌==◌, if◌then◌else◌, nat_lt, Bool, not, ◌&&◌, ◌||◌, List, [], ◌∷◌, ◌++◌, map, flat_map, length, slice_index_or, Option, Some, None}
use Rattle.kl_base.specs.declared.class.Class.{Class}
use Rattle.kl_base.specs.declared.class.Class.TheVariants.{Text, Rodata, Rwdata, Bss}
use Rattle.kl_model.specs.Areas.{class_number}
use Rattle.kl_model.specs.Carries.{no_piece}
use Rattle.kl_model.specs.Line.{Spread, classes, gap_parts, is_common_id, is_of_input, made_parts, piece_part, piece_parts, spreads}
use Rattle.kl_model.specs.Lists.{each, only_if}
use Rattle.kl_model.specs.Sound.{run_areas}
use Rattle.kl_model.specs.declared.graph.Piece.{Piece}
use Rattle.kl_model.specs.declared.graph.Graph.{Graph}
use Rattle.kl_model.specs.declared.kit.KitKind.{KitKind}
use Rattle.kl_model.specs.declared.kit.KitKind.TheVariants.{Kernel, Library}
use Rattle.kl_model.specs.declared.kit.Kit.{Kit}
use Rattle.kl_model.specs.declared.place.Gaps.{Gaps}
use Rattle.kl_model.specs.declared.place.Made.{Made}
use Rattle.kl_model.specs.declared.place.LinePart.{LinePart}
use Rattle.kl_model.specs.declared.area.TheConstants as area

-- the number of the commons
abbrev pub commons_number : Kit → ℕ
commons_number kit = area.FIRST_RUN + length kit.runs

-- the spreads that stand by the sequence of the inputs: the ordinary pieces of a class, and the runs
abbrev pub is_by_input : ℕ → Bool
is_by_input n = nat_lt n area.INIT || not (nat_lt n area.FIRST_RUN)

-- the spread of a piece, where its number is `commons` for a common
abbrev pub spread_number : ℕ → Piece → ℕ
spread_number commons x = if is_common_id x.id then commons else x.area

-- pieces that stand in the graph's order
abbrev pub is_in_order : Piece → Bool
is_in_order x = is_common_id x.id || not (is_by_input x.area)

-- piece m as a part, where its area is n
abbrev pub numbered_part : Graph → ℕ → ℕ → List LinePart
numbered_part g n m = only_if ((slice_index_or g.pieces m no_piece).area == n) (piece_part m (slice_index_or g.pieces m no_piece))

abbrev pub numbered_parts : Graph → ℕ → List ℕ → List LinePart
numbered_parts g n numbers = flat_map (numbered_part g n) numbers

-- the numbers of the pieces that pass a test, and of those of an input that stand by the sequence
abbrev pub piece_numbers : Graph → (Piece → Bool) → List ℕ
piece_numbers g test = each g.pieces (λ m x. only_if (test x) m)

abbrev pub numbers_of : Graph → ℕ → List ℕ
numbers_of g i = piece_numbers g (λ x. is_of_input i x.id && is_by_input x.area)

-- the pieces of inputs, in turn, that have an area
abbrev pub parts_of_inputs : Graph → ℕ → List ℕ → List LinePart
parts_of_inputs g n inputs = numbered_parts g n (flat_map (numbers_of g) inputs)

-- the pieces of a spread that stand in the graph's order
abbrev pub parts_in_order : Graph → ℕ → ℕ → List LinePart
parts_in_order g commons n = piece_parts g (λ x. is_in_order x && (spread_number commons x == n))

-- lists that are those from before with more at the end of each
abbrev pub Extends : List (List LinePart) → (ℕ → List LinePart) → List (List LinePart) → Type 0
Extends old more new = (n : ℕ) → n < length old → slice_index_or new n [] ≡ slice_index_or old n [] ++ more n

-- the gap of the class of a number, and the made area of a number
abbrev pub gap_of : Option Gaps → ℕ → List LinePart
gap_of gaps n = flat_map (λ c. if class_number c == n then gap_parts gaps c else []) classes

abbrev pub made_one : ℕ → ℕ → ℕ → ℕ → List LinePart
made_one number size align n = if number == n then made_parts number size align else []

abbrev pub made_in : Made → ℕ → List LinePart
made_in made n =
    made_one area.STUBS made.stubs 16 n
    ++ (made_one area.TABLES made.tables 8 n ++ (made_one area.GOT made.got 8 n ++ made_one area.DYNAMIC made.dynamic 8 n))

-- the parts of a spread, where inputs stand before the gap and behind it
abbrev pub parts_of_spread : Graph → List ℕ → List ℕ → Option Gaps → Made → ℕ → ℕ → List LinePart
parts_of_spread g head later gaps made commons n =
    parts_of_inputs g n head ++ (gap_of gaps n ++ (parts_of_inputs g n later ++ (parts_in_order g commons n ++ made_in made n)))

-- the numbers of the spreads of a class, in the order in which they stand
abbrev pub got_numbers : KitKind → Class → List ℕ
got_numbers Kernel Rodata = area.GOT ∷ []
got_numbers Library Rwdata = area.GOT ∷ []
got_numbers _ c = []

abbrev pub last_numbers : Kit → Class → List ℕ
last_numbers kit Text = area.INIT ∷ area.FINI ∷ area.STUBS ∷ []
last_numbers kit Rodata = area.EH_FRAME ∷ area.TABLES ∷ got_numbers kit.kind Rodata
last_numbers kit Rwdata = area.CTORS ∷ area.DTORS ∷ area.INIT_ARRAY ∷ area.FINI_ARRAY ∷ (got_numbers kit.kind Rwdata ++ area.DYNAMIC ∷ [])
last_numbers kit Bss = commons_number kit ∷ []

abbrev pub spread_numbers : Kit → Class → List ℕ
spread_numbers kit c = class_number c ∷ (run_areas kit c ++ last_numbers kit c)

-- the spread of a number: an area, but for ordinary pieces and commons
abbrev pub is_area : ℕ → ℕ → Bool
is_area commons n = not (nat_lt n area.INIT) && not (n == commons)

abbrev pub spread_at : ℕ → List (List LinePart) → ℕ → Spread
spread_at commons lists n = record { area = if is_area commons n then Some n else None; parts = slice_index_or lists n [] }

-- lists that are the spreads of every class
pub record AreSpreads (kit : Kit) (g : Graph) (gaps : Option Gaps) (order : List ℕ) (made : Made) (lists : List (List LinePart)) : Type 0 where
  pub count : length lists ≡ area.FIRST_RUN + (length kit.runs + 1)
  pub spreads : (c : Class) → map (spread_at (commons_number kit) lists) (spread_numbers kit c) ≡ spreads kit g gaps order made c
