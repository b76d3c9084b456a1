-- The text of a map.
use Rattle.std.specs.Prelude.{ℕ, ◌-◌, ◌++◌, ◌∷◌, [], List, codes, decimal, unwrap_or}
use Rattle.std.specs.List.{flat_map}
use Rattle.std.specs.Int.{to_be_bytes, w64}
use Rattle.hex.specs.Hex.{encode_lower}
use Rattle.kl_base.specs.declared.class.Class.{Class}
use Rattle.kl_base.specs.declared.class.Class.TheVariants.{Text, Rodata, Rwdata, Bss}
use Rattle.kl_text.specs.Lines.{words_line}
use Rattle.kl_model.specs.declared.graph.PieceId.{PieceId}
use Rattle.kl_model.specs.declared.graph.PieceId.TheVariants.{Section, Common, Gap}
use Rattle.kl_model.specs.declared.place.AreaAt.{AreaAt}
use Rattle.kl_model.specs.declared.place.Placed.{Placed}
use Rattle.kl_model.specs.Areas.{map_name}
use Rattle.kl_model.specs.declared.area.TheConstants as area
use Rattle.kl_model.specs.Lists.{each}
use Rattle.kl_map.specs.declared.map.Map.{Map}

-- an address or a size: `0x` and sixteen digits, with lower-case letters
unfoldable pub hexadecimal : ℕ → List ℕ
hexadecimal n = codes "0x" ++ encode_lower (to_be_bytes w64 n)

-- an area's name by its number: beyond these areas stand the runs, which are numbered from 0
unfoldable pub area_name : ℕ → List ℕ
area_name number = unwrap_or (map_name number) (codes "run" ++ decimal (number - area.FIRST_RUN))

-- a class as the lines of gaps name it
abbrev pub class_name : Class → List ℕ
class_name Text = codes "text"
class_name Rodata = codes "rodata"
class_name Rwdata = codes "data"
class_name Bss = codes "bss"

-- the first words of the line of a piece, a common or a gap
abbrev pub id_words : PieceId → List (List ℕ)
id_words (Section input section) = codes "piece" ∷ decimal input ∷ decimal section ∷ []
id_words (Common number) = codes "common" ∷ decimal number ∷ []
id_words (Gap class) = codes "gap" ∷ class_name class ∷ []

-- the line of the area of that number
unfoldable pub area_line : ℕ → AreaAt → List ℕ
area_line number area =
    words_line (codes "area" ∷ area_name number ∷ hexadecimal area.start ∷ hexadecimal area.end ∷ [])

-- the line of a piece, a common or a gap
unfoldable pub placed_line : Placed → List ℕ
placed_line placed = words_line (id_words placed.id ++ hexadecimal placed.address ∷ hexadecimal placed.size ∷ [])

-- the line of the image's name
abbrev pub output_line : List ℕ → List ℕ
output_line name = words_line (codes "output" ∷ name ∷ [])

-- the line of the seed, with two digits a byte
abbrev pub seed_line : List ℕ → List ℕ
seed_line seed = words_line (codes "seed" ∷ encode_lower seed ∷ [])

-- the line of the address that the image begins at
abbrev pub base_line : ℕ → List ℕ
base_line base = words_line (codes "base" ∷ hexadecimal base ∷ [])

-- the lines before the areas
abbrev pub head_lines : Map → List ℕ
head_lines map =
    words_line (codes "relink" ∷ codes "map" ∷ codes "1" ∷ [])
    ++ output_line map.output
    ++ seed_line map.seed
    ++ base_line map.placement.base

-- a map's text: its head, the areas by number, the pieces, commons and gaps in the placement's order, and `end`
unfoldable pub map_text : Map → List ℕ
map_text map =
    head_lines map
    ++ each map.placement.areas area_line
    ++ flat_map placed_line map.placement.pieces
    ++ words_line (codes "end" ∷ [])
