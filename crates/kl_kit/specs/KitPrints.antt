-- The text that is printed of a kit: a line for each thing that it says, words parted by one space.
use Rattle.std.specs.Prelude.{ℕ, Bool, if◌then◌else◌, List, [], ◌∷◌, ◌++◌, codes, unwrap_or}
use Rattle.std.specs.Option.{option_map_or}
use Rattle.std.specs.List.{flat_map}
use Rattle.std.specs.Int.{to_be_bytes, w64}
use Rattle.hex.specs.Hex.{encode_lower}
use Rattle.kl_base.specs.declared.class.Class.{Class}
use Rattle.kl_base.specs.declared.class.Class.TheVariants.{Text, Rodata, Rwdata, Bss}
use Rattle.kl_text.specs.Lines.{words_line}
use Rattle.kl_model.specs.Areas.{map_name}
use Rattle.kl_model.specs.declared.object.Part.{Part}
use Rattle.kl_model.specs.declared.object.Part.TheVariants.{Head, Drawn, Tail}
use Rattle.kl_model.specs.declared.kit.KitKind.{KitKind}
use Rattle.kl_model.specs.declared.kit.KitKind.TheVariants.{Kernel, Library}
use Rattle.kl_model.specs.declared.kit.KitInput.{KitInput}
use Rattle.kl_model.specs.declared.kit.Run.{Run}
use Rattle.kl_model.specs.declared.kit.EdgeLine.{EdgeLine}
use Rattle.kl_model.specs.declared.kit.Kit.{Kit}
use Rattle.kl_kit.specs.Keywords.{keyword_word}
use Rattle.kl_kit.specs.declared.keyword.Keyword.{Keyword}
use Rattle.kl_kit.specs.declared.keyword.Keyword.TheVariants as keyword

abbrev pub kind_word : KitKind → List ℕ
kind_word Kernel = codes "kernel"
kind_word Library = codes "library"

abbrev pub class_word : Class → List ℕ
class_word Text = codes "text"
class_word Rodata = codes "rodata"
class_word Rwdata = codes "data"
class_word Bss = codes "bss"

abbrev pub part_keyword : Part → Keyword
part_keyword Head = keyword.Head
part_keyword Drawn = keyword.Object
part_keyword Tail = keyword.Tail

abbrev pub area_word : ℕ → List ℕ
area_word number = unwrap_or (map_name number) []

abbrev pub end_word : Bool → List ℕ
end_word end = if end then codes "end" else codes "start"

-- an address: `0x` and sixteen digits, with lower-case letters
abbrev pub base_word : ℕ → List ℕ
base_word base = codes "0x" ++ encode_lower (to_be_bytes w64 base)

-- a line of a keyword and one word
abbrev pub word_line : Keyword → List ℕ → List ℕ
word_line k word = words_line (keyword_word k ∷ word ∷ [])

abbrev pub input_line : KitInput → List ℕ
input_line input = word_line (part_keyword input.place) input.file

abbrev pub run_line : Run → List ℕ
run_line run = words_line (codes "run" ∷ run.section ∷ class_word run.class ∷ run.start ∷ run.end ∷ [])

abbrev pub edge_line : EdgeLine → List ℕ
edge_line edge = words_line (codes "edge" ∷ edge.symbol ∷ area_word edge.area ∷ end_word edge.end ∷ [])

-- the line of a base, which a kernel alone has
abbrev pub base_line : KitKind → ℕ → List ℕ
base_line Kernel base = word_line keyword.Base (base_word base)
base_line Library base = []

-- the lines that a library alone has
abbrev pub library_lines : KitKind → Kit → List ℕ
library_lines Kernel kit = []
library_lines Library kit =
    option_map_or (word_line keyword.Soname) kit.soname []
    ++ flat_map (word_line keyword.Needed) kit.needed
    ++ flat_map (word_line keyword.Export) kit.exports
    ++ (if kit.symbolic then words_line (codes "symbolic" ∷ []) else [])
    ++ (if kit.refuse then word_line keyword.Undefined (codes "refuse") else [])

-- THE TEXT OF A KIT
abbrev pub head_lines : Kit → List ℕ
head_lines kit =
    word_line keyword.Kind (kind_word kit.kind)
    ++ word_line keyword.Output kit.output
    ++ base_line kit.kind kit.base
    ++ option_map_or (word_line keyword.Entry) kit.entry []

unfoldable pub kit_text : Kit → List ℕ
kit_text kit =
    head_lines kit
    ++ flat_map input_line kit.inputs
    ++ flat_map run_line kit.runs
    ++ flat_map edge_line kit.edges
    ++ flat_map (word_line keyword.Drop) kit.drops
    ++ library_lines kit.kind kit
