-- The areas of an image, as the table of the code has them: where a constant holds texts, definitions can't cite it.
use Rattle.std.specs.Prelude.{ℕ, Bool, true, false, not, ◌&&◌, ◌||◌, ◌==◌, List, [], ◌∷◌, map, filter, find, length, slice_get, codes, Option}
use Rattle.std.specs.Option.{option_map, option_map_or}
use Rattle.std.specs.Str.{bytes_eq}
use Rattle.kl_base.specs.declared.class.Class.{Class}
use Rattle.kl_base.specs.declared.class.Class.TheVariants.{Text, Rodata, Rwdata, Bss}
use Rattle.kl_elf.specs.declared.abi.TheConstants.{SHT_FINI_ARRAY, SHT_INIT_ARRAY, SHT_NULL}
use Rattle.kl_model.specs.declared.area.TheConstants as area

-- a class's number is that of the area of its ordinary pieces
abbrev pub class_number : Class → ℕ
class_number Text = area.TEXT
class_number Rodata = area.RODATA
class_number Rwdata = area.RWDATA
class_number Bss = area.BSS

abbrev pub same_class : Class → Class → Bool
same_class a b = class_number a == class_number b

-- an area: its number, its name in the map, the name and the type of the sections that stand in it, its class, whether an edge may
-- name it, and whether the linker makes it
pub record Area : Type 0 where
  pub number : ℕ
  pub name : List ℕ
  pub section : List ℕ
  pub section_type : ℕ
  pub class : Class
  pub edge : Bool
  pub made : Bool

abbrev pub row : ℕ → List ℕ → List ℕ → ℕ → Class → Bool → Bool → Area
row number name section section_type class edge made =
    record { number = number; name = name; section = section; section_type = section_type; class = class; edge = edge; made = made }

-- all areas but the runs, by number
abbrev pub areas : List Area
areas =
    row area.TEXT (codes "text") [] SHT_NULL Text true false
    ∷ row area.RODATA (codes "rodata") [] SHT_NULL Rodata true false
    ∷ row area.RWDATA (codes "data") [] SHT_NULL Rwdata true false
    ∷ row area.BSS (codes "bss") [] SHT_NULL Bss true false
    ∷ row area.INIT (codes "init") (codes ".init") SHT_NULL Text true false
    ∷ row area.FINI (codes "fini") (codes ".fini") SHT_NULL Text true false
    ∷ row area.STUBS (codes "stubs") [] SHT_NULL Text false true
    ∷ row area.EH_FRAME (codes "eh_frame") (codes ".eh_frame") SHT_NULL Rodata true false
    ∷ row area.TABLES (codes "tables") [] SHT_NULL Rodata false true
    ∷ row area.CTORS (codes "ctors") (codes ".ctors") SHT_NULL Rwdata true false
    ∷ row area.DTORS (codes "dtors") (codes ".dtors") SHT_NULL Rwdata true false
    ∷ row area.INIT_ARRAY (codes "init_array") (codes ".init_array") SHT_INIT_ARRAY Rwdata true false
    ∷ row area.FINI_ARRAY (codes "fini_array") (codes ".fini_array") SHT_FINI_ARRAY Rwdata true false
    ∷ row area.GOT (codes "got") [] SHT_NULL Rodata true true
    ∷ row area.DYNAMIC (codes "dynamic") [] SHT_NULL Rwdata true true ∷ []

-- the name of an area in the map
abbrev pub map_name : ℕ → Option (List ℕ)
map_name n = option_map (λ x. x.name) (slice_get areas n)

-- the first area of a class that passes a test
abbrev pub first_area : Class → (Area → Bool) → Option ℕ
first_area c test = option_map (λ x. x.number) (find (λ x. same_class x.class c && test x) areas)

-- the number of the area that a name gives in a class
abbrev pub named_area : Class → List ℕ → Option ℕ
named_area c name = first_area c (λ x. not (length x.section == 0) && bytes_eq name x.section)

-- the number of the area that a section's type gives
abbrev pub typed_area : Class → ℕ → Option ℕ
typed_area c kind = first_area c (λ x. not (x.section_type == SHT_NULL) && (x.section_type == kind))

-- an `edge` line may name the area of a number
abbrev pub may_have_edge : ℕ → Bool
may_have_edge n = option_map_or (λ x. x.edge) (slice_get areas n) false

-- the linker makes the bytes of the area of a number
abbrev pub is_made : ℕ → Bool
is_made n = option_map_or (λ x. x.made) (slice_get areas n) false

-- a row gives its area to sections by their name or by their type
abbrev pub is_named : Area → Bool
is_named x = not (length x.section == 0) || not (x.section_type == SHT_NULL)

-- the areas of a class that sections stand in by their name or their type
abbrev pub named_areas : Class → List ℕ
named_areas c = map (λ x. x.number) (filter (λ x. same_class x.class c && is_named x) areas)
