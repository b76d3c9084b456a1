-- The definition and the visibility of a name.
use Rattle.std.specs.Prelude.{ℕ, Bool, false, true, cond, if◌then◌else◌, not, ◌&&◌, ◌||◌, ◌==◌, List, [], ◌∷◌, ◌++◌, map, filter, find, fold, length, max, nat_lt, flat_map, unwrap_or, Option, is_none}
use Rattle.std.specs.Str.{bytes_eq}
use Rattle.std.specs.Option.{option_map, option_or}
use Rattle.std.specs.List.{position_from}
use Rattle.kl_model.specs.Texts.{text_at}
use Rattle.std.specs.Ordering.{nat_cmp}
use Rattle.std.specs.Cmp.Lexicographic.{slice_cmp}
use Rattle.std.specs.declared.cmp.Ordering.{Ordering}
use Rattle.std.specs.declared.cmp.Ordering.TheVariants.{Less, Equal, Greater}
use Rattle.kl_model.specs.Lists.{each, each_from, in_order, once, only_if}
use Rattle.kl_model.specs.Kept.{is_kept}
use Rattle.kl_model.specs.declared.object.Input.{Input}
use Rattle.kl_model.specs.declared.object.Symbol.{Symbol}
use Rattle.kl_model.specs.declared.kit.Kit.{Kit}
use Rattle.kl_model.specs.declared.graph.Target.{Target}
use Rattle.kl_model.specs.declared.graph.Target.TheVariants.{Place, Abs, Edge}
use Rattle.kl_elf.specs.declared.abi.TheConstants.{SHN_ABS, SHN_COMMON, STB_GLOBAL, STB_LOCAL, STB_WEAK, STV_DEFAULT, STV_HIDDEN, STV_PROTECTED}
use Rattle.kl_model.specs.declared.area.TheConstants as area

-- a symbol that isn't LOCAL, with its input and its number there
pub record Occurrence : Type 0 where
  pub input : ℕ
  pub number : ℕ
  pub name : List ℕ
  pub symbol : Symbol

-- all of them, by input and number
abbrev pub occurrences : List Input → List Occurrence
occurrences inputs = each inputs (λ i x. each x.object.symbols (λ y s.
    only_if (not (s.binding == STB_LOCAL)) (record { input = i; number = y; name = text_at x.bytes s.name; symbol = s })))

-- those of one name
abbrev pub occurrences_of : List Input → List ℕ → List Occurrence
occurrences_of inputs name = filter (λ o. bytes_eq o.name name) (occurrences inputs)

-- a common symbol (gABI, SHN_COMMON)
abbrev pub is_common : Occurrence → Bool
is_common o = o.symbol.section == SHN_COMMON

-- a definition stands in a kept section, or is absolute (gABI, SHN_ABS)
abbrev pub is_definition : Kit → List Input → Occurrence → Bool
is_definition kit inputs o = (o.symbol.section == SHN_ABS) || (not (is_common o) && is_kept kit inputs o.input o.symbol.section)

-- the first definition of a name with this binding
abbrev pub first_definition : Kit → List Input → ℕ → List ℕ → Option Occurrence
first_definition kit inputs binding name = find (λ o. (o.symbol.binding == binding) && is_definition kit inputs o) (occurrences_of inputs name)

-- a common holds where no GLOBAL definition has its name
abbrev pub holds_common : Kit → List Input → Occurrence → Bool
holds_common kit inputs o = is_common o && is_none (first_definition kit inputs STB_GLOBAL o.name)

-- the names of the commons that hold, in the order of their first common symbols
abbrev pub common_names : Kit → List Input → List (List ℕ)
common_names kit inputs = once bytes_eq (map (λ o. o.name) (filter (holds_common kit inputs) (occurrences inputs)))

-- the kept sections by input and number, each a piece
abbrev pub kept_numbers : Kit → List Input → List (ℕ × ℕ)
kept_numbers kit inputs = each inputs (λ i x. each_from 1 (λ s y. only_if (is_kept kit inputs i s) (i, s)) x.object.sections)

-- the number of the piece of a kept section
abbrev pub piece_number : Kit → List Input → ℕ → ℕ → ℕ
piece_number kit inputs i s = unwrap_or (position_from (λ p. (p.0 == i) && (p.1 == s)) 0 (kept_numbers kit inputs)) 0

-- what defines a name: a symbol, or the common symbols of the name together
pub data Definer : Type 0 where
  BySymbol : Occurrence → Definer
  ByCommon : List ℕ → Definer

-- The definer of a name: its GLOBAL definition, its common, its first WEAK definition (gABI, "Symbol Table").
abbrev pub definer : Kit → List Input → List ℕ → Option Definer
definer kit inputs name =
    option_or (option_map BySymbol (first_definition kit inputs STB_GLOBAL name))
    (option_or (option_map ByCommon (find (bytes_eq name) (common_names kit inputs)))
    (option_map BySymbol (first_definition kit inputs STB_WEAK name)))

-- where a symbol leads: to its number, or to a place in the piece of its section
abbrev pub symbol_target : Kit → List Input → Occurrence → Target
symbol_target kit inputs o =
    if o.symbol.section == SHN_ABS then Abs o.symbol.value else Place (piece_number kit inputs o.input o.symbol.section) o.symbol.value

-- the common of a name leads to the start of its piece; commons are numbered behind the kept sections
abbrev pub common_number : Kit → List Input → List ℕ → ℕ
common_number kit inputs name = unwrap_or (position_from (bytes_eq name) (length (kept_numbers kit inputs)) (common_names kit inputs)) 0

-- where a definer leads
abbrev pub leads_to : Kit → List Input → Definer → Target
leads_to kit inputs (BySymbol o) = symbol_target kit inputs o
leads_to kit inputs (ByCommon name) = Place (common_number kit inputs name) 0

-- the definition of a name by symbols
abbrev pub own_definition : Kit → List Input → List ℕ → Option Target
own_definition kit inputs name = option_map (leads_to kit inputs) (definer kit inputs name)

-- the common symbols of a name; the largest of their sizes and the strictest of their alignments, which are their values (gABI)
abbrev pub commons_of : List Input → List ℕ → List Occurrence
commons_of inputs name = filter is_common (occurrences_of inputs name)

abbrev pub common_size : List Input → List ℕ → ℕ
common_size inputs name = fold (λ n o. max n o.symbol.size) 0 (commons_of inputs name)

abbrev pub common_align : List Input → List ℕ → ℕ
common_align inputs name = fold (λ n o. max n o.symbol.value) 1 (commons_of inputs name)

-- the `run` and `edge` lines of a kit by number, each with the names that it gives and their edges
abbrev pub edge_lines : Kit → List (ℕ × List (List ℕ × Target))
edge_lines kit =
    each_from area.FIRST_RUN (λ k r. (r.line, (r.start, Edge k false) ∷ (r.end, Edge k true) ∷ []) ∷ []) kit.runs
    ++ map (λ e. (e.line, (e.symbol, Edge e.area e.end) ∷ [])) kit.edges

-- those lines by number
abbrev pub lines_in_order : Kit → List (ℕ × List (List ℕ × Target))
lines_in_order kit = in_order (λ x y. nat_lt x.0 y.0) (edge_lines kit)

-- their names
abbrev pub edge_names : Kit → List (List ℕ × Target)
edge_names kit = flat_map (λ x. x.1) (lines_in_order kit)

-- the edge of a name (this project's own)
abbrev pub edge_of : Kit → List ℕ → Option Target
edge_of kit name = option_map (λ e. e.1) (find (λ e. bytes_eq e.0 name) (edge_names kit))

-- The definition of a name: that by symbols, or else its edge.
abbrev pub definition : Kit → List Input → List ℕ → Option Target
definition kit inputs name = option_or (own_definition kit inputs name) (edge_of kit name)

-- visibilities from least to most constraining (gABI): STV_DEFAULT, STV_PROTECTED, STV_HIDDEN, STV_INTERNAL
abbrev pub rank : ℕ → ℕ
rank v = if v == STV_DEFAULT then 0 else if v == STV_PROTECTED then 1 else if v == STV_HIDDEN then 2 else 3

-- the most constraining visibility among all occurrences of a name
abbrev pub visibility : List Input → List ℕ → ℕ
visibility inputs name = fold (λ v o. if nat_lt (rank v) (rank o.symbol.visibility) then o.symbol.visibility else v) STV_DEFAULT (occurrences_of inputs name)

-- a text comes before another, byte by byte
abbrev pub is_less : Ordering → Bool
is_less Less = true
is_less Equal = false
is_less Greater = false

abbrev pub comes_before : List ℕ → List ℕ → Bool
comes_before x y = is_less (slice_cmp nat_cmp x y)

-- the names of all symbols that aren't LOCAL, each once, in ascending bytes
abbrev pub sorted_names : List Input → List (List ℕ)
sorted_names inputs = in_order comes_before (once bytes_eq (map (λ o. o.name) (occurrences inputs)))
