-- The faults of a link that stand, in the order in which they are answered.
use Rattle.std.specs.Prelude.{ℕ, ◌+◌, ◌%◌, ◌^◌, Bool, cond, if◌then◌else◌, not, ◌&&◌, ◌||◌, ◌==◌, nat_lt, List, [], ◌∷◌, ◌++◌, filter, find, flat_map, slice_get, is_none, Option, Result, Ok, Err, option_to_list}
use Rattle.std.specs.Str.{bytes_eq}
use Rattle.std.specs.Option.{option_map}
use Rattle.std.specs.List.{list_any}
use Rattle.kl_model.specs.Texts.{text_at}
use Rattle.kl_model.specs.Lists.{each, only_if}
use Rattle.kl_model.specs.Kept.{class_of, input_at, section_at}
use Rattle.kl_model.specs.Dynamic.{is_kept_field}
use Rattle.kl_model.specs.Slots.{is_not_fixed, is_read_only, same_target}
use Rattle.kl_model.specs.Sizes.{made_of}
use Rattle.kl_model.specs.Leads.{field_address, field_value, value_target}
use Rattle.kl_model.specs.Names.{Occurrence, occurrences, is_common, is_definition, definition, edge_names}
use Rattle.kl_model.specs.Graphs.{Missing, Removed, Undefined, target, symbol_at, graph}
use Rattle.kl_model.specs.Laid.{span}
use Rattle.kl_model.specs.Relocations.{in_range, is_kind}
use Rattle.kl_model.specs.Placed.{placed}
use Rattle.kl_model.specs.declared.object.Input.{Input}
use Rattle.kl_model.specs.declared.object.RawField.{RawField}
use Rattle.kl_base.specs.declared.class.Class.{Class}
use Rattle.kl_model.specs.declared.kit.KitKind.{KitKind}
use Rattle.kl_model.specs.declared.kit.KitKind.TheVariants.{Library}
use Rattle.kl_model.specs.declared.kit.Kit.{Kit}
use Rattle.kl_model.specs.declared.graph.Field.{Field}
use Rattle.kl_model.specs.declared.graph.FieldAt.{FieldAt}
use Rattle.kl_model.specs.declared.graph.Graph.{Graph}
use Rattle.kl_model.specs.declared.graph.Target.{Target}
use Rattle.kl_model.specs.declared.graph.Target.TheVariants.{Gone}
use Rattle.kl_model.specs.declared.place.Gaps.{Gaps}
use Rattle.kl_model.specs.declared.place.Placement.{Placement}
use Rattle.kl_model.specs.declared.link.LinkFault.{LinkFault}
use Rattle.kl_model.specs.declared.link.LinkFault.TheVariants as fault
use Rattle.kl_elf.specs.declared.abi.TheConstants.{STB_GLOBAL}
use Rattle.kl_base.specs.declared.limits.TheConstants.{SPAN_LIMIT}

-- a GLOBAL definition
abbrev pub is_global_definition : Kit → List Input → Occurrence → Bool
is_global_definition kit inputs o = (o.symbol.binding == STB_GLOBAL) && is_definition kit inputs o

-- each definition of a name that those before define too, with the last of them
abbrev pub doubled_after : List Occurrence → List Occurrence → List LinkFault
doubled_after seen [] = []
doubled_after seen (o ∷ os) =
    option_to_list (option_map (λ d. fault.Doubled o.name (d.input, d.number) (o.input, o.number)) (find (λ d. bytes_eq d.name o.name) seen))
    ++ doubled_after (o ∷ seen) os

-- 1. a name has two GLOBAL definitions
abbrev pub doubled : Kit → List Input → List LinkFault
doubled kit inputs = doubled_after [] (filter (is_global_definition kit inputs) (occurrences inputs))

-- 2. an edge's name has a GLOBAL definition or a common, by kit line
abbrev pub clashes : Kit → List Input → List LinkFault
clashes kit inputs = flat_map (λ e. only_if
    (list_any (λ o. bytes_eq o.name e.0 && (is_common o || is_global_definition kit inputs o)) (occurrences inputs))
    (fault.EdgeClash e.0)) (edge_names kit)

-- 3. the entry has no definition
abbrev pub no_entry : Kit → List Input → List LinkFault
no_entry kit inputs = flat_map (λ name. only_if (is_none (definition kit inputs name)) (fault.NoEntry name)) (option_to_list kit.entry)

abbrev pub from_of : ℕ → RawField → FieldAt
from_of i f = record { input = i; section = f.rela; index = f.index }

abbrev pub missing_faults : List ℕ → FieldAt → Result Target Missing → List LinkFault
missing_faults name from (Ok t) = []
missing_faults name from (Err Removed) = fault.Removed from ∷ []
missing_faults name from (Err Undefined) = fault.Undefined name from ∷ []

-- in a library: its value depends on the base, or the loader would have to write outside data
abbrev pub loader_faults : KitKind → FieldAt → Class → ℕ → Result Target Missing → List LinkFault
loader_faults Library from c kind (Ok t) =
    only_if (is_not_fixed kind t) (fault.NotFixed from) ++ only_if (is_read_only c kind t) (fault.ReadOnlyField from)
loader_faults _ from c kind t = []

-- the faults of a field: its type isn't linked; its target isn't kept, or not defined; in a library the two above
abbrev pub field_faults : Kit → List Input → ℕ → RawField → List LinkFault
field_faults kit inputs i f =
    let from = from_of i f in
    let leads = target kit inputs i f.section f.symbol in
    only_if (not (is_kind f.kind)) (fault.Kind from f.kind)
    ++ (missing_faults (text_at (input_at inputs i).bytes (symbol_at inputs i f.symbol).name) from leads
    ++ loader_faults kit.kind from (class_of (section_at inputs i f.section)) f.kind leads)

abbrev pub input_faults : Kit → List Input → ℕ → Input → List LinkFault
input_faults kit inputs i x = each x.object.fields (λ k f. if is_kept_field kit inputs i f then field_faults kit inputs i f else [])

-- 4. those of all fields, by input, relocation section and entry
abbrev pub all_field_faults : Kit → List Input → List LinkFault
all_field_faults kit inputs = each inputs (input_faults kit inputs)

-- what names and symbols show
unfoldable pub resolve_faults : Kit → List Input → List LinkFault
resolve_faults kit inputs = doubled kit inputs ++ (clashes kit inputs ++ (no_entry kit inputs ++ all_field_faults kit inputs))

-- 5. the span passes the limit
abbrev pub span_faults : ℕ → List LinkFault
span_faults n = only_if (nat_lt SPAN_LIMIT n) (fault.Span n SPAN_LIMIT)

-- the value of a field is in its type's range; a field that leads to nothing has no value
abbrev pub does_fit : Placement → Graph → Field → Bool
does_fit p g f = same_target f.target Gone || in_range f.kind (field_value p g f)

-- 6. a field's value is out of range, by input, relocation section and entry
abbrev pub range_faults : Placement → Graph → List LinkFault
range_faults p g = each g.fields (λ k f. only_if (not (does_fit p g f)) (fault.Range f.from (value_target p g f) f.addend (field_address p g f)))

-- All faults of a link that stand, and the first of them. Where names are resolved, the graph is that of the kit; where the span
-- is small, the placement is that which is laid out.
abbrev pub graph_faults : Kit → Graph → Option Gaps → List ℕ → List LinkFault
graph_faults kit g gaps order = span_faults (span kit g gaps order (made_of kit g)) ++ range_faults (placed kit g gaps order (made_of kit g)) g

abbrev pub link_faults : Kit → List Input → Option Gaps → List ℕ → List LinkFault
link_faults kit inputs gaps order = resolve_faults kit inputs ++ graph_faults kit (graph kit inputs) gaps order

abbrev pub resolve_fault : Kit → List Input → Option LinkFault
resolve_fault kit inputs = slice_get (resolve_faults kit inputs) 0

unfoldable pub link_fault : Kit → List Input → Option Gaps → List ℕ → Option LinkFault
link_fault kit inputs gaps order = slice_get (link_faults kit inputs gaps order) 0
