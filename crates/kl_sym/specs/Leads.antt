-- Where the symbols of an input lead, by number. For the contracts inside this crate alone.
use Rattle.std.specs.Prelude.{ℕ, Bool, if◌then◌else◌, ◌==◌, List, map, Option, Some, None}
use Rattle.std.specs.Option.{option_or}
use Rattle.kl_elf.specs.declared.abi.TheConstants.{STB_LOCAL, STB_WEAK}
use Rattle.kl_model.specs.Texts.{text_at}
use Rattle.kl_model.specs.Kept.{input_at}
use Rattle.kl_model.specs.Names.{definition}
use Rattle.kl_model.specs.Dynamic.{is_importable, is_replaceable, name_number}
use Rattle.kl_model.specs.declared.object.Input.{Input}
use Rattle.kl_model.specs.declared.object.Symbol.{Symbol}
use Rattle.kl_model.specs.declared.kit.Kit.{Kit}
use Rattle.kl_model.specs.declared.graph.Target.{Target}
use Rattle.kl_model.specs.declared.graph.Target.TheVariants.{Name, Zero}
use Rattle.kl_names.specs.Definitions.{symbol_place}
use Rattle.kl_names.specs.Tables.{piece_table}
use Rattle.kl_sym.specs.declared.leads.Lead.{Lead}
use Rattle.kl_sym.specs.declared.leads.Lead.TheVariants as lead

-- a LOCAL symbol leads to its place, if it has one
abbrev pub lead_of_local : Option Target → Lead
lead_of_local (Some t) = lead.To t
lead_of_local None = lead.Removed

-- another to the target of its name; an undefined WEAK one to 0
abbrev pub lead_of_name : Option Target → ℕ → Lead
lead_of_name (Some t) binding = lead.To t
lead_of_name None binding = if binding == STB_WEAK then lead.To Zero else lead.Undefined

-- the target of a name, if it has one whatever the binding: the name itself where another image may define it, or else its definition, or
-- else the name itself where it may be imported
abbrev pub target_for : Bool → Option Target → Bool → Target → Option Target
target_for replaceable definition importable name =
    if replaceable then Some name else option_or definition (if importable then Some name else None)

abbrev pub named_target : Kit → List Input → List ℕ → Option Target
named_target kit inputs name =
    target_for (is_replaceable kit inputs name) (definition kit inputs name) (is_importable kit inputs name) (Name (name_number kit inputs name))

abbrev pub lead_of : Kit → List Input → ℕ → Symbol → Lead
lead_of kit inputs i y =
    if y.binding == STB_LOCAL then lead_of_local (symbol_place (piece_table kit inputs i) y)
    else lead_of_name (named_target kit inputs (text_at (input_at inputs i).bytes y.name)) y.binding

-- those of the symbols of an input
abbrev pub leads : Kit → List Input → ℕ → List Lead
leads kit inputs i = map (lead_of kit inputs i) (input_at inputs i).object.symbols
