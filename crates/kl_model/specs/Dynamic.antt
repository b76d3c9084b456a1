-- The names of the dynamic symbol table: those that a library exports, and those that it imports.
use Rattle.std.specs.Prelude.{ℕ, Bool, false, not, ◌&&◌, ◌||◌, ◌==◌, List, [], ◌∷◌, map, filter, slice_index_or, unwrap_or, Option, option_map, is_none, is_some}
use Rattle.std.specs.Str.{bytes_eq}
use Rattle.std.specs.List.{list_all, list_any, position_from}
use Rattle.kl_elf.specs.declared.abi.TheConstants.{R_X86_64_NONE, STB_LOCAL, STB_WEAK, STT_NOTYPE, STT_OBJECT, STV_DEFAULT, STV_PROTECTED}
use Rattle.kl_model.specs.Texts.{text_at}
use Rattle.kl_model.specs.Lists.{each}
use Rattle.kl_model.specs.Kept.{is_kept, no_symbol}
use Rattle.kl_model.specs.Kits.{may_export, may_import, may_replace}
use Rattle.kl_model.specs.Names.{BySymbol, ByCommon, Definer, Occurrence, common_size, definer, definition, occurrences_of, own_definition, sorted_names, visibility}
use Rattle.kl_model.specs.declared.object.RawField.{RawField}
use Rattle.kl_model.specs.declared.object.Input.{Input}
use Rattle.kl_model.specs.declared.kit.Kit.{Kit}
use Rattle.kl_model.specs.declared.graph.DynName.{DynName}

-- a name is seen from outside (gABI, "Symbol Visibility")
abbrev pub is_visible : ℕ → Bool
is_visible v = (v == STV_DEFAULT) || (v == STV_PROTECTED)

-- A name is exported where symbols define it, it is seen from outside, and the kit exports it.
abbrev pub is_exported : Kit → List Input → List ℕ → Bool
is_exported kit inputs name =
    may_export kit.kind kit.exports name && (is_some (definer kit inputs name) && is_visible (visibility inputs name))

-- It is replaceable where it is DEFAULT and the kit isn't symbolic: then the loader decides who defines it.
abbrev pub is_replaceable : Kit → List Input → List ℕ → Bool
is_replaceable kit inputs name =
    may_replace kit.kind kit.symbolic && ((visibility inputs name == STV_DEFAULT) && is_exported kit inputs name)

-- A name may be imported where nothing defines it, it is DEFAULT, and the kit allows it.
abbrev pub is_importable : Kit → List Input → List ℕ → Bool
is_importable kit inputs name =
    may_import kit.kind kit.refuse && ((visibility inputs name == STV_DEFAULT) && is_none (definition kit inputs name))

-- a relocation entry is linked where its section is kept and its type isn't R_X86_64_NONE
abbrev pub is_kept_field : Kit → List Input → ℕ → RawField → Bool
is_kept_field kit inputs i f = is_kept kit inputs i f.section && not (f.kind == R_X86_64_NONE)

-- the symbol of an entry isn't LOCAL, and has this name
abbrev pub is_of_name : Input → List ℕ → RawField → Bool
is_of_name x name f =
    let y = slice_index_or x.object.symbols f.symbol no_symbol in
    not (f.symbol == 0) && (not (y.binding == STB_LOCAL) && bytes_eq (text_at x.bytes y.name) name)

-- some entry that is linked has the name
abbrev pub is_used : Kit → List Input → List ℕ → Bool
is_used kit inputs name =
    list_any (λ b. b) (each inputs (λ i x. each x.object.fields (λ k f. (is_of_name x name f && is_kept_field kit inputs i f) ∷ [])))

abbrev pub is_imported : Kit → List Input → List ℕ → Bool
is_imported kit inputs name = is_importable kit inputs name && is_used kit inputs name

-- The dynamic names, in ascending bytes, and the number of one.
abbrev pub dynamic_names : Kit → List Input → List (List ℕ)
dynamic_names kit inputs = filter (λ n. is_exported kit inputs n || is_imported kit inputs n) (sorted_names inputs)

abbrev pub name_number : Kit → List Input → List ℕ → ℕ
name_number kit inputs name = unwrap_or (position_from (bytes_eq name) 0 (dynamic_names kit inputs)) 0

-- what the dynamic symbol table says of a name beside its value: whether it is WEAK, its type and its size
pub record Shown : Type 0 where
  pub weak : Bool
  pub kind : ℕ
  pub size : ℕ

-- of a name that is defined: what its symbol says; a common is GLOBAL and of STT_OBJECT, with the size of its piece
abbrev pub defined_shown : List Input → Definer → Shown
defined_shown inputs (BySymbol o) = record { weak = o.symbol.binding == STB_WEAK; kind = o.symbol.kind; size = o.symbol.size }
defined_shown inputs (ByCommon name) = record { weak = false; kind = STT_OBJECT; size = common_size inputs name }

-- of one that isn't: WEAK where all its symbols are, of STT_NOTYPE, without a size
abbrev pub imported_shown : List Input → List ℕ → Shown
imported_shown inputs name =
    record { weak = list_all (λ o. o.symbol.binding == STB_WEAK) (occurrences_of inputs name); kind = STT_NOTYPE; size = 0 }

abbrev pub no_occurrence : Occurrence
no_occurrence = record { input = 0; number = 0; name = []; symbol = no_symbol }

-- the first symbol of a name that isn't LOCAL
abbrev pub first_of : List Input → List ℕ → Occurrence
first_of inputs name = slice_index_or (occurrences_of inputs name) 0 no_occurrence

-- A dynamic name: exported where symbols define it, else imported.
abbrev pub dyn_name : Kit → List Input → List ℕ → DynName
dyn_name kit inputs name =
    let first = first_of inputs name in
    let shown = unwrap_or (option_map (defined_shown inputs) (definer kit inputs name)) (imported_shown inputs name) in
    record {
      input = first.input;
      name = first.symbol.name;
      exported = own_definition kit inputs name;
      weak = shown.weak;
      visibility = visibility inputs name;
      kind = shown.kind;
      size = shown.size;
    }
