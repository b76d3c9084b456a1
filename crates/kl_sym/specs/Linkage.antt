-- How the names of a library are seen by other images, and which of them its fields use. For the contracts inside this crate alone.
use Rattle.std.specs.Prelude.{ℕ, ◌≡◌, Bool, if◌then◌else◌, not, ◌&&◌, ◌||◌, ◌==◌, List, map, slice_get, slice_index_or, Option, Some, None, is_some}
use Rattle.std.specs.Option.{option_map}
use Rattle.kl_elf.specs.declared.abi.TheConstants.{R_X86_64_NONE, STB_LOCAL}
use Rattle.kl_model.specs.Texts.{text_at}
use Rattle.kl_model.specs.Dynamic.{is_exported, is_importable, is_imported, is_replaceable}
use Rattle.kl_model.specs.declared.object.Input.{Input}
use Rattle.kl_model.specs.declared.object.RawField.{RawField}
use Rattle.kl_model.specs.declared.object.Symbol.{Symbol}
use Rattle.kl_model.specs.declared.kit.Kit.{Kit}
use Rattle.kl_sym.specs.declared.linkage.Linkage.{Linkage}

-- the linkage of a name
abbrev pub linkage_of : Kit → List Input → List ℕ → Linkage
linkage_of kit inputs name = record {
  exported = is_exported kit inputs name;
  replaceable = is_replaceable kit inputs name;
  importable = is_importable kit inputs name;
}

-- a name of the dynamic symbol table
abbrev pub is_dynamic : Kit → List Input → List ℕ → Bool
is_dynamic kit inputs name = is_exported kit inputs name || is_imported kit inputs name

-- the name of a symbol that isn't LOCAL
abbrev pub outer_name : Input → Symbol → Option (List ℕ)
outer_name x y = if y.binding == STB_LOCAL then None else Some (text_at x.bytes y.name)

-- the symbols of an input have these numbers: none where a symbol is LOCAL, else that of its name
abbrev pub AreSymbolNumbers : List (List ℕ) → Input → List (Option ℕ) → Type 0
AreSymbolNumbers names x numbers = map (option_map (slice_get names)) numbers ≡ map (λ y. option_map Some (outer_name x y)) x.object.symbols

-- the number of the name of an entry that is linked, by the table of its input and the numbers of its symbols
abbrev pub used_number : List (Option ℕ) → List (Option ℕ) → RawField → Option ℕ
used_number table numbers f =
    if is_some (slice_index_or table f.section None) && (not (f.kind == R_X86_64_NONE) && not (f.symbol == 0)) then slice_index_or numbers f.symbol None
    else None
