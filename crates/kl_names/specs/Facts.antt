-- What the symbols of each name say, in the words of the definitions.
use Rattle.std.specs.Prelude.{ℕ, ◌≡◌, if◌then◌else◌, ◌==◌, List, map, filter, slice_get, Option, Some, None}
use Rattle.std.specs.Str.{bytes_eq}
use Rattle.std.specs.Option.{option_map}
use Rattle.std.specs.List.{list_all}
use Rattle.kl_elf.specs.declared.abi.TheConstants.{STB_GLOBAL, STB_WEAK}
use Rattle.kl_model.specs.Lists.{once}
use Rattle.kl_model.specs.Kits.{is_empty}
use Rattle.kl_model.specs.Names.{Occurrence, common_align, common_size, commons_of, first_definition, is_common, occurrences, occurrences_of, visibility}
use Rattle.kl_model.specs.declared.object.Input.{Input}
use Rattle.kl_model.specs.declared.kit.Kit.{Kit}
use Rattle.kl_names.specs.declared.noted.Notes.{Notes}
use Rattle.kl_names.specs.declared.facts.SymbolAt.{SymbolAt}
use Rattle.kl_names.specs.declared.facts.Common.{Common}
use Rattle.kl_names.specs.declared.facts.NameFacts.{NameFacts}

-- where a symbol stands
abbrev pub stands_at : Occurrence → SymbolAt
stands_at o = record { input = o.input; number = o.number }

-- what the commons of a name ask for, where there are some
abbrev pub common_of : List Input → List ℕ → Option Common
common_of inputs name =
    if is_empty (commons_of inputs name) then None else Some (record { size = common_size inputs name; align = common_align inputs name })

-- what the symbols of a name say
abbrev pub facts_of : Kit → List Input → List ℕ → NameFacts
facts_of kit inputs name = record {
  first = option_map stands_at (slice_get (occurrences_of inputs name) 0);
  global = option_map stands_at (first_definition kit inputs STB_GLOBAL name);
  weak = option_map stands_at (first_definition kit inputs STB_WEAK name);
  common = common_of inputs name;
  visibility = visibility inputs name;
  all_weak = list_all (λ o. o.symbol.binding == STB_WEAK) (occurrences_of inputs name);
}

-- the names that have common symbols, in the order of the first of those
abbrev pub common_symbol_names : List Input → List (List ℕ)
common_symbol_names inputs = once bytes_eq (map (λ o. o.name) (filter is_common (occurrences inputs)))

-- Of each of some names what its symbols say, and the numbers of those that have common symbols.
pub record AreNotes (kit : Kit) (inputs : List Input) (names : List (List ℕ)) (notes : Notes) : Type 0 where
  pub facts : notes.facts.items ≡ map (facts_of kit inputs) names
  pub commons : map (slice_get names) notes.commons.items ≡ map Some (common_symbol_names inputs)
