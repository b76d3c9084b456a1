-- What is noted of each name after some symbols. For the contracts inside this crate alone.
use Rattle.std.specs.Prelude.{ℕ, ◌≡◌, Bool, if◌then◌else◌, not, ◌&&◌, ◌||◌, ◌==◌, nat_lt, max, List, [], map, filter, find, fold, reverse, length, slice_get, slice_index_or, unwrap_or, Option, Some, None, is_some}
use Rattle.std.specs.Str.{bytes_eq}
use Rattle.std.specs.Option.{option_map, option_or}
use Rattle.std.specs.List.{list_all}
use Rattle.kl_elf.specs.declared.abi.TheConstants.{SHN_ABS, SHN_COMMON, STB_GLOBAL, STB_WEAK, STV_DEFAULT}
use Rattle.kl_model.specs.Lists.{once}
use Rattle.kl_model.specs.Kits.{is_empty}
use Rattle.kl_model.specs.Names.{Occurrence, is_common, is_definition, rank}
use Rattle.kl_model.specs.Faults.{is_global_definition, doubled_after}
use Rattle.kl_model.specs.declared.object.Input.{Input}
use Rattle.kl_model.specs.declared.object.Symbol.{Symbol}
use Rattle.kl_model.specs.declared.kit.Kit.{Kit}
use Rattle.kl_model.specs.declared.link.LinkFault.{LinkFault}
use Rattle.kl_model.specs.declared.link.LinkFault.TheVariants as fault
use Rattle.kl_names.specs.Facts.{stands_at}
use Rattle.kl_names.specs.declared.facts.SymbolAt.{SymbolAt}
use Rattle.kl_names.specs.declared.facts.Common.{Common}
use Rattle.kl_names.specs.declared.facts.NameFacts.{NameFacts}

-- whether a symbol of the input of this table is a definition
abbrev pub defines : List (Option ℕ) → Symbol → Bool
defines table y = (y.section == SHN_ABS) || (not (y.section == SHN_COMMON) && is_some (slice_index_or table y.section None))

-- what commons ask for, with one more
abbrev pub with_common : Option Common → Symbol → Common
with_common c y =
    let old = unwrap_or c (record { size = 0; align = 1 }) in
    record { size = max old.size y.size; align = max old.align y.value }

-- what a name's symbols say with one more, and whether it is a definition
abbrev pub noted : NameFacts → Symbol → SymbolAt → Bool → NameFacts
noted f y at d = record {
  first = option_or f.first (Some at);
  global = option_or f.global (if d && (y.binding == STB_GLOBAL) then Some at else None);
  weak = option_or f.weak (if d && (y.binding == STB_WEAK) then Some at else None);
  common = if y.section == SHN_COMMON then Some (with_common f.common y) else f.common;
  visibility = if nat_lt (rank f.visibility) (rank y.visibility) then y.visibility else f.visibility;
  all_weak = f.all_weak && (y.binding == STB_WEAK);
}

-- what some commons of one name ask for
abbrev pub common_among : List Occurrence → Option Common
common_among cs =
    if is_empty cs then None
    else Some (record { size = fold (λ n o. max n o.symbol.size) 0 cs; align = fold (λ n o. max n o.symbol.value) 1 cs })

-- what some symbols of one name say
abbrev pub facts_among : Kit → List Input → List Occurrence → NameFacts
facts_among kit inputs os = record {
  first = option_map stands_at (slice_get os 0);
  global = option_map stands_at (find (λ o. (o.symbol.binding == STB_GLOBAL) && is_definition kit inputs o) os);
  weak = option_map stands_at (find (λ o. (o.symbol.binding == STB_WEAK) && is_definition kit inputs o) os);
  common = common_among (filter is_common os);
  visibility = fold (λ v o. if nat_lt (rank v) (rank o.symbol.visibility) then o.symbol.visibility else v) STV_DEFAULT os;
  all_weak = list_all (λ o. o.symbol.binding == STB_WEAK) os;
}

-- what those of a name say, among some symbols; and what they say of each of some names
abbrev pub facts_in : Kit → List Input → List Occurrence → List ℕ → NameFacts
facts_in kit inputs os name = facts_among kit inputs (filter (λ o. bytes_eq o.name name) os)

abbrev pub all_facts : Kit → List Input → List Occurrence → List (List ℕ) → List NameFacts
all_facts kit inputs os names = map (facts_in kit inputs os) names

-- the names of commons, in the order of their first common symbols
abbrev pub common_in : List Occurrence → List (List ℕ)
common_in os = once bytes_eq (map (λ o. o.name) (filter is_common os))

-- those symbols are noted, and define no name twice
pub record AreNoted (kit : Kit) (inputs : List Input) (os : List Occurrence) (names : List (List ℕ)) (facts : List NameFacts) (commons : List ℕ) (next : ℕ) : Type 0 where
  pub said : facts ≡ all_facts kit inputs os names
  pub common : map (slice_get names) commons ≡ map Some (common_in os)
  pub count : next ≡ length os
  pub single : doubled_after [] (filter (is_global_definition kit inputs) os) ≡ []

-- the last of some definitions of a name
abbrev pub last_of : List Occurrence → List ℕ → Option Occurrence
last_of defs q = find (λ o. bytes_eq o.name q) (reverse defs)

-- the fault of a name that has a GLOBAL definition already
pub record IsDouble (name : List ℕ) (first : Option SymbolAt) (second : SymbolAt) (e : LinkFault) : Type 0 where
  pub before : SymbolAt
  pub stands : first ≡ Some before
  pub fault : e ≡ fault.Doubled name (before.input, before.number) (second.input, second.number)
