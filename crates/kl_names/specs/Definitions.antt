-- Where symbols and commons lead. For the contracts inside this crate alone.
use Rattle.std.specs.Prelude.{ℕ, ◌<◌, if◌then◌else◌, ◌==◌, List, length, slice_index_or, Option, Some, None}
use Rattle.std.specs.Str.{bytes_eq}
use Rattle.std.specs.Option.{option_map}
use Rattle.std.specs.List.{position_from}
use Rattle.kl_elf.specs.declared.abi.TheConstants.{SHN_ABS}
use Rattle.kl_model.specs.Kept.{input_at}
use Rattle.kl_model.specs.Names.{common_names, kept_numbers}
use Rattle.kl_model.specs.declared.object.Input.{Input}
use Rattle.kl_model.specs.declared.object.Symbol.{Symbol}
use Rattle.kl_model.specs.declared.kit.Kit.{Kit}
use Rattle.kl_model.specs.declared.graph.Target.{Target}
use Rattle.kl_model.specs.declared.graph.Target.TheVariants.{Place, Abs}
use Rattle.kl_names.specs.declared.facts.SymbolAt.{SymbolAt}

-- where a symbol leads that is absolute (gABI, SHN_ABS) or in a section that has a piece
abbrev pub symbol_place : List (Option ℕ) → Symbol → Option Target
symbol_place table y =
    if y.section == SHN_ABS then Some (Abs y.value) else option_map (λ n. Place n y.value) (slice_index_or table y.section None)

-- a symbol stands there
pub record Stands (inputs : List Input) (at : SymbolAt) : Type 0 where
  pub input : at.input < length inputs
  pub number : at.number < length (input_at inputs at.input).object.symbols

-- where the common of a name leads, if it has one that holds
abbrev pub common_target : Kit → List Input → List ℕ → Option Target
common_target kit inputs name = option_map (λ k. Place k 0) (position_from (bytes_eq name) (length (kept_numbers kit inputs)) (common_names kit inputs))
