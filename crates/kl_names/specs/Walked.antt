-- The symbols of a kit that aren't LOCAL, up to an input. For the contracts inside this crate alone.
use Rattle.std.specs.Prelude.{ℕ, not, ◌==◌, List, take}
use Rattle.kl_elf.specs.declared.abi.TheConstants.{STB_LOCAL}
use Rattle.kl_model.specs.Lists.{each, only_if}
use Rattle.kl_model.specs.Texts.{text_at}
use Rattle.kl_model.specs.Names.{Occurrence}
use Rattle.kl_model.specs.declared.object.Input.{Input}
use Rattle.kl_model.specs.declared.object.Symbol.{Symbol}

abbrev pub occurrence : ℕ → Input → ℕ → Symbol → Occurrence
occurrence i x n y = record { input = i; number = n; name = text_at x.bytes y.name; symbol = y }

-- the occurrence that a symbol is, if it is one; those of an input; those of the inputs before number i
abbrev pub occurs : ℕ → Input → ℕ → Symbol → List Occurrence
occurs i x n y = only_if (not (y.binding == STB_LOCAL)) (occurrence i x n y)

abbrev pub occurring_in : ℕ → Input → List Occurrence
occurring_in i x = each x.object.symbols (occurs i x)

abbrev pub occurring_before : List Input → ℕ → List Occurrence
occurring_before inputs i = each (take i inputs) occurring_in
