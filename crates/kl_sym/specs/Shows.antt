-- What the dynamic symbol table says of a name. For the contracts inside this crate alone.
use Rattle.std.specs.Prelude.{ℕ, ◌==◌, List, unwrap_or, option_map}
use Rattle.kl_elf.specs.declared.abi.TheConstants.{STB_WEAK}
use Rattle.kl_model.specs.Names.{definer}
use Rattle.kl_model.specs.Dynamic.{Shown, defined_shown, imported_shown}
use Rattle.kl_model.specs.declared.object.Input.{Input}
use Rattle.kl_model.specs.declared.object.Symbol.{Symbol}
use Rattle.kl_model.specs.declared.kit.Kit.{Kit}
use Rattle.kl_sym.specs.declared.entries.Attributes.{Attributes}

abbrev pub shown : Attributes → Shown
shown a = record { weak = a.weak; kind = a.kind; size = a.size }

-- of a symbol that defines its name
abbrev pub attributes_of : Symbol → Attributes
attributes_of y = record { weak = y.binding == STB_WEAK; kind = y.kind; size = y.size }

-- of a name
abbrev pub shown_of : Kit → List Input → List ℕ → Shown
shown_of kit inputs name = unwrap_or (option_map (defined_shown inputs) (definer kit inputs name)) (imported_shown inputs name)
