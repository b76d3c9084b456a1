use Rattle.std.proofs.Common.{◌≡◌, map, take}
use Rattle.kl_model.specs.Dynamic.{dyn_name, dynamic_names}
use Rattle.kl_sym.proofs.entries.name_entries.Given as goal

abbrev pub invariant-loop-number : goal.invariant-loop-number
invariant-loop-number l = l.entries.items ≡ map (dyn_name l.kit l.inputs) (take l.number-index (dynamic_names l.kit l.inputs))
