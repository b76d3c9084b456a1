use Rattle.std.proofs.Common.{◌≡◌, take}
use Rattle.std.specs.Prelude.{map}
use Rattle.kl_model.specs.Names.{definition}
use Rattle.kl_names.proofs.edges.definitions.Given as goal

abbrev pub invariant-loop-number : goal.invariant-loop-number
invariant-loop-number l = l.definitions.items ≡ map (definition l.kit l.inputs) (take l.number l.numbering.index)
