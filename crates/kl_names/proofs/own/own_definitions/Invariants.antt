use Rattle.std.proofs.Common.{◌≡◌, take}
use Rattle.std.specs.Prelude.{map}
use Rattle.kl_model.specs.Names.{own_definition}
use Rattle.kl_names.proofs.own.own_definitions.Given as goal

abbrev pub invariant-loop-number : goal.invariant-loop-number
invariant-loop-number l = l.definitions.items ≡ map (own_definition l.kit l.inputs) (take l.number l.numbering.index)
