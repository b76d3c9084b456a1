use Rattle.std.proofs.Common.{◌≡◌, map, take}
use Rattle.kl_sym.specs.Leads.{named_target}
use Rattle.kl_sym.proofs.dynamic.name_targets.Given as goal

abbrev pub invariant-loop-number : goal.invariant-loop-number
invariant-loop-number l = l.targets.items ≡ map (named_target l.kit l.inputs) (take l.number l.numbering.index)
