use Rattle.std.proofs.Common.{◌≡◌, map, take}
use Rattle.kl_sym.specs.Linkage.{linkage_of}
use Rattle.kl_sym.proofs.linkage.linkages.Given as goal

abbrev pub invariant-loop-number : goal.invariant-loop-number
invariant-loop-number l = l.linkages.items ≡ map (linkage_of l.kit l.inputs) (take l.number l.names.numbering.index)
