use Rattle.std.proofs.Common.{◌≡◌, map, take}
use Rattle.kl_model.specs.declared.graph.Target.TheVariants.{Name}
use Rattle.kl_write.proofs.values.name_targets.Given as goal

abbrev pub invariant-loop-name : goal.invariant-loop-name
invariant-loop-name l = l.targets.items ≡ map Name (take l.name-index l.names)
