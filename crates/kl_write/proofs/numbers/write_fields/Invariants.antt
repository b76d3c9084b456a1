use Rattle.std.proofs.Common.{take}
use Rattle.kl_model.specs.Lists.{each}
use Rattle.kl_write.specs.Windows.{Shows}
use Rattle.kl_write.specs.Writes.{nth_value_write}
use Rattle.kl_write.proofs.numbers.write_fields.Given as goal

abbrev pub invariant-loop-number : goal.invariant-loop-number
invariant-loop-number l = Shows l.initial.out l.out l.at (each (take l.number l.graph.fields) (nth_value_write l.kind l.graph l.placement l.values))
