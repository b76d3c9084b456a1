use Rattle.std.proofs.Common.{◌≡◌, take}
use Rattle.kl_model.specs.Lists.{each}
use Rattle.kl_shared.specs.Stubs.{nth_stub}
use Rattle.kl_shared.proofs.stubs.bytes_of_stubs.Given as goal

abbrev pub invariant-loop-number : goal.invariant-loop-number
invariant-loop-number l = l.bytes.items ≡ each (take l.number l.names) (nth_stub l.stubs l.got l.slots)
