use Rattle.std.proofs.Common.{◌≡◌, take}
use Rattle.kl_model.specs.Tables.{slot_value}
use Rattle.kl_write.specs.Slots.{values_bytes}
use Rattle.kl_write.proofs.slots.bytes_of_slots.Given as goal

abbrev pub invariant-loop-target : goal.invariant-loop-target
invariant-loop-target l = l.bytes.items ≡ values_bytes (slot_value l.kit l.placement l.graph) (take l.target-index l.targets)
