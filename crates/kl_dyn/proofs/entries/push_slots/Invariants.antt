use Rattle.std.proofs.Common.{◌≡◌, ◌++◌, take}
use Rattle.kl_model.specs.Lists.{each}
use Rattle.kl_dyn.specs.Entries.{slot_jumps, slot_relas}
use Rattle.kl_dyn.proofs.entries.push_slots.Given as goal

abbrev pub invariant-loop-number : goal.invariant-loop-number
invariant-loop-number l = record {
  relas : l.entries.relas.items ≡ l.fn.entries.relas.items ++ each (take l.number l.targets) (slot_relas l.placement l.graph);
  jumps : l.entries.jumps.items ≡ l.fn.entries.jumps.items ++ each (take l.number l.targets) (slot_jumps l.placement l.graph);
}
