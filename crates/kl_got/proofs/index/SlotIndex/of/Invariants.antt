use Rattle.std.proofs.Common.{◌≡◌, take}
use Rattle.kl_got.proofs.index.SlotIndex.of.Given as goal

abbrev pub invariant-loop-target : goal.invariant-loop-target
invariant-loop-target l = l.index ≡ take l.target-index l.targets
