use Rattle.std.proofs.Common.{◌≤◌, length, drop}
use Rattle.kl_mem.specs.Record.{AreChanges}
use Rattle.kl_mem.proofs.crash.settled_before.Given as goal

abbrev pub invariant-loop-i : goal.invariant-loop-i
invariant-loop-i l = record {
  within : l.i ≤ length l.steps;
  pending : AreChanges (drop l.i l.steps);
}

abbrev pub decreases-loop-i : goal.decreases-loop-i
decreases-loop-i l = l.i
