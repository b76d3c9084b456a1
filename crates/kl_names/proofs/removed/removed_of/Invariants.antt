use Rattle.std.proofs.Common.{◌≡◌}
use Rattle.kl_model.specs.Kept.{earlier}
use Rattle.kl_names.specs.Removed.{Sees}
use Rattle.kl_names.proofs.RemovedSteps.{told_by}
use Rattle.kl_names.proofs.removed.removed_of.Given as goal

abbrev pub invariant-loop-group : goal.invariant-loop-group
invariant-loop-group l = record {
  marks : l.removed.items ≡ told_by l.inputs l.i l.group-index;
  sees : Sees l.seen (earlier l.inputs l.i l.group-index);
}
