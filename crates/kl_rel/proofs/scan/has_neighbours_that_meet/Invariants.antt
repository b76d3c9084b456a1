use Rattle.std.specs.List.{AllAdjacentBelow}
use Rattle.kl_rel.proofs.Overlaps.{Precedes}
use Rattle.kl_rel.proofs.scan.has_neighbours_that_meet.Given as goal

abbrev pub invariant-loop-index : goal.invariant-loop-index
invariant-loop-index l = AllAdjacentBelow Precedes l.spans l.index
