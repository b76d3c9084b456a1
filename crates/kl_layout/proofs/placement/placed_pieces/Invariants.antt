use Rattle.std.proofs.Common.{◌≡◌, ◌++◌, drop}
use Rattle.kl_model.specs.Lists.{each_from, each}
use Rattle.kl_layout.specs.Stops.{laid_piece}
use Rattle.kl_layout.proofs.placement.placed_pieces.Given as goal

abbrev pub invariant-loop-number : goal.invariant-loop-number
invariant-loop-number l =
    l.placed.items ++ each_from l.number (laid_piece l.addresses) (drop l.number l.graph.pieces) ≡ each l.graph.pieces (laid_piece l.addresses)
