use Rattle.std.proofs.Common.{◌≡◌, length}
use Rattle.std.specs.Prelude.{All}
use Rattle.link_tests.specs.SoundAmong.{IsSoundAmong}
use Rattle.link_tests.proofs.placements.graph.Given as goal

abbrev pub invariant-loop-input : goal.invariant-loop-input
invariant-loop-input l = record {
  sound : All (IsSoundAmong (length l.sizes)) l.pieces;
  count : length l.pieces ≡ l.input;
}
