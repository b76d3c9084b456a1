use Rattle.std.proofs.Common.{◌≡◌, ◌≤◌, ◌+◌, ◌++◌, length}
use Rattle.kl_map.specs.MapText.{head_lines}
use Rattle.kl_map.proofs.Fronts.{IsFront, so_far}
use Rattle.kl_map.proofs.read.read_body.Given as goal

abbrev pub invariant-loop-line : goal.invariant-loop-line
invariant-loop-line l = record {
  front : IsFront l.map;
  text : head_lines l.fn.map ++ l.fn.text ≡ so_far l.map ++ l.rest;
  number : l.number ≡ 5 + length l.map.placement.areas + length l.map.placement.pieces;
  size : l.number + length l.rest ≤ 5 + length l.fn.text;
}

abbrev pub decreases-loop-line : goal.decreases-loop-line
decreases-loop-line l = length l.rest
