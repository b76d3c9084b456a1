use Rattle.std.proofs.Common.{ℕ, ◌≡◌, ◌<◌, ◌++◌, length, get_or, drop, [], ◌&&◌}
use Rattle.std.specs.Prelude.{◌==◌}
use Rattle.kl_model.specs.Lists.{each_from, only_if}
use Rattle.kl_model.specs.Line.{piece_part}
use Rattle.kl_layout.specs.Spreads.{is_in_order, parts_in_order, spread_number}
use Rattle.kl_layout.proofs.spreads.push_in_order.Given as goal

-- the lists so far and the parts of the pieces that are left are all
abbrev pub invariant-loop-number : goal.invariant-loop-number
invariant-loop-number l = record {
  count : length l.lists ≡ length l.fn.lists;
  parts : (n : ℕ) → n < length l.fn.lists
      → get_or l.lists n [] ++ each_from l.number (λ m x. only_if (is_in_order x && (spread_number l.commons x == n)) (piece_part m x)) (drop l.number l.graph.pieces)
      ≡ get_or l.fn.lists n [] ++ parts_in_order l.graph l.commons n;
}
