use Rattle.std.proofs.Common.{ℕ, ◌≡◌, ◌<◌, ◌++◌, length, get_or, drop, [], ◌&&◌}
use Rattle.kl_model.specs.Lists.{each_from, only_if}
use Rattle.kl_model.specs.Line.{is_of_input}
use Rattle.kl_layout.specs.Spreads.{is_by_input, numbers_of}
use Rattle.kl_layout.proofs.spreads.numbers_by_input.Given as goal

-- the numbers so far of each input and those of the pieces that are left are all of its numbers
abbrev pub invariant-loop-number : goal.invariant-loop-number
invariant-loop-number l = record {
  count : length l.lists.items ≡ length l.graph.parts;
  numbers : (i : ℕ) → i < length l.graph.parts
      → get_or l.lists.items i [] ++ each_from l.number (λ m x. only_if (is_of_input i x.id && is_by_input x.area) m) (drop l.number l.graph.pieces) ≡ numbers_of l.graph i;
}
