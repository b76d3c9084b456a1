use Rattle.std.proofs.Common.{ℕ, ◌≡◌, ◌<◌, ◌++◌, length, get_or, drop, []}
use Rattle.kl_layout.specs.Spreads.{numbered_parts}
use Rattle.kl_layout.proofs.spreads.push_pieces.Given as goal

-- the lists so far and the parts of the numbers that are left are all
abbrev pub invariant-loop-number : goal.invariant-loop-number
invariant-loop-number l = record {
  count : length l.lists ≡ length l.fn.lists;
  parts : (n : ℕ) → n < length l.fn.lists
      → get_or l.lists n [] ++ numbered_parts l.graph n (drop l.number-index l.numbers) ≡ get_or l.fn.lists n [] ++ numbered_parts l.graph n l.numbers;
}
