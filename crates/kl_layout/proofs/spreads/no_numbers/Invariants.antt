use Rattle.std.proofs.Common.{ℕ, ◌≡◌, length, get_or, []}
use Rattle.kl_layout.proofs.spreads.no_numbers.Given as goal

abbrev pub invariant-loop : goal.invariant-loop
invariant-loop l = record { count : length l.lists.items ≡ l.counter; empty : (i : ℕ) → get_or l.lists.items i [] ≡ [] }
