use Rattle.std.proofs.Common.{◌≡◌, drop}
use Rattle.kl_layout.specs.Stops.{joined}
use Rattle.kl_layout.proofs.stops.line_start.Given as goal

-- the spreads so far have no part
abbrev pub invariant-loop-number : goal.invariant-loop-number
invariant-loop-number l = joined l.lists (drop l.number-index l.numbers) ≡ joined l.lists l.numbers
