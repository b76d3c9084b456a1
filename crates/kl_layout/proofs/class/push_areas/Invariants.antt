use Rattle.std.proofs.Common.{◌≡◌, ◌++◌, drop}
use Rattle.kl_layout.proofs.class.push_areas.Given as goal

abbrev pub invariant-loop-number : goal.invariant-loop-number
invariant-loop-number l = l.numbers.items ++ drop l.number-index l.areas ≡ l.fn.numbers.items ++ l.areas
