use Rattle.std.proofs.Common.{◌≡◌, map}
use Rattle.std.specs.List.{range_with_len}
use Rattle.kl_generate.specs.Made.{made_line}
use Rattle.kl_generate.proofs.kit.made_kit.Given as goal

abbrev pub invariant-loop-number : goal.invariant-loop-number
invariant-loop-number l = l.lines.items ≡ map made_line (range_with_len 0 l.number)
