use Rattle.std.proofs.Common.{◌≡◌}
use Rattle.std.specs.Prelude.{map}
use Rattle.kl_rel.specs.Flaws.{first_of}
use Rattle.kl_rel.specs.Headers.{range_flaw_of, ranges_flaw}
use Rattle.kl_rel.proofs.Passes.{upto}
use Rattle.kl_rel.proofs.table.check_ranges.Given as goal

abbrev pub invariant-loop-number : goal.invariant-loop-number
invariant-loop-number l = first_of (map (range_flaw_of l.bytes) (upto l.number l.table.count)) ≡ ranges_flaw l.bytes
