use Rattle.std.proofs.Common.{◌≤◌}
use Rattle.kl_rel.specs.Chains.{IsChained}
use Rattle.kl_rel.proofs.first_flaw.Chains.new.Given as goal

abbrev pub invariant-loop-number : goal.invariant-loop-number
invariant-loop-number l = record {
  low : 1 ≤ l.number;
  high : l.number ≤ l.table.count;
  chains : IsChained l.bytes l.number l.chains;
}

abbrev pub decreases-loop-number : goal.decreases-loop-number
decreases-loop-number l = l.number
