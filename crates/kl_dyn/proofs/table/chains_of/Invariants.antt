use Rattle.std.proofs.Common.{◌≡◌, ℕ, ◌<◌, ◌≤◌, suc, drop, get_or, length}
use Rattle.kl_model.specs.Tables.{chains_from, first_in}
use Rattle.kl_dyn.proofs.table.chains_of.Given as goal

abbrev pub invariant-loop-rest : goal.invariant-loop-rest
invariant-loop-rest l = record {
  inside : l.rest ≤ length l.buckets;
  count : length l.firsts.items ≡ l.count;
  firsts : (b : ℕ) → b < l.count → get_or l.firsts.items b 0 ≡ first_in b (suc l.rest) (drop l.rest l.buckets);
  size : length l.nexts.items ≡ length l.buckets;
  nexts : drop l.rest l.nexts.items ≡ chains_from (suc l.rest) (drop l.rest l.buckets);
}

abbrev pub decreases-loop-rest : goal.decreases-loop-rest
decreases-loop-rest l = l.rest
