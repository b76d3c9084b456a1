use Rattle.std.proofs.Common.{ℕ, ◌≡◌, ◌≢◌, ◌-◌, ◌<◌, ◌≤◌, true, cond, length, slice_index}
use Rattle.std.specs.Prelude.{None, ◌==◌}
use Rattle.kl_rel.specs.Relocations.{rela_flaw_of}
use Rattle.kl_rel.specs.Chains.{changes}
use Rattle.kl_rel.proofs.Stamps.{IsTurn}
use Rattle.kl_rel.proofs.first_flaw.Chains.check.Given as goal

abbrev pub invariant-loop-number : goal.invariant-loop-number
invariant-loop-number l = record {
  known : l.known ≡ l.initial.known;
  passed : (n : ℕ) → 1 ≤ n → (l.number ≢ 0 → n < l.number) → n < l.known.number → changes l.bytes l.target n ≡ true → rela_flaw_of l.bytes n ≡ None;
  turn : l.number ≢ 0 → IsTurn l.bytes l.target l.number l.stamps;
  values : (x : ℕ) → slice_index l.stamps x ≤ l.target;
  count : length l.stamps ≡ length l.initial.stamps;
}

abbrev pub decreases-loop-number : goal.decreases-loop-number
decreases-loop-number l = cond (l.number == 0) 0 (l.table.count - l.number)
