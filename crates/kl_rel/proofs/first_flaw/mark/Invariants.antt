use Rattle.std.proofs.Common.{ℕ, ◌≡◌, ◌<◌, ◌-◌, ◌&&◌, ◌||◌, length, slice_index}
use Rattle.std.specs.Prelude.{◌==◌, nat_le, nat_lt}
use Rattle.std.specs.List.{list_any, range_with_len}
use Rattle.kl_rel.specs.Chains.{AreOf}
use Rattle.kl_rel.proofs.Passes.{upto}
use Rattle.kl_rel.proofs.first_flaw.mark.Given as goal

abbrev pub invariant-loop-at : goal.invariant-loop-at
invariant-loop-at l = record {
  free : list_any (λ x. slice_index l.initial.stamps x == l.stamp) (range_with_len l.offset (l.end - l.offset)) ≡ list_any (λ x. slice_index l.initial.stamps x == l.stamp) (upto l.at l.end);
  marked : (x : ℕ) → x < length l.initial.stamps → (slice_index l.stamps x == l.stamp) ≡ ((slice_index l.initial.stamps x == l.stamp) || (nat_le l.offset x && nat_lt x l.at));
  others : AreOf l.stamp l.initial.stamps l.stamps;
  count : length l.stamps ≡ length l.initial.stamps;
}
