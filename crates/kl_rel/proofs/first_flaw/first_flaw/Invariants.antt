use Rattle.std.proofs.Common.{ℕ, ◌≡◌, ◌<◌, ◌≤◌, length, slice_index}
use Rattle.kl_rel.specs.Chains.{IsKnown, PassForms, ArePassed}
use Rattle.kl_rel.proofs.first_flaw.first_flaw.Given as goal

abbrev pub invariant-loop-target : goal.invariant-loop-target
invariant-loop-target l = record {
  known : IsKnown l.bytes l.known;
  forms : PassForms l.bytes l.known.number;
  passed : (t : ℕ) → 1 ≤ t → t < l.target → ArePassed l.bytes t l.known.number;
  stamps : (x : ℕ) → slice_index l.stamps.items x < l.target;
  room : length l.stamps.items ≡ length l.bytes;
}
