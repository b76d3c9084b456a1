use Rattle.std.proofs.Common.{◌≤◌, ◌-◌}
use Rattle.kl_store.specs.Calls.{Stays, Holds}
use Rattle.kl_digest.proofs.Pieces.{IsFed}
use Rattle.kl_digest.proofs.digest.digest_file.Given as goal

abbrev pub invariant-loop-at : goal.invariant-loop-at
invariant-loop-at g l = record {
  within : l.at ≤ l.size;
  fed : Holds (g.S.Store.meaning l.initial.store) l.name (IsFed l.size l.at l.hasher);
  still : Stays (g.S.Store.meaning l.fn.store) (g.S.Store.meaning l.store);
  faults : g.S.Store.faults l.fn.store ≤ g.S.Store.faults l.store;
}

abbrev pub decreases-loop-at : goal.decreases-loop-at
decreases-loop-at g l = l.size - l.at
