use Rattle.std.proofs.Common.{◌≤◌}
use Rattle.std.specs.Option.{ForSome}
use Rattle.kl_store.specs.Disk.{names_now}
use Rattle.kl_store.specs.Images.{Leaves}
use Rattle.kl_install.specs.Recovery.{IsPartMoved}
use Rattle.kl_install.proofs.Redone.{IsAgainAt}
use Rattle.kl_install.specs.Batch.{IsAway}
use Rattle.kl_store.specs.Files.{KeepsNames}
use Rattle.kl_install.proofs.recover.move_again.Given as goal

abbrev pub invariant-loop-entry : goal.invariant-loop-entry
invariant-loop-entry g l = record {
  state : ForSome (g.S.Store.meaning l.initial.store).disk (λ d. IsAgainAt (g.S.Store.meaning l.store).disk (names_now d) l.entries l.entry-index);
  images : Leaves (g.S.Store.meaning l.initial.store) (g.S.Store.meaning l.store) (IsPartMoved l.entries);
  others : KeepsNames (λ n. IsAway n l.entries) (g.S.Store.meaning l.initial.store) (g.S.Store.meaning l.store);
  faults : g.S.Store.faults l.initial.store ≤ g.S.Store.faults l.store;
}
