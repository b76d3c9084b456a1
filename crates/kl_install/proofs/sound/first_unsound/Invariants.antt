use Rattle.std.proofs.Common.{◌≡◌, ◌≤◌, drop}
use Rattle.std.specs.Option.{ForSome}
use Rattle.kl_store.specs.Calls.{Stays}
use Rattle.kl_install.specs.Recovery.{first_unsound}
use Rattle.kl_install.proofs.sound.first_unsound.Given as goal

abbrev pub invariant-loop-number : goal.invariant-loop-number
invariant-loop-number g l = record {
  rest : ForSome (g.S.Store.meaning l.fn.store).names (λ m. first_unsound m l.entries 0 ≡ first_unsound m (drop l.number l.entries) l.number);
  still : Stays (g.S.Store.meaning l.fn.store) (g.S.Store.meaning l.store);
  faults : g.S.Store.faults l.fn.store ≤ g.S.Store.faults l.store;
}
