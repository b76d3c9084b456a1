use Rattle.kl_store.specs.Calls.{Stays}
use Rattle.kl_messages.proofs.source.find_input.Given as goal

abbrev pub invariant-loop-line : goal.invariant-loop-line
invariant-loop-line g l = Stays (g.S.Store.meaning l.initial.store) (g.S.Store.meaning l.store)
