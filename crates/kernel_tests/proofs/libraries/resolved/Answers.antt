use Rattle.kernel_tests.proofs.libraries.resolved.Goals as goal

pub resolved_of-requires-clause-places : goal.resolved_of-requires-clause-places
resolved_of-requires-clause-places c = rw c.deref.ensures.value c.in_ok-inputs.ensures.places
