use Rattle.kl_install.proofs.install.move_batch.Goals as goal

pub returns-clause-done : goal.returns-clause-done
returns-clause-done g c = rw c.entries.ensures at c.move_all.ensures.done

pub returns-clause-others : goal.returns-clause-others
returns-clause-others g c = rw c.entries.ensures at c.move_all.ensures.others
