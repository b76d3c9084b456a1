use Rattle.kl_lines.proofs.cause.write_cause.Goals as goal

pub returns-in-Pending-clause-writes : goal.returns-in-Pending-clause-writes
returns-in-Pending-clause-writes g c = rw c.in-Pending.is (rw c.slot_name.ensures at c.write_file.ensures.writes)
