use Rattle.kl_lines.proofs.cause.write_record.Goals as goal

pub returns-in-Flaw-clause-writes : goal.returns-in-Flaw-clause-writes
returns-in-Flaw-clause-writes g c = rw c.in-Flaw.is (rw c.record_fault_number.ensures at c.write_number.ensures.writes)
