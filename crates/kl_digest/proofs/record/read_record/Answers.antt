use Rattle.std.proofs.Common.{sym}
use Rattle.kl_digest.proofs.Accepted.{no_record, one_digest}
use Rattle.kl_digest.proofs.Digits.{clean, is_record}
use Rattle.kl_digest.proofs.Faults.{first_fault}
use Rattle.kl_digest.proofs.record.read_record.Goals as goal

pub digest_of-requires-clause-each : goal.digest_of-requires-clause-each
digest_of-requires-clause-each c = (clean c.args.bytes.now (sym c.in-None.ensures)).digits

pub returns-in-None-clause-ok : goal.returns-in-None-clause-ok
returns-in-None-clause-ok c = is_record c.args.bytes.now c.digest_of.result (sym c.in-None.ensures) c.digest_of.ensures

pub returns-in-Some-clause-refused : goal.returns-in-Some-clause-refused
returns-in-Some-clause-refused c = no_record c.args.bytes.now _ (sym c.in-Some.ensures)

pub returns-in-None-clause-only : goal.returns-in-None-clause-only
returns-in-None-clause-only c = λ other is. one_digest c.args.bytes.now c.digest_of.result other c.digest_of.ensures is

pub returns-in-Some-clause-first : goal.returns-in-Some-clause-first
returns-in-Some-clause-first c = first_fault c.args.bytes.now _ (sym c.in-Some.ensures)
