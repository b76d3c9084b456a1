use Rattle.std.proofs.Common.{rules}
use Rattle.std.specs.Prelude.{codes}
use Rattle.kl_lines.specs.Lines.{digest_words, found_words}
use Rattle.kl_lines.proofs.Taking.{writes_stop, writes_then}
use Rattle.kl_lines.proofs.cause.write_mismatch.Goals as goal

pub returns-in_err-write_digest-clause-writes : goal.returns-in_err-write_digest-clause-writes
returns-in_err-write_digest-clause-writes g c =
    writes_stop (digest_words (codes "relink: /bsd does not match: recorded ") c.args.recorded.now (codes " found ")) (found_words c.args.found.now) (search rules)
    c.in_err-write_digest.ensures.writes.failed

pub returns-clause-writes : goal.returns-clause-writes
returns-clause-writes g c =
    writes_then (digest_words (codes "relink: /bsd does not match: recorded ") c.args.recorded.now (codes " found ")) (found_words c.args.found.now)
    c.in_ok-write_digest.ensures.writes.taken c.write_found.ensures.writes
