use Rattle.std.proofs.Common.{rules}
use Rattle.kl_lines.specs.Lines.{entry_place, link_start}
use Rattle.kl_lines.proofs.Taking.{writes_stop, writes_then}
use Rattle.kl_lines.proofs.cause.write_entry.Goals as goal

pub returns-in_err-write_start-clause-writes : goal.returns-in_err-write_start-clause-writes
returns-in_err-write_start-clause-writes g c =
    writes_stop (link_start c.args.number) (entry_place c.args.from.now) (search rules) c.in_err-write_start.ensures.writes.failed

pub returns-clause-writes : goal.returns-clause-writes
returns-clause-writes g c = writes_then (link_start c.args.number) (entry_place c.args.from.now) c.in_ok-write_start.ensures.writes.taken c.write_place.ensures.writes
