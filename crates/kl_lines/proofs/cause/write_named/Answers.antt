use Rattle.std.proofs.Common.{◌++◌, refl, rules}
use Rattle.std.specs.Prelude.{codes}
use Rattle.kl_lines.specs.Escaped.{escaped}
use Rattle.kl_lines.specs.Lines.{link_start}
use Rattle.kl_lines.proofs.Taking.{takes_part, writes_fail, writes_stop, writes_then}
use Rattle.kl_lines.proofs.cause.write_named.Goals as goal

pub returns-in_err-write_start-clause-writes : goal.returns-in_err-write_start-clause-writes
returns-in_err-write_start-clause-writes g c =
    writes_stop (link_start c.args.number) (escaped c.args.name.now ++ codes "\n") (search rules) c.in_err-write_start.ensures.writes.failed

pub returns-in_err-write_escaped-clause-writes : goal.returns-in_err-write_escaped-clause-writes
returns-in_err-write_escaped-clause-writes g c =
    writes_fail _ (search rules)
    (takes_part _ (link_start c.args.number) (escaped c.args.name.now) (codes "\n") refl c.in_ok-write_start.ensures.writes.taken c.in_err-write_escaped.ensures.writes.failed)

pub returns-clause-writes : goal.returns-clause-writes
returns-clause-writes g c =
    writes_then (link_start c.args.number) (escaped c.args.name.now ++ codes "\n") c.in_ok-write_start.ensures.writes.taken
    (writes_then (escaped c.args.name.now) (codes "\n") c.in_ok-write_escaped.ensures.writes.taken c.write.ensures.writes)
