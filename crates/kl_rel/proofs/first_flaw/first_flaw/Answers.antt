use Rattle.std.proofs.Common.{arith}
use Rattle.kl_rel.proofs.Stamps.{known_is_first}
use Rattle.kl_rel.proofs.first_flaw.first_flaw.Goals as goal

pub returns : goal.returns
returns c =
    let is = c.loop-target.invariant in
    known_is_first c.args.bytes.now c.loop-target.known is.known is.forms (λ t low high. is.passed t low (omega (arith, high, c.loop-target-test.false, c.requires.table.count)))
