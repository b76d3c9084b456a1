use Rattle.std.proofs.Common.{sym, refl, arith}
use Rattle.kl_rel.specs.Headers.{range_flaw_of, ranges_flaw}
use Rattle.kl_rel.proofs.Passes.{first_passes}
use Rattle.kl_rel.proofs.table.check_ranges.Goals as goal

pub loop-number-init : goal.loop-number-init
unfolding ranges_flaw
loop-number-init c = rw c.requires.table.count refl

pub loop-number-preserved : goal.loop-number-preserved
loop-number-preserved c =
    let here = rw (c.section.ensures, c.place_of.ensures, c.requires.table.place) at c.in_ok-check_range.ensures in
    first_passes (range_flaw_of c.args.bytes.now) c.loop-number.number c.args.table.now.count (sym here) (omega arith) c.loop-number.invariant
