use Rattle.std.proofs.Common.{◌+◌, ◌-◌, arith}
use Rattle.kl_write.proofs.Shown.{shows_part}
use Rattle.kl_write.specs.Windows.{same_from}
use Rattle.kl_write.proofs.window.fill_window.Goals as goal

pub returns-then-from-to : goal.returns-then-from-to
returns-then-from-to c =
    let from = c.max-from.result in let to = c.min-to.result in let place = c.args.place in let at = c.args.at in
    let old = c.args.out.now in let new = c.fill_range.new.out in
    let r = c.fill_range.ensures in
    shows_part old new at (same_from place c.args.count c.args.byte) from (to - from)
    (omega (arith, c.max-from.ensures)) (omega (arith, c.max-from.ensures)) (omega (arith, c.min-to.ensures, c.if-from-to.true)) (omega (arith, c.min-to.ensures, c.if-from-to.true))
    (λ q j k w. let low = w.0 in let high = w.1 in (omega (arith, c.max-from.ensures, j, low), omega (arith, c.min-to.ensures, k, high, c.if-from-to.true)))
    r.long r.rest (λ i h. r.inside (from - at + i) (omega arith, omega (arith, h)))
