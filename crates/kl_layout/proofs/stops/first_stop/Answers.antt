use Rattle.std.proofs.Common.{◌+◌, arith}
use Rattle.kl_layout.proofs.LayMore.{no_part}
use Rattle.kl_layout.proofs.Rounding.{first_wrapped}
use Rattle.kl_layout.proofs.stops.first_stop.Goals as goal

pub returns-in-len1-up : goal.returns-in-len1-up
returns-in-len1-up c =
    let some = c.in-len1-up.len_at_least in
    first_wrapped (c.args.base + c.args.from) c.padding.result no_part c.args.parts.now (omega (arith, some)) (c.requires 0 no_part (omega (arith, some))) c.padding.ensures.value
