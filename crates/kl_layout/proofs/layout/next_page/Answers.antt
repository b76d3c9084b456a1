use Rattle.std.proofs.Common.{◌+◌, arith}
use Rattle.kl_layout.proofs.Rounding.{wrapped_up}
use Rattle.kl_layout.proofs.layout.next_page.Goals as goal

pub returns-clause-value : goal.returns-clause-value
returns-clause-value c = let up_is = wrapped_up (c.args.base + c.args.place) c.args.page c.padding.result c.requires.step c.padding.ensures.value in omega (arith, up_is)
