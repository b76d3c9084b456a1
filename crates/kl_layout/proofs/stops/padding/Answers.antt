use Rattle.std.proofs.Common.{◌≡◌, ◌+◌, ◌∙◌, arith}
use Rattle.kl_layout.proofs.Rounding.{up_multiple, up_between}
use Rattle.kl_layout.proofs.stops.padding.Goals as goal

pub returns-in-0-clause-value : goal.returns-in-0-clause-value
returns-in-0-clause-value c = let add : c.args.address + 0 ≡ c.args.address = omega arith in add ∙ up_multiple c.args.address c.args.align c.requires c.in-0.is

pub returns-in_default-clause-value : goal.returns-in_default-clause-value
returns-in_default-clause-value c = up_between c.args.address c.args.align c.requires (omega arith) (omega arith)
