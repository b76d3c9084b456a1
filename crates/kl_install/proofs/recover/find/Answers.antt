use Rattle.std.proofs.Common.{sym, ◌∙◌}
use Rattle.kl_install.proofs.Redone.{long_found}
use Rattle.kl_install.proofs.recover.find.Goals as goal

pub returns-then-size-clause-found : goal.returns-then-size-clause-found
returns-then-size-clause-found g c = λ m told. long_found c.args.slot _ c.in-Some.size c.if-size.true (sym c.in-Some.is ∙ rw c.slot_name-name.ensures at (c.in_ok-size.ensures.size m told))
