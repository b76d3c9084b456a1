use Rattle.std.proofs.Common.{◌∙◌, sym, ap}
use Rattle.std.specs.Prelude.{find, nat_le}
use Rattle.kl_ar.proofs.Ends.{name_is, no_name}
use Rattle.kl_ar.proofs.long_names.LongNames.name.Goals as goal

pub returns-in_err-end : goal.returns-in_err-end
returns-in_err-end c = λ t is. c.from_residual.ensures ∙ no_name _ c.args.place c.args.self.now.ends t is (sym c.in_err-end.was ∙ (c.first_from.ensures.first ∙ ap (find (nat_le c.args.place)) c.items.ensures))

pub returns : goal.returns
returns c = λ t is. name_is _ c.args.place c.in_ok-end.end c.args.self.now.ends t is (sym c.in_ok-end.was ∙ (c.first_from.ensures.first ∙ ap (find (nat_le c.args.place)) c.items.ensures))
