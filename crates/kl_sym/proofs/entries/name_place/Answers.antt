use Rattle.std.proofs.Common.{◌∙◌, ap, sym}
use Rattle.kl_model.specs.declared.object.Symbol.{Symbol}
use Rattle.kl_model.specs.Names.{Occurrence}
use Rattle.kl_sym.proofs.ShownLaws.{first-is, first-none}
use Rattle.kl_sym.proofs.entries.name_place.Goals as goal

pub returns-in-Some-clause-input : goal.returns-in-Some-clause-input
returns-in-Some-clause-input c = λ name e. (first-is c.args.inputs.now name c.in-Some.at (sym c.in-Some.is ∙ e)).0

pub returns-in-Some-clause-name : goal.returns-in-Some-clause-name
returns-in-Some-clause-name c = λ name e.
    ap (λ (y : Symbol). y.name) (c.symbol_at.ensures ∙ (first-is c.args.inputs.now name c.in-Some.at (sym c.in-Some.is ∙ e)).1)

pub returns-in-None-clause-input : goal.returns-in-None-clause-input
returns-in-None-clause-input c = λ name e. sym (ap (λ (o : Occurrence). o.input) (first-none c.args.inputs.now name (sym c.in-None.is ∙ e)))

pub returns-in-None-clause-name : goal.returns-in-None-clause-name
returns-in-None-clause-name c = λ name e. sym (ap (λ (o : Occurrence). o.symbol.name) (first-none c.args.inputs.now name (sym c.in-None.is ∙ e)))
