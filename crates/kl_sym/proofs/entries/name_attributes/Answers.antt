use Rattle.std.proofs.Common.{◌∙◌, ap}
use Rattle.kl_sym.specs.Shows.{shown}
use Rattle.kl_sym.proofs.ShownLaws.{by_common, by_global, by_none, by_weak}
use Rattle.kl_sym.proofs.entries.name_attributes.Goals as goal

pub returns-in-Some-default-default : goal.returns-in-Some-default-default
returns-in-Some-default-default c = λ kit name fact.
    ap shown c.symbol_attributes.ensures ∙ by_global kit c.args.inputs.now name c.args.facts.now fact c.in-Some-default-default.at c.in-Some-default-default.is-0

pub returns-in-None-Some-default : goal.returns-in-None-Some-default
returns-in-None-Some-default c = λ kit name fact.
    by_common kit c.args.inputs.now name c.args.facts.now fact c.in-None-Some-default.is-0 c.in-None-Some-default.common c.in-None-Some-default.is-1

pub returns-in-None-None-Some : goal.returns-in-None-None-Some
returns-in-None-None-Some c = λ kit name fact.
    ap shown c.symbol_attributes-in-None-None-Some.ensures
    ∙ by_weak kit c.args.inputs.now name c.args.facts.now fact c.in-None-None-Some.is-0 c.in-None-None-Some.is-1 c.in-None-None-Some.at c.in-None-None-Some.is-2

pub returns-in-None-None-None : goal.returns-in-None-None-None
returns-in-None-None-None c = λ kit name fact.
    by_none kit c.args.inputs.now name c.args.facts.now fact c.in-None-None-None.is-0 c.in-None-None-None.is-1 c.in-None-None-None.is-2
