use Rattle.std.proofs.Common.{[], get_or, ap, ◌∙◌, List, ℕ}
use Rattle.std.specs.Prelude.{Option}
use Rattle.kl_model.specs.Kept.{input_at, no_symbol}
use Rattle.kl_names.specs.Definitions.{symbol_place}
use Rattle.kl_names.proofs.OwnLaws.{by_common, by_global, by_none, by_weak}
use Rattle.kl_names.proofs.own.own_definition.Goals as goal

pub returns-in-Some-default-default : goal.returns-in-Some-default-default
returns-in-Some-default-default c = λ kit name tables fact common.
    let inputs = c.args.inputs.now in let at = c.in-Some-default-default.at in
    c.place_at.ensures ∙ (ap (λ (t : List (List (Option ℕ))). symbol_place (get_or t at.input []) (get_or (input_at inputs at.input).object.symbols at.number no_symbol)) tables
    ∙ by_global kit inputs name c.args.facts.now fact c.args.common common at c.in-Some-default-default.is-0)

pub returns-in-None-Some-default : goal.returns-in-None-Some-default
returns-in-None-Some-default c = λ kit name tables fact common.
    by_common kit c.args.inputs.now name c.args.facts.now fact c.args.common common c.in-None-Some-default.target c.in-None-Some-default.is-0 c.in-None-Some-default.is-1

pub returns-in-None-None-Some : goal.returns-in-None-None-Some
returns-in-None-None-Some c = λ kit name tables fact common.
    let inputs = c.args.inputs.now in let at = c.in-None-None-Some.at in
    c.place_at-in-None-None-Some.ensures ∙ (ap (λ (t : List (List (Option ℕ))). symbol_place (get_or t at.input []) (get_or (input_at inputs at.input).object.symbols at.number no_symbol)) tables
    ∙ by_weak kit inputs name c.args.facts.now fact c.args.common common at c.in-None-None-Some.is-0 c.in-None-None-Some.is-1 c.in-None-None-Some.is-2)

pub returns-in-None-None-None : goal.returns-in-None-None-None
returns-in-None-None-None c = λ kit name tables fact common.
    by_none kit c.args.inputs.now name c.args.facts.now fact c.args.common common c.in-None-None-None.is-0 c.in-None-None-None.is-1 c.in-None-None-None.is-2
