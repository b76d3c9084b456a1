use Rattle.std.proofs.Common.{sym, ◌∙◌, ap}
use Rattle.std.specs.Prelude.{Some, List, ℕ}
use Rattle.kl_mem.proofs.Numbering.{append_hit, append_miss, other_miss, same_number, other_number, none_number}
use Rattle.kl_mem.proofs.numbers.appends_at.Goals as goal

pub returns-in_default : goal.returns-in_default
returns-in_default c = record {
  yes = λ e. absurd (cc);
  no = λ e. other_miss c.args.file.now c.args.steps.now c.args.i c.index-steps-i.result c.requires c.index-steps-i.is c.in_default.not-Append;
}

pub returns-in-Some-clause-yes : goal.returns-in-Some-clause-yes
returns-in-Some-clause-yes c = λ yes. append_hit c.args.file.now c.args.steps.now c.args.i c.index-steps-i.result c.in-Append.name c.in-Append.bytes c.requires c.index-steps-i.is c.in-Append.is
    (sym c.in-Some.ensures ∙ ap (λ (l : List ℕ). Some l) (same_number c.in-Some.number c.args.file.now (sym c.eq.ensures ∙ yes)))

pub returns-in-Some-clause-no : goal.returns-in-Some-clause-no
returns-in-Some-clause-no c = λ no. append_miss c.args.file.now c.args.steps.now c.args.i c.index-steps-i.result c.in-Append.name c.in-Append.bytes c.requires c.index-steps-i.is c.in-Append.is
    (λ is. other_number c.in-Some.number c.args.file.now (sym c.eq.ensures ∙ no) (c.in-Some.ensures ∙ is))

pub returns-in-None-clause-no : goal.returns-in-None-clause-no
returns-in-None-clause-no c = λ no. append_miss c.args.file.now c.args.steps.now c.args.i c.index-steps-i.result c.in-Append.name c.in-Append.bytes c.requires c.index-steps-i.is c.in-Append.is
    (λ is. none_number c.args.file.now (c.in-None.ensures ∙ is))
