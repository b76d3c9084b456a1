use Rattle.std.proofs.Common.{◌∙◌, length, sym}
use Rattle.std.proofs.lemmas.Result.{err_from_is_err_and}
use Rattle.kl_rel.specs.Objects.{object}
use Rattle.kl_rel.specs.Relocations.{fields_in}
use Rattle.kl_rel.proofs.Whole.{head_answer}
use Rattle.kl_rel.proofs.Limits.{some_within, none_within}
use Rattle.kl_rel.proofs.read_object_within.Goals as goal

pub returns-in_err-table-clause-refused : goal.returns-in_err-table-clause-refused
returns-in_err-table-clause-refused c =
    let b = c.args.bytes.now in
    let p = err_from_is_err_and c.from_residual.result c.from_residual.ensures.1 in
    rw (p.1, p.2) (head_answer b c.in_err-table.field-0.0 c.in_err-table.ensures.flaw)

pub returns-then-is_some-clause-few : goal.returns-then-is_some-clause-few
unfolding object
returns-then-is_some-clause-few c =
    let counted = rw c.entry_count.ensures at c.is_some.ensures in
    some_within (length (fields_in c.args.bytes.now)) c.args.limit (sym counted ∙ c.if-is_some.true)

pub returns-clause-refused : goal.returns-clause-refused
unfolding object
returns-clause-refused c =
    let counted = rw c.entry_count.ensures at c.is_some.ensures in
    let many = none_within (length (fields_in c.args.bytes.now)) c.args.limit (sym counted ∙ c.if-is_some.false) in
    (c.in_ok-counts.ensures.sound, (many, c.in_ok-counts.ensures.counts))
