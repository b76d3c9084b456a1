use Rattle.std.proofs.Common.{◌∙◌, sym, inr, ap, arith, subst}
use Rattle.std.specs.Prelude.{Some, unwrap_or}
use Rattle.kl_base.specs.declared.limits.TheConstants.{FIELD_COUNT_LIMIT}
use Rattle.kl_rel.specs.Limits.{IsAnswerWithin}
use Rattle.kl_rel.specs.Objects.{flaw, object}
use Rattle.kl_jobs.specs.Reading.{total_cause}
use Rattle.kl_jobs.specs.declared.cause.TotalOf.TheVariants.{Fields}
use Rattle.kl_jobs.proofs.Readings.{flaw_refused, many_refused}
use Rattle.kl_jobs.proofs.reading.read_input.Goals as goal

pub overflow_add-more-in-Err-TooManyFields-2 : goal.overflow_add-more-in-Err-TooManyFields-2
overflow_add-more-in-Err-TooManyFields-2 c =
    let many = subst (IsAnswerWithin (flaw c.args.bytes.now) (object c.args.bytes.now) FIELD_COUNT_LIMIT) c.in-Err-TooManyFields.field-0-is c.in-Err-TooManyFields.ensures.refused in
    omega (arith, c.requires.sections_fit, many.1.1.sections_short)

pub overflow_add-more-in-Err-TooManyFields-3 : goal.overflow_add-more-in-Err-TooManyFields-3
overflow_add-more-in-Err-TooManyFields-3 c =
    let many = subst (IsAnswerWithin (flaw c.args.bytes.now) (object c.args.bytes.now) FIELD_COUNT_LIMIT) c.in-Err-TooManyFields.field-0-is c.in-Err-TooManyFields.ensures.refused in
    omega (arith, c.requires.symbols_fit, many.1.1.symbols_short)

pub returns-in-Err-Flaw-clause-refused : goal.returns-in-Err-Flaw-clause-refused
returns-in-Err-Flaw-clause-refused c = λ before counts.
    let stands = subst (IsAnswerWithin (flaw c.args.bytes.now) (object c.args.bytes.now) FIELD_COUNT_LIMIT) c.in-Err-Flaw.field-0-is c.in-Err-Flaw.ensures.refused in
    inr (flaw_refused c.args.line.now.line before c.args.line.now.place c.args.bytes.now c.in-Err-Flaw.fault c.args.totals.now.inputs counts.inputs_are stands)

pub returns-in-Err-TooManyFields-clause-refused : goal.returns-in-Err-TooManyFields-clause-refused
returns-in-Err-TooManyFields-clause-refused c = λ before counts.
    let t = c.args.totals.now in
    let many = subst (IsAnswerWithin (flaw c.args.bytes.now) (object c.args.bytes.now) FIELD_COUNT_LIMIT) c.in-Err-TooManyFields.field-0-is c.in-Err-TooManyFields.ensures.refused in
    let refused = many_refused c.args.line.now.line before c.args.line.now.place c.args.bytes.now t.inputs t.bytes t.sections t.symbols t.fields
    c.in-Err-TooManyFields.sections c.in-Err-TooManyFields.symbols counts many.0 many.1.0 many.1.1.sections_are many.1.1.symbols_are in
    let what = c.unwrap_or-what.ensures ∙ ap (λ o. unwrap_or o Fields) c.over_limit.ensures in
    inr (refused ∙ ap (λ w. Some (total_cause c.args.line.now.line w)) (sym what))
