use Rattle.std.proofs.Common.{◌≡◌, ◌∙◌, [], get_or, refl, sym, inr}
use Rattle.std.specs.Prelude.{Some, slice_get}
use Rattle.std.proofs.lemmas.List.{append-nil, map_more}
use Rattle.std.proofs.lemmas.Result.{err_from_is_err_and}
use Rattle.kl_model.specs.Leads.{filed_value}
use Rattle.kl_model.proofs.Each.{each_first, each_more}
use Rattle.kl_write.specs.Values.{range_faults_of}
use Rattle.kl_got.proofs.Walked.{zero_field}
use Rattle.kl_write.proofs.values.values_of.Goals as goal

pub field_value-requires-clause-field : goal.field_value-requires-clause-field
field_value-requires-clause-field c =
    let fs = c.args.graph.now.fields in
    let items = c.items-field-items.ensures in
    let h = rw items at c.loop-field-test.true in
    rw items (c.requires.fields c.loop-field.field-index zero_field h)

pub returns-in_err-field_value-clause-err : goal.returns-in_err-field_value-clause-err
returns-in_err-field_value-clause-err c =
    let g = c.args.graph.now in let p = c.args.placement.now in let n = c.loop-field.field-index in
    let items = c.items-field-items.ensures in
    let h = rw items at c.loop-field-test.true in
    let r = err_from_is_err_and c.from_residual-in_err-field_value.result c.from_residual-in_err-field_value.ensures.1 in
    let misfit = rw items at c.in_err-field_value.ensures.misfit in
    let is = rw items at c.in_err-field_value.ensures.err in
    let first : slice_get (range_faults_of p g (get_or g.fields n zero_field)) 0 ≡ Some c.in_err-field_value.field-0.0 = rw (misfit, is) refl in
    rw (r.1, r.2) (inr (each_first 0 (λ k f. range_faults_of p g f) g.fields n zero_field _ h c.loop-field.invariant.fit first))

pub loop-field-preserved : goal.loop-field-preserved
loop-field-preserved c =
    let g = c.args.graph.now in let p = c.args.placement.now in let n = c.loop-field.field-index in
    let items = c.items-field-items.ensures in
    let h = rw items at c.loop-field-test.true in
    let value = rw items at c.in_ok-field_value.ensures.value in
    let fits = rw items at c.in_ok-field_value.ensures.fits in
    let none : range_faults_of p g (get_or g.fields n zero_field) ≡ [] = rw fits refl in
    record {
      values = c.in_ok-push.ensures.items ∙ (rw (c.loop-field.invariant.values, value) (sym (map_more (filed_value c.args.kit.now p g) g.fields n zero_field h)));
      fit = rw (each_more (λ k f. range_faults_of p g f) g.fields n zero_field h, none, append-nil) c.loop-field.invariant.fit;
    }
