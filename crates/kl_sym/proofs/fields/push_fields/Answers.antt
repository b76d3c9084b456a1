use Rattle.std.proofs.Common.{◌≡◌, ◌+◌, ◌∙◌, ◌++◌, ◌∷◌, [], ℕ, get_or, take, refl, ap, sym, inl, inr, append_assoc}
use Rattle.std.specs.Prelude.{option_to_list}
use Rattle.std.proofs.lemmas.List.{get_or_default, append-nil, length-map}
use Rattle.std.proofs.lemmas.Result.{err_from_is_err_and}
use Rattle.kl_model.specs.Kept.{input_at, no_input}
use Rattle.kl_model.specs.Graphs.{kept_field}
use Rattle.kl_model.specs.Lists.{each}
use Rattle.kl_model.specs.declared.object.Input.{Input}
use Rattle.kl_model.specs.declared.object.RawField.{RawField}
use Rattle.kl_model.proofs.Each.{each_more, each_first}
use Rattle.kl_sym.specs.Leads.{lead_of}
use Rattle.kl_sym.proofs.FieldTargets.{field_faults_of, field-is, faults-are, no_entry_at}
use Rattle.kl_sym.proofs.fields.push_fields.Goals as goal
use Rattle.kl_sym.proofs.fields.push_fields.Goals.{in-Some+in_ok-push, in_default}

pub kept_field-requires-clause-fits : goal.kept_field-requires-clause-fits
kept_field-requires-clause-fits c =
    let x = c.index-inputs-i.is ∙ get_or_default c.args.inputs.now c.args.i _ no_input c.requires.input in
    rw x (c.requires.inputs.each_input c.args.i no_input c.requires.input)

pub kept_field-requires-clause-field : goal.kept_field-requires-clause-field
kept_field-requires-clause-field c =
    let x = c.index-inputs-i.is ∙ get_or_default c.args.inputs.now c.args.i _ no_input c.requires.input in
    let fields : c.items-field-items.result.now ≡ (input_at c.args.inputs.now c.args.i).object.fields = c.items-field-items.ensures ∙ ap (λ (x : Input). x.object.fields) x in
    let l = rw fields at c.loop-field-test.true in
    rw (fields, x) ((c.requires.inputs.each_input c.args.i no_input c.requires.input).fields c.loop-field.field-index no_entry_at l)

pub kept_field-requires-clause-leads : goal.kept_field-requires-clause-leads
kept_field-requires-clause-leads c =
    let kit = c.args.kit.now in let inputs = c.args.inputs.now in let i = c.args.i in
    let x = c.index-inputs-i.is ∙ get_or_default inputs i _ no_input c.requires.input in
    rw (c.requires.leads, x) (length-map (input_at inputs i).object.symbols (lead_of kit inputs i))

pub returns-in_err-kept-clause-err : goal.returns-in_err-kept-clause-err
returns-in_err-kept-clause-err c =
    let kit = c.args.kit.now in let inputs = c.args.inputs.now in let i = c.args.i in let k = c.loop-field.field-index in
    let x = c.index-inputs-i.is ∙ get_or_default inputs i _ no_input c.requires.input in
    let fields : c.items-field-items.result.now ≡ (input_at inputs i).object.fields = c.items-field-items.ensures ∙ ap (λ (x : Input). x.object.fields) x in
    let l = rw fields at c.loop-field-test.true in
    let f = get_or (input_at inputs i).object.fields k no_entry_at in
    let symbol = ((c.requires.inputs.each_input i no_input c.requires.input).fields k no_entry_at l).symbol in
    let known = rw (fields, x, c.requires.table, c.requires.leads, faults-are kit inputs i f symbol) at c.in_err-kept.ensures.err in
    let sound = rw fields at c.loop-field.invariant.sound in
    let r = err_from_is_err_and c.from_residual.result c.from_residual.ensures.1 in
    rw (r.1, r.2) (elim known [
      | inl a ↦ inl a
      | inr e ↦ inr (each_first 0 (λ k f. field_faults_of kit inputs i f) (input_at inputs i).object.fields k no_entry_at _ l sound e)
    ])

pub loop-field-preserved : goal.loop-field-preserved
loop-field-preserved c =
    let kit = c.args.kit.now in let inputs = c.args.inputs.now in let i = c.args.i in let k = c.loop-field.field-index in
    let x = c.index-inputs-i.is ∙ get_or_default inputs i _ no_input c.requires.input in
    let fields : c.items-field-items.result.now ≡ (input_at inputs i).object.fields = c.items-field-items.ensures ∙ ap (λ (x : Input). x.object.fields) x in
    let l = rw fields at c.loop-field-test.true in
    let f = get_or (input_at inputs i).object.fields k no_entry_at in
    let symbol = ((c.requires.inputs.each_input i no_input c.requires.input).fields k no_entry_at l).symbol in
    let none = rw (fields, x, c.requires.table, c.requires.leads, faults-are kit inputs i f symbol) at c.in_ok-kept.ensures.sound in
    let given = rw (fields, x, c.requires.table, c.requires.leads, field-is kit inputs i f symbol) at c.in_ok-kept.ensures.ok in
    let more = each_more (λ k f. kept_field kit inputs i f) (input_at inputs i).object.fields k no_entry_at l in
    let more_faults = each_more (λ k f. field_faults_of kit inputs i f) (input_at inputs i).object.fields k no_entry_at l in
    let sound = rw fields at c.loop-field.invariant.sound in
    let F = λ (k : ℕ) (f : RawField). kept_field kit inputs i f in
    let fs = (input_at inputs i).object.fields in
    elim c.match-branch-2.branch [
      | in-Some+in_ok-push w ↦
          let step : each (take (k + 1) fs) F ≡ each (take k fs) F ++ w.in-Some.kept ∷ [] = more ∙ ap (λ l. each (take k fs) F ++ l) (sym given ∙ ap option_to_list w.in-Some.is) in
          record {
            fields = rw (w.fields-is, w.in_ok-push.ensures.items, c.loop-field.invariant.fields, fields, step, append_assoc) refl;
            sound = rw (fields, more_faults, none, append-nil) sound;
          }
      | in_default w ↦
          let step : each (take (k + 1) fs) F ≡ each (take k fs) F = more ∙ (ap (λ l. each (take k fs) F ++ l) (sym given ∙ ap option_to_list w.in_default.is) ∙ append-nil (each (take k fs) F)) in
          record {
            fields = rw (w.fields-is, c.loop-field.invariant.fields, fields, step) refl;
            sound = rw (fields, more_faults, none, append-nil) sound;
          }
    ]
