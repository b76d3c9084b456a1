use Rattle.std.proofs.Common.{◌≡◌, ◌<◌, ◌∙◌, length, get_or, map, ap, sym, rules}
use Rattle.std.specs.Prelude.{None, Some}
use Rattle.std.proofs.lemmas.List.{get_or_default}
use Rattle.kl_model.specs.Kept.{input_at, no_input}
use Rattle.kl_model.specs.Names.{Occurrence, occurrences}
use Rattle.kl_model.specs.declared.object.Input.{Input}
use Rattle.kl_names.specs.Tables.{piece_table}
use Rattle.kl_names.proofs.NotedSteps.{AreOnce, are-once}
use Rattle.kl_sym.specs.Linkage.{used_number}
use Rattle.kl_sym.proofs.FieldTargets.{no_entry_at}
use Rattle.kl_sym.proofs.UsedSteps.{as-many, mark-there, marks-more, marks-same, number-leads, number-none, used-next}
use Rattle.kl_sym.proofs.used.mark_used.Goals as goal
use Rattle.kl_sym.proofs.used.mark_used.Goals.{in-Some, in_default}

pub used_number-requires : goal.used_number-requires
used_number-requires c =
    let kit = c.args.kit.now in let inputs = c.args.inputs.now in let i = c.args.i in let k = c.loop-field.field-index in
    let x = c.index-inputs-i.is ∙ get_or_default inputs i _ no_input c.requires.input in
    let fields : c.items-field-items.result.now ≡ (input_at inputs i).object.fields = c.items-field-items.ensures ∙ ap (λ (x : Input). x.object.fields) x in
    let l = rw fields at c.loop-field-test.true in
    let known = ((c.requires.inputs.each_input i no_input c.requires.input).fields k no_entry_at l).symbol in
    let many = as-many kit inputs i c.args.numbering.now.index c.args.numbers.now c.requires.numbers (get_or (input_at inputs i).object.fields k no_entry_at) known in
    rw (fields, many) known

pub index_mut-requires : goal.index_mut-requires
index_mut-requires c =
    let kit = c.args.kit.now in let inputs = c.args.inputs.now in let i = c.args.i in let k = c.loop-field.field-index in let index = c.args.numbering.now.index in
    let x = c.index-inputs-i.is ∙ get_or_default inputs i _ no_input c.requires.input in
    let fields : c.items-field-items.result.now ≡ (input_at inputs i).object.fields = c.items-field-items.ensures ∙ ap (λ (x : Input). x.object.fields) x in
    let l = rw fields at c.loop-field-test.true in
    let f = get_or (input_at inputs i).object.fields k no_entry_at in
    let known = ((c.requires.inputs.each_input i no_input c.requires.input).fields k no_entry_at l).symbol in
    let found : used_number (piece_table kit inputs i) c.args.numbers.now f ≡ Some c.in-Some.number = rw (c.requires.table, fields) at (sym c.in-Some.ensures) in
    let leads = number-leads kit inputs i index c.args.numbers.now c.requires.numbers f known c.in-Some.number found in
    let inside : c.in-Some.number < length c.loop-field.marks.items = rw c.loop-field.invariant (mark-there kit inputs i index k l c.in-Some.number leads.0 leads.2) in
    search (rules, inside)

pub loop-field-preserved : goal.loop-field-preserved
loop-field-preserved c =
    let kit = c.args.kit.now in let inputs = c.args.inputs.now in let i = c.args.i in let k = c.loop-field.field-index in let index = c.args.numbering.now.index in
    let x = c.index-inputs-i.is ∙ get_or_default inputs i _ no_input c.requires.input in
    let fields : c.items-field-items.result.now ≡ (input_at inputs i).object.fields = c.items-field-items.ensures ∙ ap (λ (x : Input). x.object.fields) x in
    let l = rw fields at c.loop-field-test.true in
    let f = get_or (input_at inputs i).object.fields k no_entry_at in
    let known = ((c.requires.inputs.each_input i no_input c.requires.input).fields k no_entry_at l).symbol in
    let once : AreOnce index = rw c.requires.numbered.once (are-once (map (λ (o : Occurrence). o.name) (occurrences inputs))) in
    elim c.match-used_number.branch [
      | in-Some w ↦
          let found : used_number (piece_table kit inputs i) c.args.numbers.now f ≡ Some w.in-Some.number = rw (c.requires.table, fields) at (sym w.in-Some.ensures) in
          let leads = number-leads kit inputs i index c.args.numbers.now c.requires.numbers f known w.in-Some.number found in
          rw (w.marks-is, c.loop-field.invariant) (marks-more kit inputs i index k l once w.in-Some.number leads.0 leads.1 leads.2)
      | in_default w ↦
          let found : used_number (piece_table kit inputs i) c.args.numbers.now f ≡ None = rw (c.requires.table, fields) at (sym w.in_default.ensures) in
          rw (w.marks-is, c.loop-field.invariant) (marks-same kit inputs i index k l (number-none kit inputs i index c.args.numbers.now c.requires.numbers f known found))
    ]

pub returns : goal.returns
returns c =
    let kit = c.args.kit.now in let inputs = c.args.inputs.now in let i = c.args.i in
    let x = c.index-inputs-i.is ∙ get_or_default inputs i _ no_input c.requires.input in
    let fields : c.items-field-items.result.now ≡ (input_at inputs i).object.fields = c.items-field-items.ensures ∙ ap (λ (x : Input). x.object.fields) x in
    c.loop-field.invariant ∙ used-next kit inputs i c.requires.input c.args.numbering.now.index c.loop-field.field-index (rw fields at c.loop-field-test.false)
