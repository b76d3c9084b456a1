use Rattle.std.proofs.Common.{◌≡◌, ◌+◌, ◌<◌, ◌∙◌, length, ap, sym, arith, inl, inr}
use Rattle.std.proofs.lemmas.List.{append-nil}
use Rattle.std.proofs.lemmas.Result.{err_from_is_err_and}
use Rattle.kl_model.specs.Kept.{no_input}
use Rattle.kl_model.specs.Graphs.{input_fields}
use Rattle.kl_model.specs.Faults.{input_faults}
use Rattle.kl_model.proofs.Each.{each_more, each_all, each_first}
use Rattle.kl_names.proofs.TableAt.{length-tables, tables_at}
use Rattle.kl_sym.proofs.fields.fields.Goals as goal

pub input_leads-requires-clause-input : goal.input_leads-requires-clause-input
input_leads-requires-clause-input c =
    let many = ap length c.requires.tables ∙ length-tables c.args.kit.now c.args.inputs.now in
    let l = c.loop-i-test.true in omega arith

pub input_leads-requires-clause-table : goal.input_leads-requires-clause-table
input_leads-requires-clause-table c =
    let many = ap length c.requires.tables ∙ length-tables c.args.kit.now c.args.inputs.now in
    let l = c.loop-i-test.true in
    let h : c.loop-i.i < length c.args.inputs.now = omega arith in
    c.index-tables-i.is ∙ rw c.requires.tables (tables_at c.args.kit.now c.args.inputs.now c.loop-i.i _ h)

pub push_fields-requires-clause-input : goal.push_fields-requires-clause-input
push_fields-requires-clause-input c =
    let many = ap length c.requires.tables ∙ length-tables c.args.kit.now c.args.inputs.now in
    let l = c.loop-i-test.true in omega arith

pub push_fields-requires-clause-table : goal.push_fields-requires-clause-table
push_fields-requires-clause-table c =
    let many = ap length c.requires.tables ∙ length-tables c.args.kit.now c.args.inputs.now in
    let l = c.loop-i-test.true in
    let h : c.loop-i.i < length c.args.inputs.now = omega arith in
    c.index-tables-i.is ∙ rw c.requires.tables (tables_at c.args.kit.now c.args.inputs.now c.loop-i.i _ h)

pub returns-in_err-push_fields-clause-err : goal.returns-in_err-push_fields-clause-err
returns-in_err-push_fields-clause-err c =
    let many = ap length c.requires.tables ∙ length-tables c.args.kit.now c.args.inputs.now in
    let l = c.loop-i-test.true in
    let h : c.loop-i.i < length c.args.inputs.now = omega arith in
    let z : 0 + c.loop-i.i ≡ c.loop-i.i = omega arith in
    let r = err_from_is_err_and c.from_residual-in_err-push_fields.result c.from_residual-in_err-push_fields.ensures.1 in
    rw (r.1, r.2) (elim c.in_err-push_fields.ensures.err [
      | inl a ↦ inl a
      | inr e ↦ inr (each_first 0 (input_faults c.args.kit.now c.args.inputs.now) c.args.inputs.now c.loop-i.i no_input _ h c.loop-i.invariant.sound (rw z e))
    ])

pub loop-i-preserved : goal.loop-i-preserved
loop-i-preserved c =
    let kit = c.args.kit.now in let inputs = c.args.inputs.now in
    let many = ap length c.requires.tables ∙ length-tables kit inputs in
    let l = c.loop-i-test.true in
    let h : c.loop-i.i < length inputs = omega arith in
    record {
      fields = rw (c.in_ok-push_fields.ensures.ok, c.loop-i.invariant.fields) (sym (each_more (input_fields kit inputs) inputs c.loop-i.i no_input h));
      sound = rw (each_more (input_faults kit inputs) inputs c.loop-i.i no_input h, c.in_ok-push_fields.ensures.sound, append-nil) c.loop-i.invariant.sound;
      next = c.in_ok-input.ensures.next;
    }

pub returns-clause-ok : goal.returns-clause-ok
returns-clause-ok c =
    let many = ap length c.requires.tables ∙ length-tables c.args.kit.now c.args.inputs.now in
    let past = c.loop-i-test.false in
    c.loop-i.invariant.fields ∙ each_all (input_fields c.args.kit.now c.args.inputs.now) c.args.inputs.now c.loop-i.i (omega arith)

pub returns-clause-sound : goal.returns-clause-sound
returns-clause-sound c =
    let many = ap length c.requires.tables ∙ length-tables c.args.kit.now c.args.inputs.now in
    let past = c.loop-i-test.false in
    sym (each_all (input_faults c.args.kit.now c.args.inputs.now) c.args.inputs.now c.loop-i.i (omega arith)) ∙ c.loop-i.invariant.sound
