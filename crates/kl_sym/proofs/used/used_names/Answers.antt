use Rattle.std.proofs.Common.{◌≡◌, ◌<◌, ◌∙◌, length, ap, sym, arith, rules, refl, false}
use Rattle.std.specs.Prelude.{replicate}
use Rattle.std.proofs.lemmas.List.{length-map}
use Rattle.kl_names.proofs.TableAt.{length-tables, tables_at}
use Rattle.kl_sym.proofs.UsedSteps.{used-everywhere, used-nowhere}
use Rattle.kl_sym.proofs.used.used_names.Goals as goal

pub loop-i-init : goal.loop-i-init
loop-i-init c = record {
  marks =
      let many = sym (length-map c.names.result.now (λ k. k.now)) ∙ ap length c.names.ensures in
      let items : c.in_ok-marks.marks.items ≡ replicate (length c.names.result.now) false = search rules in
      items ∙ (ap (λ n. replicate n false) many ∙ used-nowhere c.args.kit.now c.args.inputs.now c.args.numbering.now.index);
  next = refl;
}

pub symbol_numbers-requires-clause-input : goal.symbol_numbers-requires-clause-input
symbol_numbers-requires-clause-input c =
    let many = ap length c.requires.tables ∙ length-tables c.args.kit.now c.args.inputs.now in
    let l = c.loop-i-test.true in omega arith

pub mark_used-requires-clause-input : goal.mark_used-requires-clause-input
mark_used-requires-clause-input c =
    let many = ap length c.requires.tables ∙ length-tables c.args.kit.now c.args.inputs.now in
    let l = c.loop-i-test.true in omega arith

pub mark_used-requires-clause-table : goal.mark_used-requires-clause-table
mark_used-requires-clause-table c =
    let many = ap length c.requires.tables ∙ length-tables c.args.kit.now c.args.inputs.now in
    let l = c.loop-i-test.true in
    let h : c.loop-i.i < length c.args.inputs.now = omega arith in
    c.index-tables-i.is ∙ rw c.requires.tables (tables_at c.args.kit.now c.args.inputs.now c.loop-i.i _ h)

pub returns : goal.returns
returns c =
    let many = ap length c.requires.tables ∙ length-tables c.args.kit.now c.args.inputs.now in
    let past = c.loop-i-test.false in
    c.loop-i.invariant.marks ∙ used-everywhere c.args.kit.now c.args.inputs.now c.args.numbering.now.index c.loop-i.i (omega arith)
