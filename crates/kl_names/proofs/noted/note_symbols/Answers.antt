use Rattle.std.proofs.Common.{◌≡◌, ◌<◌, ◌∙◌, length, ap, sym, arith, rules}
use Rattle.std.specs.Prelude.{replicate}
use Rattle.std.proofs.lemmas.List.{length-map}
use Rattle.kl_model.specs.Names.{occurrences}
use Rattle.kl_model.proofs.Each.{each_all}
use Rattle.kl_names.specs.Walked.{occurring_in, occurring_before}
use Rattle.kl_names.specs.declared.facts.TheConstants.{NO_FACTS}
use Rattle.kl_names.proofs.TableAt.{length-tables, tables_at}
use Rattle.kl_names.proofs.NotedSteps.{noted-none}
use Rattle.kl_names.proofs.noted.note_symbols.Goals as goal

pub loop-i-init : goal.loop-i-init
loop-i-init c =
    let many = sym (length-map c.names.result.now (λ k. k.now)) ∙ ap length c.names.ensures in
    let items : c.in_ok-vec.field-0.items ≡ replicate (length c.names.result.now) NO_FACTS = search rules in
    let none = c.new.ensures.items in
    rw (items, none) (noted-none c.args.kit.now c.args.inputs.now _ _ many)

pub note_input-requires-clause-input : goal.note_input-requires-clause-input
note_input-requires-clause-input c =
    let many = ap length c.requires.tables ∙ length-tables c.args.kit.now c.args.inputs.now in
    let l = c.loop-i-test.true in omega arith

pub note_input-requires-clause-table : goal.note_input-requires-clause-table
note_input-requires-clause-table c =
    let many = ap length c.requires.tables ∙ length-tables c.args.kit.now c.args.inputs.now in
    let l = c.loop-i-test.true in
    let h : c.loop-i.i < length c.args.inputs.now = omega arith in
    c.index-tables-i.is ∙ rw c.requires.tables (tables_at c.args.kit.now c.args.inputs.now c.loop-i.i _ h)

pub returns-clause-notes : goal.returns-clause-notes
returns-clause-notes c =
    let many = ap length c.requires.tables ∙ length-tables c.args.kit.now c.args.inputs.now in
    let past = c.loop-i-test.false in
    let all : occurring_before c.args.inputs.now c.loop-i.i ≡ occurrences c.args.inputs.now = each_all occurring_in c.args.inputs.now c.loop-i.i (omega arith) in
    record { facts = rw all at c.loop-i.invariant.said; commons = rw all at c.loop-i.invariant.common }

pub returns-clause-single : goal.returns-clause-single
returns-clause-single c =
    let many = ap length c.requires.tables ∙ length-tables c.args.kit.now c.args.inputs.now in
    let past = c.loop-i-test.false in
    let all : occurring_before c.args.inputs.now c.loop-i.i ≡ occurrences c.args.inputs.now = each_all occurring_in c.args.inputs.now c.loop-i.i (omega arith) in
    rw all at c.loop-i.invariant.single
