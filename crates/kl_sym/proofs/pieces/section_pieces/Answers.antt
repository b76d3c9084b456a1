use Rattle.std.proofs.Common.{◌∷◌, [], ◌∙◌, ap, arith, get_or, length, refl}
use Rattle.kl_sym.proofs.PieceSteps.{length-tables, table_there}
use Rattle.kl_model.specs.Kept.{no_input}
use Rattle.kl_model.proofs.Each.{each_all, each_more}
use Rattle.kl_names.specs.Tables.{piece_table}
use Rattle.kl_sym.proofs.pieces.section_pieces.Goals as goal

pub loop-i-preserved : goal.loop-i-preserved
loop-i-preserved c = record {
  pieces = c.in_ok-table.ensures.pieces;
  tables =
      let more = each_more (λ i x. piece_table c.args.kit.now c.args.inputs.now i ∷ []) c.args.inputs.now c.loop-i.i no_input c.loop-i-test.true in
      rw (more, c.in_ok-push.ensures.items, c.loop-i.invariant.tables, c.in_ok-table.ensures.table) refl;
}

pub index-requires : goal.index-requires
index-requires c =
    let many = ap length c.in_ok-removed.ensures ∙ length-tables c.args.inputs.now in
    let here = c.loop-i-test.true in
    omega arith

pub push_pieces-requires-clause-removed : goal.push_pieces-requires-clause-removed
push_pieces-requires-clause-removed c =
    c.index.ensures ∙ (ap (λ l. get_or l c.loop-i.i c.index.result.now) c.in_ok-removed.ensures ∙ table_there c.args.inputs.now c.loop-i.i c.index.result.now c.loop-i-test.true)

pub returns-clause-tables : goal.returns-clause-tables
returns-clause-tables c = c.loop-i.invariant.tables ∙ each_all (λ i x. piece_table c.args.kit.now c.args.inputs.now i ∷ []) c.args.inputs.now c.loop-i.i c.loop-i-test.false
