use Rattle.std.proofs.Common.{◌<◌, length}
use Rattle.kl_model.specs.Carries.{no_piece}
use Rattle.kl_model.proofs.Each.{each_more}
use Rattle.kl_write.proofs.Shown.{shows-append}
use Rattle.kl_write.specs.Writes.{piece_write}
use Rattle.kl_write.proofs.pieces.write_pieces.Goals as goal

pub loop-number-preserved : goal.loop-number-preserved
loop-number-preserved c =
    let g = c.args.graph.now in let p = c.args.placement.now in let inputs = c.args.inputs.now in let n = c.loop-number.number in
    let less : n < length g.pieces = rw c.items-number-end.ensures at c.loop-number-test.true in
    rw (each_more (piece_write c.args.kind inputs g p) g.pieces n no_piece less) (shows-append c.args.out.now c.loop-number.out c.write_piece.new.out c.args.at _ _ c.loop-number.invariant c.write_piece.ensures)
