use Rattle.std.proofs.Common.{◌≡◌, ◌<◌, length, get_or, arith}
use Rattle.std.proofs.lemmas.List.{get_or_default}
use Rattle.kl_model.specs.Carries.{no_piece, piece_at}
use Rattle.kl_model.specs.Laid.{no_placed, place_of}
use Rattle.kl_model.specs.declared.place.Body.TheVariants as body
use Rattle.kl_write.specs.Writes.{file_place}
use Rattle.kl_write.proofs.Places.{origin-le, zero_piece, zero_placed}
use Rattle.kl_write.proofs.pieces.write_piece.Goals as goal

pub put_padded-requires-clause-part : goal.put_padded-requires-clause-part
put_padded-requires-clause-part c =
    let g = c.args.graph.now in let p = c.args.placement.now in let n = c.args.number in
    let piece : get_or c.items.result.now n zero_piece ≡ piece_at g n = rw c.items.ensures (get_or_default g.pieces n zero_piece no_piece c.requires.number) in
    let known : n < length p.pieces = (let a = c.requires.number in let b = c.requires.span.known in omega (arith, a, b)) in
    let placed : get_or c.items-2.result.now n zero_placed ≡ get_or p.pieces n no_placed = rw c.items-2.ensures (get_or_default p.pieces n zero_placed no_placed known) in
    let place : c.file_place-place.result ≡ file_place c.args.kind p (place_of p g (body.Piece n)) = rw placed at c.file_place-place.ensures in
    let starts = c.requires.span.starts n c.requires.number in
    let ends = c.requires.span.ends n c.requires.number in
    let front = origin-le c.args.kind in
    rw (piece, place) (omega (arith, front, starts, ends))
