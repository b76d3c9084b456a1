use Rattle.std.proofs.Common.{rules}
use Rattle.kl_lines.proofs.Taking.{pieces_whole, takes_part, writes_fail}
use Rattle.kl_lines.proofs.pieces.write_pieces.Goals as goal

pub returns-in_err-write-clause-writes : goal.returns-in_err-write-clause-writes
returns-in_err-write-clause-writes g c =
    writes_fail _ (search rules)
    (takes_part _ _ _ _ (pieces_whole (λ p. p.now) c.args.pieces.now c.loop-piece.piece-index _ c.loop-piece-test.true) c.loop-piece.invariant.taken c.in_err-write.ensures.writes.failed)
