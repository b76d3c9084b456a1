use Rattle.std.proofs.Common.{◌≤◌, take}
use Rattle.std.specs.List.{flat_map}
use Rattle.kl_store.specs.Outside.{Takes}
use Rattle.kl_lines.proofs.pieces.write_pieces.Given as goal

abbrev pub invariant-loop-piece : goal.invariant-loop-piece
invariant-loop-piece g l = record {
  taken : Takes (flat_map (λ p. p.now) (take l.piece-index l.pieces)) (g.K.Sink.meaning l.initial.out) (g.K.Sink.meaning l.out);
  faults : g.K.Sink.faults l.initial.out ≤ g.K.Sink.faults l.out;
}
