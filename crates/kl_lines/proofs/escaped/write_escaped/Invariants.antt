use Rattle.std.proofs.Common.{◌≡◌, ◌≤◌, ◌++◌, List, ℕ, length}
use Rattle.kl_store.specs.Outside.{Takes}
use Rattle.kl_lines.specs.Escaped.{escaped}
use Rattle.kl_lines.proofs.escaped.write_escaped.Given as goal

-- the bytes so far are written, and the others are left
abbrev pub invariant-loop-rest : goal.invariant-loop-rest
invariant-loop-rest g l = record {
  part : (done : List ℕ) × (l.name ≡ done ++ l.rest) × Takes (escaped done) (g.K.Sink.meaning l.initial.out) (g.K.Sink.meaning l.out);
  faults : g.K.Sink.faults l.initial.out ≤ g.K.Sink.faults l.out;
}

abbrev pub decreases-loop-rest : goal.decreases-loop-rest
decreases-loop-rest g l = length l.rest
