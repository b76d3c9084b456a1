use Rattle.kl_image.specs.Placed.{HasWritten}
use Rattle.kl_image.proofs.placed.write_number.Given as goal

abbrev pub invariant-loop-place : goal.invariant-loop-place
invariant-loop-place l = HasWritten l.initial.written l.written l.address l.number l.place
