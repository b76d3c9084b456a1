use Rattle.std.proofs.Common.{arith, true, false}
use Rattle.std.proofs.lemmas.List.{append-nil}
use Rattle.kl_ar.proofs.Ends.{ends_more}
use Rattle.kl_ar.proofs.long_names.LongNames.new.Goals as goal
use Rattle.kl_ar.proofs.long_names.LongNames.new.Goals.{then-starts_with+in_ok-push, else-starts_with}

pub loop-place-preserved : goal.loop-place-preserved
loop-place-preserved c =
    elim c.if-starts_with.branch [
      | then-starts_with+in_ok-push w ↦
          (let step = ends_more c.args.table.now c.loop-place.place c.loop-place.ends.items _ true (omega arith) w.if-starts_with.ensures.value c.loop-place.invariant in rw (w.ends-is, w.in_ok-push.ensures.items) step)
      | else-starts_with w ↦
          (let step = ends_more c.args.table.now c.loop-place.place c.loop-place.ends.items _ false (omega arith) w.if-starts_with.ensures.value c.loop-place.invariant in rw w.ends-is (rw append-nil at step))
    ]
