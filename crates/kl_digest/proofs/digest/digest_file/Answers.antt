use Rattle.std.proofs.Common.{arith, length-take, ◌≤◌, ◌-◌, ◌∙◌, sym}
use Rattle.kl_store.proofs.Moments.{stays_on}
use Rattle.kl_digest.proofs.Pieces.{fed_on}
use Rattle.kl_digest.proofs.digest.digest_file.Goals as goal

pub loop-at-preserved : goal.loop-at-preserved
loop-at-preserved g c =
    let within : c.in_ok-count.count ≤ c.in-Some.size - c.loop-at.at = omega (arith, c.in_ok-count.ensures.bound, c.min-room.ensures, length-take c.min-room.result c.loop-at.buf) in
    record {
      within = omega (arith, within, c.loop-at.invariant.within);
      fed = λ m told. fed_on c.in-Some.size c.loop-at.at c.in_ok-count.count c.min-room.result c.loop-at.hasher c.update.new.self _ c.loop-at.buf c.read.new.buf (c.loop-at.invariant.fed m told) within (c.in_ok-count.ensures.bytes m (c.loop-at.invariant.still.names ∙ sym c.size.ensures.still.names ∙ told)) c.update.ensures;
      still = stays_on c.loop-at.invariant.still c.read.ensures.still;
      faults = omega (arith, c.loop-at.invariant.faults, c.read.ensures.cause.later);
    }
