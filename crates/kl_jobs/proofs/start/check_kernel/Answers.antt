use Rattle.std.proofs.Common.{inl, inr}
use Rattle.std.specs.Prelude.{None, Some}
use Rattle.std.proofs.lemmas.Result.{IfErr-weaker, on_ok_weaker}
use Rattle.kl_store.proofs.Moments.{stays_on, told_stays}
use Rattle.kl_jobs.proofs.KernelChecks.{matches, mismatch_stands}
use Rattle.kl_jobs.proofs.start.check_kernel.Goals as goal

pub returns-clause-matched : goal.returns-clause-matched
returns-clause-matched g c =
    on_ok_weaker c.check_digest.result (λ same m told.
    matches m c.in_ok-recorded.recorded (c.in_ok-recorded.ensures.names m (told_stays m c.check_slot.ensures.still told))
    (same m (told_stays m (stays_on c.check_slot.ensures.still c.read_recorded.ensures.still) told))) c.check_digest.ensures.same

pub returns-clause-stands : goal.returns-clause-stands
returns-clause-stands g c =
    on_ok_weaker c.check_digest.result (λ stands m told.
    let before = told_stays m c.check_slot.ensures.still told in
    mismatch_stands m (c.in_ok-check_slot.ensures.stands m told) (c.in_ok-recorded.ensures.stands m before) c.in_ok-recorded.recorded (c.in_ok-recorded.ensures.names m before) None
    (stands m (told_stays m (stays_on c.check_slot.ensures.still c.read_recorded.ensures.still) told))) c.check_digest.ensures.stands

pub returns-clause-refused : goal.returns-clause-refused
returns-clause-refused g c =
    IfErr-weaker c.check_digest.result _ _ (λ cause refused m told.
    let before = told_stays m c.check_slot.ensures.still told in
    elim (refused m (told_stays m (stays_on c.check_slot.ensures.still c.read_recorded.ensures.still) told)) [
      | inl outside ↦ inl outside
      | inr is ↦ inr (mismatch_stands m (c.in_ok-check_slot.ensures.stands m told) (c.in_ok-recorded.ensures.stands m before) c.in_ok-recorded.recorded (c.in_ok-recorded.ensures.names m before) (Some cause) is)
    ]) c.check_digest.ensures.refused
