use Rattle.std.proofs.Common.{◌≤◌, arith}
use Rattle.kl_model.specs.Fit.{IsFit}
use Rattle.kl_model.specs.Kept.{part_number}
use Rattle.kernel_tests.specs.Small.{IsSmall}
use Rattle.kernel_tests.proofs.SmallInputs.{all_push, places_push}
use Rattle.kernel_tests.proofs.kernels.ring.Goals as goal

pub loop-number-preserved : goal.loop-number-preserved
loop-number-preserved c =
    let xs = c.loop-number.found.items in
    let x = c.in_ok-input.field-0 in
    let i = c.loop-number.invariant in
    rw c.in_ok-push.ensures.items (record {
      fit = all_push IsFit xs x i.fit c.in_ok-input.ensures.fit;
      small = all_push IsSmall xs x i.small c.in_ok-input.ensures.small;
      places = places_push xs x i.places (rw c.in_ok-input.ensures.place i.before);
      before = all_push (λ y. part_number y.place ≤ 1) xs x i.before (rw c.in_ok-input.ensures.place (omega arith));
    })
