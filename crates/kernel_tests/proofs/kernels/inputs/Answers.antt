use Rattle.std.proofs.Common.{◌≤◌, arith}
use Rattle.kl_model.specs.Fit.{IsFit}
use Rattle.kl_model.specs.Kept.{part_number}
use Rattle.kernel_tests.specs.Small.{IsSmall}
use Rattle.kernel_tests.proofs.SmallInputs.{all_push, places_push}
use Rattle.kernel_tests.proofs.kernels.inputs.Goals as goal

pub loop-digits-preserved : goal.loop-digits-preserved
loop-digits-preserved c =
    let xs = c.loop-digits.found.items in
    let x = c.in_ok-input.field-0 in
    let i = c.loop-digits.invariant in
    rw c.in_ok-push.ensures.items (record {
      fit = all_push IsFit xs x i.fit c.in_ok-input.ensures.fit;
      small = all_push IsSmall xs x i.small c.in_ok-input.ensures.small;
      places = places_push xs x i.places (rw c.in_ok-input.ensures.place i.before);
      before = all_push (λ y. part_number y.place ≤ 1) xs x (λ k d h. (let e = i.before k d h in omega (arith, e, i.place))) (rw c.in_ok-input.ensures.place i.place);
      place = omega arith;
    })
