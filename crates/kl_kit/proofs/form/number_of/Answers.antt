use Rattle.std.proofs.Common.{◌∙◌, sym, arith}
use Rattle.kl_kit.proofs.Numbers.{digits_fit, stops}
use Rattle.kl_kit.proofs.form.number_of.Goals as goal

pub overflow_mul-number : goal.overflow_mul-number
overflow_mul-number c =
    let fits = digits_fit c.loop-digit.number c.loop-digit.digit-index 0 c.loop-digit.invariant.bound (omega arith) (omega arith) in
    omega (arith, fits)

pub returns-in_err-number : goal.returns-in_err-number
returns-in_err-number c =
    c.from_residual.ensures
    ∙ (sym (stops c.args.digits.now c.loop-digit.digit-index c.loop-digit.number (omega arith) (sym c.in_err-number.ensures.value))
    ∙ c.loop-digit.invariant.value)

pub overflow_add-number : goal.overflow_add-number
overflow_add-number c =
    let fits = digits_fit c.loop-digit.number c.loop-digit.digit-index c.in_ok-number.field-0 c.loop-digit.invariant.bound (omega arith) c.in_ok-number.ensures.small in
    omega (arith, fits)
