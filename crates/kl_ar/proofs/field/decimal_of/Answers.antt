use Rattle.std.proofs.Common.{arith}
use Rattle.kl_ar.proofs.Digits.{digits_fit}
use Rattle.kl_ar.proofs.field.decimal_of.Goals as goal

pub overflow_mul-number : goal.overflow_mul-number
overflow_mul-number c =
    let fits = digits_fit c.loop-byte.number c.loop-byte.byte-index 0 c.loop-byte.invariant.bound (omega arith) (omega arith) in
    omega (arith, fits)

pub overflow_add-number : goal.overflow_add-number
overflow_add-number c =
    let digit = c.if-not-is_ascii_digit.ensures.cases in
    let fits = digits_fit c.loop-byte.number c.loop-byte.byte-index c.from.result c.loop-byte.invariant.bound (omega arith) (omega (arith, digit)) in
    omega (arith, fits)
