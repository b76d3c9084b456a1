-- Decimal digits.
use Rattle.std.proofs.Common.{ℕ, ◌+◌, ◌*◌, ◌^◌, ◌<◌, ◌≤◌, arith}
use Rattle.std.proofs.Math.Nat.{pow-le-pow_right}

-- up to sixteen digits fit 64 bits
pub digits_fit : (n i d : ℕ) → n < 10 ^ i → i < 16 → d ≤ 9 → 10 * n + d < 2 ^ 64
digits_fit n i d h l s =
    let most : 10 ^ i ≤ 10 ^ 15 = pow-le-pow_right {n = 10} (omega arith) {i = i} {j = 15} (omega arith) in
    omega (arith, most)
