-- A number with one bit set is a power of two.
use Rattle.std.proofs.Common.{ℕ, zero, suc, ◌≡◌, ◌+◌, ◌*◌, ◌/◌, ◌%◌, ◌^◌, ◌<◌, ◌≤◌, inr, Bool, true, false, ◌&&◌, refl, arith, eqb-true}
use Rattle.std.specs.Prelude.{count_ones, nat_le, ◌==◌}
use Rattle.std.proofs.lemmas.Bool.{leb-true, leb-false}
use Rattle.std.proofs.lemmas.Nat.{ones_cat, zero_from_ones, ones_le_self}
use Rattle.std.proofs.Math.Nat.{pow-succ'}
use Rattle.std.proofs.Math.Pow.{pow_mono}
use Rattle.kl_model.specs.Fit.{IsAlignment}
use Rattle.kl_rel.specs.Sections.{is_alignment}
use Rattle.kl_base.specs.declared.limits.TheConstants.{ALIGN_LIMIT, ALIGN_POWER_LIMIT}

-- the bits of a number are those of its half and its last one
halves : (n r : ℕ) → n % 2 ≡ r → count_ones n ≡ count_ones (n / 2) + count_ones r
halves n r e =
    let small : n % 2 < 2 ^ 1 = omega arith in
    let parts : n / 2 * 2 ^ 1 + n % 2 ≡ n = omega arith in
    let cat = rw (parts, e) at (ones_cat 1 (n / 2) (n % 2) small) in
    cat

one_bit : count_ones 1 ≡ 1
one_bit = go (count_ones 1) refl (ones_le_self 1)
  where
    go : (x : ℕ) → count_ones 1 ≡ x → x ≤ 1 → x ≡ 1
    go zero e le = let none = zero_from_ones 1 e in cc
    go (suc zero) e le = refl
    go (suc (suc x)) e le = absurd (omega arith)

power_of : (m n : ℕ) → n ≤ m → count_ones n ≡ 1 → (k : ℕ) × (n ≡ 2 ^ k)
power_of zero n le e = let few = ones_le_self n in absurd (omega (arith, few))
power_of (suc m) n le e = go (n % 2) refl (omega arith) (power_of m (n / 2) (omega arith))
  where
    go : (r : ℕ) → n % 2 ≡ r → r < 2 → (count_ones (n / 2) ≡ 1 → (k : ℕ) × (n / 2 ≡ 2 ^ k)) → (k : ℕ) × (n ≡ 2 ^ k)
    go zero er lt rest =
        let bits = halves n zero er in
        let low = ones_le_self 0 in
        let half = rest (omega (arith, bits, e, low)) in
        let twice = pow-succ' 2 half.0 in
        (suc half.0, omega (arith, half.1, twice, er))
    go (suc zero) er lt rest =
        let bits = halves n 1 er in
        let none = zero_from_ones (n / 2) (omega (arith, bits, e, one_bit)) in
        (zero, omega (arith, none, er))
    go (suc (suc r)) er lt rest = absurd (omega arith)

small : (k : ℕ) → 2 ^ k ≤ ALIGN_LIMIT → k ≤ ALIGN_POWER_LIMIT
small k h = go (nat_le k 21) refl
  where
    go : (x : Bool) → nat_le k 21 ≡ x → k ≤ 21
    go true e = leb-true k 21 e
    go false e =
        let above = leb-false k 21 e in
        let more = pow_mono {i = 22} {j = k} (omega (arith, above)) in
        absurd (omega (arith, h, more))

pub power_alignment : (n : ℕ) → is_alignment n ≡ true → IsAlignment n
power_alignment n e = go (count_ones n == 1) refl (nat_le n ALIGN_LIMIT) refl e
  where
    go : (x : Bool) → (count_ones n == 1) ≡ x → (y : Bool) → nat_le n ALIGN_LIMIT ≡ y → (x && y) ≡ true → IsAlignment n
    go false ex y ey e = cc
    go true ex false ey e = cc
    go true ex true ey e =
        let power = power_of n n (omega arith) (eqb-true (count_ones n) 1 ex) in
        let below = leb-true n ALIGN_LIMIT ey in
        inr (power.0, small power.0 (rw power.1 at below), power.1)
