-- Hexadecimal digits.
use Rattle.std.proofs.Common.{◌≡◌, ℕ, ◌+◌, ◌*◌, ◌^◌, ◌<◌, ◌≤◌, List, [], ◌∷◌, length, get_or, drop, suc, refl, ap, ◌∙◌, arith, Option}
use Rattle.std.specs.Prelude.{Some, None, fold}
use Rattle.std.specs.Option.{option_map}
use Rattle.std.proofs.Math.Nat.{pow-le-pow_right}
use Rattle.std.proofs.Math.Seq.{drop-cons}
use Rattle.hex.specs.Hex.{hex_digit_value}
use Rattle.kl_kit.specs.Forms.{with_digit}

-- up to sixteen digits fit 64 bits
pub digits_fit : (n i d : ℕ) → n < 16 ^ i → i < 16 → d ≤ 15 → 16 * n + d < 2 ^ 64
digits_fit n i d h l s =
    let most : 16 ^ i ≤ 16 ^ 15 = pow-le-pow_right {n = 16} (omega arith) {i = i} {j = 15} (omega arith) in
    omega (arith, most)

-- nothing follows what is no digit
none_stays : (ds : List ℕ) → fold with_digit None ds ≡ None
none_stays [] = refl
none_stays (d ∷ ds) = none_stays ds

pub stops : (ds : List ℕ) (i n : ℕ) → i < length ds → hex_digit_value (get_or ds i 0) ≡ None → fold with_digit (Some n) (drop i ds) ≡ None
stops ds i n h e =
    ap (fold with_digit (Some n)) (drop-cons ds i 0 h)
    ∙ (ap (λ (o : Option ℕ). fold with_digit (option_map (λ d. 16 * n + d) o) (drop (suc i) ds)) e ∙ none_stays (drop (suc i) ds))
