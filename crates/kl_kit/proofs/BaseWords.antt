-- The word of a base is read back.
use Rattle.std.proofs.Common.{◌≡◌, ℕ, zero, suc, ◌+◌, ◌*◌, ◌/◌, ◌%◌, ◌^◌, ◌<◌, ◌≤◌, true, List, [], ◌∷◌, length, refl, ap, ◌∙◌, arith, Option}
use Rattle.std.specs.Prelude.{Some, ◌==◌, nat_le, fold, codes, slice_index}
use Rattle.std.specs.Option.{option_and_then, option_map}
use Rattle.std.specs.Int.{to_be_bytes, from_be_bytes, bytes_high_first, byte_at, w64}
use Rattle.std.proofs.lemmas.Bool.{le-leb}
use Rattle.std.proofs.lemmas.Bool.Decides.{Decides-eqb}
use Rattle.std.proofs.lemmas.Nat.{from_be_bytes-to_be_bytes_8}
use Rattle.hex.specs.Hex.{IsBytes, encode_lower, encode_with, lower_digits}
use Rattle.hex.proofs.HexLemmas.{IsDigits-lower_digits, length-encode_with}
use Rattle.kl_base.specs.declared.limits.TheConstants.{BASE_LIMIT, PAGE}
use Rattle.kl_text.proofs.Cuts.{after_prefix-append}
use Rattle.kl_kit.specs.Forms.{base_if, base_of, digits_number, number_of, with_digit}
use Rattle.kl_kit.specs.KitPrints.{base_word}

byte_fits : (k n : ℕ) → byte_at k n < 256
byte_fits zero n = omega arith
byte_fits (suc k) n = omega arith

-- the bytes of a number are bytes
pub bytes_fit : (k n : ℕ) → IsBytes (bytes_high_first k n)
bytes_fit zero n i = omega arith
bytes_fit (suc k) n zero = byte_fits k n
bytes_fit (suc k) n (suc i) = bytes_fit k n i

-- the number of bytes, the highest first, behind others
abbrev number_from : ℕ → List ℕ → ℕ
number_from n bytes = fold (λ m b. 256 * m + b) n bytes

digits_read : (n : ℕ) (bytes : List ℕ) → IsBytes bytes → fold with_digit (Some n) (encode_lower bytes) ≡ Some (number_from n bytes)
unfolding encode_with
digits_read n [] are = refl
digits_read n (b ∷ bytes) are =
    let byte : b < 256 = are 0 in
    let high = IsDigits-lower_digits (b / 16) (omega (arith, byte)) in
    let low = IsDigits-lower_digits (b % 16) (omega arith) in
    let worth : 16 * (16 * n + b / 16) + b % 16 ≡ 256 * n + b = omega arith in
    ap (λ o. fold with_digit (with_digit (option_map (λ d. 16 * n + d) o) (slice_index lower_digits (b % 16))) (encode_lower bytes)) high
    ∙ ap (λ o. fold with_digit (option_map (λ d. 16 * (16 * n + b / 16) + d) o) (encode_lower bytes)) low
    ∙ ap (λ m. fold with_digit (Some m) (encode_lower bytes)) worth
    ∙ digits_read (256 * n + b) bytes (λ i. are (suc i))

number_again : (n : ℕ) → n < 2 ^ 64 → number_of (encode_lower (to_be_bytes w64 n)) ≡ Some n
number_again n fits =
    let whole : number_from 0 (to_be_bytes w64 n) ≡ from_be_bytes w64 (to_be_bytes w64 n) = omega arith in
    digits_read 0 (to_be_bytes w64 n) (bytes_fit 8 n) ∙ ap (λ (m : ℕ). Some m) (whole ∙ from_be_bytes-to_be_bytes_8 n fits)

digits_again : (n : ℕ) → n < 2 ^ 64 → digits_number (encode_lower (to_be_bytes w64 n)) ≡ Some n
digits_again n fits =
    let long : length (encode_lower (to_be_bytes w64 n)) ≡ 16 = length-encode_with lower_digits (to_be_bytes w64 n) in
    rw long (number_again n fits)

pub base_again : (n : ℕ) → (m : ℕ) × (PAGE * m ≡ n) → n ≤ BASE_LIMIT → base_of (base_word n) ≡ Some n
unfolding base_of
base_again n page limit =
    let digits = encode_lower (to_be_bytes w64 n) in
    let whole : (n % PAGE == 0) ≡ true = (Decides-eqb (n % PAGE) 0).1 (let e = page.1 in omega (arith, e)) in
    let most : nat_le n BASE_LIMIT ≡ true = le-leb n BASE_LIMIT limit in
    ap (λ (o : Option (List ℕ)). option_and_then base_if (option_and_then digits_number o)) (after_prefix-append (codes "0x") digits)
    ∙ ap (option_and_then base_if) (digits_again n (omega (arith, limit)))
    ∙ rw (whole, most) refl
