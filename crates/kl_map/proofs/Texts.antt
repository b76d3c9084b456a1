-- Parts of a text that are known from the whole.
use Rattle.std.proofs.Common.{◌≡◌, ◌==◌, ℕ, zero, suc, ◌^◌, ◌<◌, true, false, List, [], ◌∷◌, ◌++◌, length, refl, sym, ◌∙◌, ap, arith, decimal, None}
use Rattle.std.specs.Int.{to_be_bytes, from_be_bytes, bytes_high_first, byte_at, w64}
use Rattle.std.specs.Str.Parse.{AllDigits}
use Rattle.std.proofs.lemmas.Bool.{ne_eqb}
use Rattle.std.proofs.lemmas.Fmt.{decimal_injective, decimal_is_IsNumeral}
use Rattle.std.proofs.lemmas.Nat.{from_be_bytes-to_be_bytes_8}
use Rattle.std.proofs.lemmas.Str.Parse.{digit_at}
use Rattle.hex.specs.Hex.{IsBytes, decode_of, encode_lower, lower_digits}
use Rattle.hex.proofs.HexLemmas.{length-encode_with, decode_of-encode_lower}
use Rattle.kl_base.specs.Names.{name_fault}
use Rattle.kl_base.proofs.Joined.{name_bytes}
use Rattle.kl_text.specs.Lines.{lacks}
use Rattle.kl_text.proofs.Cuts.{same_cut, path-lacks}
use Rattle.kl_map.specs.MapText.{hexadecimal}

-- two texts with their rests
abbrev pub Alike : (xs ys a b : List ℕ) → Type 0
Alike xs ys a b = (xs ≡ ys) × (a ≡ b)

-- the part of a known length
pub same_front : (xs ys a b : List ℕ) → length xs ≡ length ys → xs ++ a ≡ ys ++ b → Alike xs ys a b
same_front [] [] a b n e = (refl, e)
same_front [] (y ∷ ys) a b n e = absurd (omega arith)
same_front (x ∷ xs) [] a b n e = absurd (omega arith)
same_front (x ∷ xs) (y ∷ ys) a b n e =
    let tails : xs ++ a ≡ ys ++ b = cc in
    let first : x ≡ y = cc in
    let rest = same_front xs ys a b (omega arith) tails in
    let whole : x ∷ xs ≡ y ∷ ys = cc in
    (whole, rest.1)

-- a decimal number has digits alone
digits_lack : (value : ℕ) (ds : List ℕ) → value < 48 → AllDigits 10 ds → lacks value ds ≡ true
digits_lack value [] low digits = refl
digits_lack value (d ∷ ds) low digits =
    let range = digit_at (d ∷ ds) 0 digits (omega arith) in
    let other : (d == value) ≡ false = ne_eqb d value (λ e. omega (arith, range.0, e)) in
    rw (other, digits_lack value ds low digits.1) refl

pub decimal_lacks : (value n : ℕ) → value < 48 → n < 2 ^ 64 → lacks value (decimal n) ≡ true
decimal_lacks value n low fits = digits_lack value (decimal n) low (decimal_is_IsNumeral n fits).0.1

-- a number before a space
pub same_number : (m n : ℕ) (a b : List ℕ) → m < 2 ^ 32 → n < 2 ^ 32
    → decimal m ++ 32 ∷ a ≡ decimal n ++ 32 ∷ b → (m ≡ n) × (a ≡ b)
same_number m n a b small little e =
    let fits : m < 2 ^ 64 = omega arith in
    let suits : n < 2 ^ 64 = omega arith in
    let parts = same_cut 32 (decimal m) (decimal n) a b (decimal_lacks 32 m (omega arith) fits) (decimal_lacks 32 n (omega arith) suits) e in
    (decimal_injective m n fits suits parts.0, parts.1)

byte_fits : (k n : ℕ) → byte_at k n < 256
byte_fits zero n = omega arith
byte_fits (suc k) n = omega arith

-- the bytes of a number are bytes
pub bytes_fit : (k n : ℕ) → IsBytes (bytes_high_first k n)
bytes_fit zero n i = omega arith
bytes_fit (suc k) n zero = byte_fits k n
bytes_fit (suc k) n (suc i) = bytes_fit k n i

-- some bytes in digits
pub same_digits : (xs ys a b : List ℕ) → IsBytes xs → IsBytes ys → length xs ≡ length ys
    → encode_lower xs ++ a ≡ encode_lower ys ++ b → (xs ≡ ys) × (a ≡ b)
same_digits xs ys a b bytes octets n e =
    let long = length-encode_with lower_digits xs in
    let wide = length-encode_with lower_digits ys in
    let parts = same_front (encode_lower xs) (encode_lower ys) a b (omega (arith, long, wide)) e in
    let reads = decode_of-encode_lower xs bytes in
    let sees = decode_of-encode_lower ys octets in
    let both = ap decode_of parts.0 in
    let same : xs ≡ ys = cc in
    (same, parts.1)

-- an address
pub same_address : (m n : ℕ) (a b : List ℕ) → m < 2 ^ 64 → n < 2 ^ 64
    → hexadecimal m ++ a ≡ hexadecimal n ++ b → (m ≡ n) × (a ≡ b)
unfolding hexadecimal
same_address m n a b fits suits e =
    let digits : encode_lower (to_be_bytes w64 m) ++ a ≡ encode_lower (to_be_bytes w64 n) ++ b = cc in
    let parts = same_digits (to_be_bytes w64 m) (to_be_bytes w64 n) a b (bytes_fit 8 m) (bytes_fit 8 n) refl digits in
    let first = from_be_bytes-to_be_bytes_8 m fits in
    let second = from_be_bytes-to_be_bytes_8 n suits in
    (sym first ∙ ap (from_be_bytes w64) parts.0 ∙ second, parts.1)

-- a name has no newline
pub name_lacks : (name : List ℕ) → name_fault name ≡ None → lacks 10 name ≡ true
name_lacks name h = path-lacks 10 name (omega arith) (name_bytes name h)
