-- The low bytes of a number, written into a window.
use Rattle.std.proofs.Common.{ℕ, zero, suc, ◌≡◌, ◌+◌, ◌/◌, ◌^◌, ◌<◌, ◌≤◌, ◌∙◌, List, [], ◌∷◌, length, get_or, take, refl, ap, arith}
use Rattle.std.specs.Int.{bytes_low_first, to_le_bytes, w64}
use Rattle.std.proofs.lemmas.List.{get_or-take, length-take-le}
use Rattle.kl_model.specs.Written.{byte_of}
use Rattle.kl_write.proofs.Shown.{shows_as}
use Rattle.kl_write.specs.Windows.{Shows, number_from, text_from}

byte_low_first : (i k n j : ℕ) → j < k → get_or (bytes_low_first i k n) j 0 ≡ byte_of n (i + j)
byte_low_first i zero n j h = absurd (omega arith)
byte_low_first zero (suc k) n zero h = let one : n / 256 ^ 0 ≡ n = omega arith in rw one refl
byte_low_first (suc i) (suc k) n zero h = let z : suc i + 0 ≡ suc i = omega arith in rw z refl
byte_low_first i (suc k) n (suc j) h = let z : i + suc j ≡ suc i + j = omega arith in rw z (byte_low_first (suc i) k n j (omega arith))

length-bytes_low_first : (i k n : ℕ) → length (bytes_low_first i k n) ≡ k
length-bytes_low_first i zero n = refl
length-bytes_low_first i (suc k) n = ap suc (length-bytes_low_first (suc i) k n)

pub shows_number : (old new : List ℕ) (at place width n : ℕ) → width ≤ 8 → Shows old new at (text_from place (take width (to_le_bytes w64 n)) ∷ []) → Shows old new at (number_from place width n ∷ [])
shows_number old new at place width n h s =
    let eight : length (to_le_bytes w64 n) ≡ 8 = length-bytes_low_first 0 8 n in
    let long : length (take width (to_le_bytes w64 n)) ≡ width = length-take-le width (to_le_bytes w64 n) (omega (arith, eight, h)) in
    shows_as old new at (text_from place (take width (to_le_bytes w64 n))) (number_from place width n) s refl long
    (λ k l. let z : 0 + k ≡ k = omega arith in get_or-take width (to_le_bytes w64 n) k 0 (omega (arith, long, l)) ∙ rw z at (byte_low_first 0 8 n k (omega (arith, long, l, h))))
