-- Numbers and texts in bytes, as the gABI has them. What lies past the end reads as zero.
use Rattle.std.specs.Prelude.{ℕ, zero, suc, ◌+◌, ◌*◌, ◌≤◌, ◌<◌, ◌≡◌, ◌⊎◌, Bool, ◌==◌, ◌||◌, List, slice_index, drop}
use Rattle.std.specs.List.{before_first}

-- the little-endian number of the w bytes of b from `at` on
unfoldable pub num : List ℕ → ℕ → ℕ → ℕ
num b at zero = 0
num b at (suc w) = slice_index b at + 256 * num b (suc at) w

-- the bytes from `at` up to the next zero byte
abbrev pub text : List ℕ → ℕ → List ℕ
text b at = before_first (λ c. c == 0) (drop at b)

-- a field is 1, 2, 4 or 8 bytes wide
abbrev pub is_width : ℕ → Bool
is_width w = (w == 1) || (w == 2) || (w == 4) || (w == 8)

-- x is one of the n numbers from `at` on
abbrev pub Within : ℕ → ℕ → ℕ → Type 0
Within at n x = (at ≤ x) × (x < at + n)

-- x is none of the n numbers from `at` on
abbrev pub Outside : ℕ → ℕ → ℕ → Type 0
Outside at n x = (x < at) ⊎ (at + n ≤ x)

-- new differs from old in the n bytes from `at` on at most
pub record ChangesWithin (old new : List ℕ) (at n : ℕ) : Type 0 where
  pub others : (k : ℕ) → Outside at n k → slice_index new k ≡ slice_index old k
