-- The lengths of texts in strings, as the loader keeps them. For the contracts inside this crate alone.
use Rattle.std.specs.Prelude.{ℕ, ◌+◌, ◌-◌, ◌*◌, ◌/◌, ◌<◌, ◌≡◌, ◌==◌, List, length, drop, slice_index}
use Rattle.std.specs.List.{position_or_len}
use Rattle.kl_image.specs.declared.string.Strings.{Strings}

-- how many bytes stand from a place on before the next zero byte, or before the end
abbrev pub text_len : List ℕ → ℕ → ℕ
text_len t k = position_or_len (λ c. c == 0) (drop k t)

-- by block of 64 bytes, from the last to the first, the length of the text that begins with it
pub record AreLens (t lens : List ℕ) : Type 0 where
  pub count : length lens ≡ (length t + 63) / 64
  pub each : (j : ℕ) → j < length lens → slice_index lens j ≡ text_len t (64 * (length lens - 1 - j))

-- the lengths are those of the texts
abbrev pub IsIndexed : Strings → Type 0
IsIndexed s = AreLens s.bytes.now s.lens.items
