-- Writes into a file, and a window of the file that shows them. For the contracts inside this crate alone.
use Rattle.std.specs.Prelude.{ℕ, ◌+◌, ◌-◌, ◌≡◌, ◌<◌, if◌then◌else◌, nat_lt, List, [], ◌∷◌, length, slice_index}
use Rattle.kl_model.specs.Image.{is_within}
use Rattle.kl_model.specs.Written.{byte_of}

-- so many bytes from a place of the file on
pub record Write : Type 0 where
  pub place : ℕ
  pub count : ℕ
  pub byte : ℕ → ℕ

-- a text, one byte so many times, a text with zeros behind it, and the low bytes of a number
abbrev pub text_from : ℕ → List ℕ → Write
text_from place bytes = record { place = place; count = length bytes; byte = slice_index bytes }

abbrev pub same_from : ℕ → ℕ → ℕ → Write
same_from place count byte = record { place = place; count = count; byte = λ k. byte }

abbrev pub padded_from : ℕ → ℕ → List ℕ → Write
padded_from place count bytes = record { place = place; count = count; byte = λ k. if nat_lt k (length bytes) then slice_index bytes k else 0 }

abbrev pub number_from : ℕ → ℕ → ℕ → Write
number_from place width n = record { place = place; count = width; byte = byte_of n }

-- the byte at a place of the file behind writes: that of the last one that has the place, and else what was there before
abbrev pub written : ℕ → List Write → ℕ → ℕ
written before [] q = before
written before (w ∷ ws) q = written (if is_within w.place w.count q then w.byte (q - w.place) else before) ws q

-- the window from a place of the file on shows writes
pub record Shows (old new : List ℕ) (at : ℕ) (ws : List Write) : Type 0 where
  pub long : length new ≡ length old
  pub bytes : (k : ℕ) → k < length old → slice_index new k ≡ written (slice_index old k) ws (at + k)
