-- The fields of a header: texts that spaces fill up, and decimal numbers.
use Rattle.std.specs.Prelude.{ℕ, ◌+◌, ◌*◌, ◌-◌, Bool, true, false, not, ◌&&◌, ◌==◌, if◌then◌else◌, List, [], ◌∷◌, fold, take, drop, Option, Some, None}
use Rattle.std.specs.Char.{is_ascii_digit}
use Rattle.std.specs.List.{list_all}
use Rattle.std.specs.Str.{byte}
use Rattle.kl_ar.specs.declared.format.TheConstants.{RADIX}

abbrev pub is_empty : {X : Type 0} → List X → Bool
is_empty [] = true
is_empty (x ∷ xs) = false

-- so many bytes from a place on
abbrev pub bytes_at : List ℕ → ℕ → ℕ → List ℕ
bytes_at b at len = take len (drop at b)

-- bytes without those at their end that are this byte
abbrev pub cut_byte : ℕ → ℕ → List ℕ → List ℕ
cut_byte byte c [] = if c == byte then [] else c ∷ []
cut_byte byte c (d ∷ rest) = c ∷ d ∷ rest

abbrev pub without_end : ℕ → List ℕ → List ℕ
without_end byte [] = []
without_end byte (c ∷ rest) = cut_byte byte c (without_end byte rest)

-- the text of a field
unfoldable pub text_of : List ℕ → List ℕ
text_of field = without_end (byte " ") field

-- the number of decimal digits
abbrev pub with_digit : ℕ → ℕ → ℕ
with_digit number digit = RADIX * number + (digit - byte "0")

abbrev pub number_of : List ℕ → ℕ
number_of digits = fold with_digit 0 digits

-- the number of a text of decimal digits and nothing else, of which there is one at least
unfoldable pub decimal_of : List ℕ → Option ℕ
decimal_of text = if not (is_empty text) && list_all is_ascii_digit text then Some (number_of text) else None
