-- The record of the kernel's digest: `SHA256 (/bsd) = `, 64 hexadecimal digits, and a newline.
use Rattle.std.specs.Prelude.{◌≡◌, ◌⊎◌, ◌+◌, ◌||◌, ◌==◌, ℕ, List, [], ◌∷◌, ◌++◌, length, take, drop, codes, Bool, true, if◌then◌else◌, Option, Some, None, Ok}
use Rattle.std.specs.Option.{option_or}
use Rattle.hex.specs.Hex.{encode_lower, decode_of, is_hex_digit}
use Rattle.kl_digest.specs.declared.record.RecordFault.{RecordFault}
use Rattle.kl_digest.specs.declared.record.RecordFault.TheVariants.{Length, Text, Digit, End}

-- the 16 bytes before the digits
abbrev pub record_prefix : List ℕ
record_prefix = codes "SHA256 (/bsd) = "

-- the record of a digest, in lower-case digits
abbrev pub record_of : List ℕ → List ℕ
record_of digest = record_prefix ++ encode_lower digest ++ 10 ∷ []

-- Bytes are a record of the digest where its digits, of either case, follow those 16 bytes, with or without a newline
-- behind them.
pub record IsRecord (digest bytes : List ℕ) : Type 0 where
  pub digits : List ℕ
  pub count : length digits ≡ 64
  pub value : decode_of digits ≡ Ok digest
  pub text : (bytes ≡ record_prefix ++ digits) ⊎ (bytes ≡ record_prefix ++ digits ++ 10 ∷ [])

-- the first place, counted from n, where the second list isn't the first
abbrev pub text_place : List ℕ → List ℕ → ℕ → Option ℕ
text_place [] bytes n = None
text_place (p ∷ ps) [] n = Some n
text_place (p ∷ ps) (b ∷ bs) n = if p == b then text_place ps bs (n + 1) else Some n

-- the first place, counted from n, that has no hexadecimal digit
abbrev pub digit_place : List ℕ → ℕ → Option ℕ
digit_place [] n = None
digit_place (b ∷ bs) n = if is_hex_digit b then digit_place bs (n + 1) else Some n

abbrev pub at_text : Option ℕ → Option RecordFault
at_text None = None
at_text (Some place) = Some (Text place)

abbrev pub at_digit : Option ℕ → Option RecordFault
at_digit None = None
at_digit (Some place) = Some (Digit place)

-- what follows the digits is nothing, or begins with a newline
abbrev pub is_end : List ℕ → Bool
is_end [] = true
is_end (b ∷ bs) = b == 10

-- the first fault that stands in 80 or 81 bytes: of the text, of a digit, of the end
abbrev pub content_fault : List ℕ → Option RecordFault
content_fault bytes =
    option_or (at_text (text_place record_prefix bytes 0))
    (option_or (at_digit (digit_place (take 64 (drop 16 bytes)) 16)) (if is_end (drop 80 bytes) then None else Some End))

-- the first fault that stands in the bytes: of their number, or of their content
abbrev pub record_fault : List ℕ → Option RecordFault
record_fault bytes = if length bytes == 80 || length bytes == 81 then content_fault bytes else Some (Length (length bytes))
