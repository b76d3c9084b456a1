-- The first fault of bytes that are no record.
use Rattle.std.specs.Prelude.{◌≡◌, ◌≢◌, ◌⊎◌, ◌<◌, ◌+◌, ℕ, List, [], ◌∷◌, ◌++◌, length, true, false}
use Rattle.std.specs.List.{list_all}
use Rattle.hex.specs.Hex.{is_hex_digit}
use Rattle.kl_digest.specs.declared.record.RecordFault.{RecordFault}
use Rattle.kl_digest.specs.declared.record.RecordFault.TheVariants.{Length, Text, Digit, End}
use Rattle.kl_digest.specs.Records.{record_prefix}

-- the byte at the place is the first one that differs from what a record begins with
pub record IsTextFault (bytes : List ℕ) (place : ℕ) : Type 0 where
  pub before : List ℕ
  pub byte : ℕ
  pub behind : List ℕ
  pub wanted : ℕ
  pub more : List ℕ
  pub text : bytes ≡ before ++ byte ∷ behind
  pub prefix : record_prefix ≡ before ++ wanted ∷ more
  pub differs : byte ≢ wanted
  pub count : place ≡ length before

-- the byte at the place is no hexadecimal digit, and fewer than 64 digits stand between it and what a record begins with
pub record IsDigitFault (bytes : List ℕ) (place : ℕ) : Type 0 where
  pub digits : List ℕ
  pub byte : ℕ
  pub behind : List ℕ
  pub text : bytes ≡ record_prefix ++ digits ++ byte ∷ behind
  pub each : list_all is_hex_digit digits ≡ true
  pub wrong : is_hex_digit byte ≡ false
  pub few : length digits < 64
  pub count : place ≡ 16 + length digits

-- behind the 64 digits stands another byte than a newline
pub record IsEndFault (bytes : List ℕ) : Type 0 where
  pub digits : List ℕ
  pub byte : ℕ
  pub text : bytes ≡ record_prefix ++ digits ++ byte ∷ []
  pub each : list_all is_hex_digit digits ≡ true
  pub count : length digits ≡ 64
  pub wrong : byte ≢ 10

abbrev pub HasSize : List ℕ → Type 0
HasSize bytes = (length bytes ≡ 80) ⊎ (length bytes ≡ 81)

-- This is the first fault of the bytes: what stands before it is right.
abbrev pub IsFirstFault : List ℕ → RecordFault → Type 0
IsFirstFault bytes (Length found) = (found ≡ length bytes) × (found ≢ 80) × (found ≢ 81)
IsFirstFault bytes (Text place) = HasSize bytes × IsTextFault bytes place
IsFirstFault bytes (Digit place) = HasSize bytes × IsDigitFault bytes place
IsFirstFault bytes End = IsEndFault bytes
