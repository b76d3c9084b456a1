-- The numbers that are read back from fields.
use Rattle.std.specs.Prelude.{ℕ, ◌+◌, ◌-◌, ◌*◌, ◌%◌, ◌^◌, ◌<◌, ◌≡◌, ◌⊎◌, ◌↔◌, ℤ, pos, neg_ℤ, ◌≤ℤ◌, ◌<ℤ◌, if◌then◌else◌, nat_lt, IsTrue}
use Rattle.std.specs.Int.{cast_signed, w64}
use Rattle.std.specs.Option.{option_map_or}
use Rattle.kl_model.specs.Reaches.{value}
use Rattle.kl_model.specs.Relocations.{in_range, is_kind, relocation_type, width}
use Rattle.kl_model.specs.declared.relocation.ValueRange.{ValueRange}
use Rattle.kl_model.specs.declared.relocation.ValueRange.TheVariants.{Any, Unsigned, Signed, Either}

-- what the low w bits of a number are as a number of 64 bits, without a sign and with one
abbrev pub zero_extended : ℕ → ℕ → ℕ
zero_extended w v = v % 2 ^ w

abbrev pub sign_extended : ℕ → ℕ → ℕ
sign_extended w v = let low = v % 2 ^ w in if nat_lt low (2 ^ (w - 1)) then low else low + (2 ^ 64 - 2 ^ w)

-- w bits that hold the low bits of a number are read back as the number
abbrev pub IsReadBack : ValueRange → ℕ → ℕ → Type 0
IsReadBack Any w v = zero_extended w v ≡ v
IsReadBack Unsigned w v = zero_extended w v ≡ v
IsReadBack Signed w v = sign_extended w v ≡ v
IsReadBack Either w v = (zero_extended w v ≡ v) ⊎ (sign_extended w v ≡ v)

-- the range of a relocation type
abbrev pub range_of : ℕ → ValueRange
range_of kind = option_map_or (λ row. row.range) (relocation_type kind) Any

-- the width of its field, in bits
abbrev pub bits_of : ℕ → ℕ
bits_of kind = 8 * width kind

-- A field's value is in range exactly where what the field holds of it is read back as the value.
abbrev pub AreReadBack : Type 0
AreReadBack =
    (kind s p : ℕ) (a : ℤ) → IsTrue (is_kind kind)
    → IsTrue (in_range kind (value kind s a p)) ↔ IsReadBack (range_of kind) (bits_of kind) (value kind s a p)

-- a number of 64 bits lies with its sign from -2^(w-1) up to 2^(w-1)
abbrev pub LiesWithin : ℕ → ℕ → Type 0
LiesWithin w v = let z = cast_signed w64 v in (neg_ℤ (pos (2 ^ (w - 1))) ≤ℤ z) × (z <ℤ pos (2 ^ (w - 1)))

-- A number is in a signed range exactly where it lies within it.
abbrev pub AreSigned : Type 0
AreSigned = (kind v : ℕ) → range_of kind ≡ Signed → v < 2 ^ 64 → IsTrue (in_range kind v) ↔ LiesWithin (bits_of kind) v
