-- The relocation types that are linked (psABI, "Relocation Types"), as the table of the code has them.
use Rattle.std.specs.Prelude.{ℕ, ◌-◌, ◌*◌, ◌^◌, Bool, true, false, ◌||◌, ◌==◌, nat_lt, nat_le, find, Option, is_some}
use Rattle.std.specs.Option.{option_map_or}
use Rattle.kl_model.specs.declared.relocation.TheConstants.{RELOCATION_TYPES}
use Rattle.kl_model.specs.declared.relocation.RelocationType.{RelocationType}
use Rattle.kl_model.specs.declared.relocation.ValueRange.{ValueRange}
use Rattle.kl_model.specs.declared.relocation.ValueRange.TheVariants.{Any, Unsigned, Signed, Either}

-- the type of a number, where it is linked
abbrev pub relocation_type : ℕ → Option RelocationType
relocation_type kind = find (λ row. row.number == kind) RELOCATION_TYPES

abbrev pub is_kind : ℕ → Bool
is_kind kind = is_some (relocation_type kind)

-- how many bytes a field has
abbrev pub width : ℕ → ℕ
width kind = option_map_or (λ row. row.width) (relocation_type kind) 0

-- the types that subtract the place
abbrev pub is_relative : ℕ → Bool
is_relative kind = option_map_or (λ row. row.relative) (relocation_type kind) false

-- the types that need a slot of the global offset table
abbrev pub is_slot_kind : ℕ → Bool
is_slot_kind kind = option_map_or (λ row. row.slot) (relocation_type kind) false

-- a number modulo 2^64 that is one of w bits with a sign, and one without
abbrev pub is_signed : ℕ → ℕ → Bool
is_signed v w = nat_lt v (2 ^ (w - 1)) || nat_le (2 ^ 64 - 2 ^ (w - 1)) v

abbrev pub is_unsigned : ℕ → ℕ → Bool
is_unsigned v w = nat_lt v (2 ^ w)

-- a number modulo 2^64 is one that w bits can hold
abbrev pub is_in : ValueRange → ℕ → ℕ → Bool
is_in Any v w = true
is_in Unsigned v w = is_unsigned v w
is_in Signed v w = is_signed v w
is_in Either v w = is_unsigned v w || is_signed v w

-- a field of this type can hold a value
abbrev pub in_range : ℕ → ℕ → Bool
in_range kind v = option_map_or (λ row. is_in row.range v (8 * row.width)) (relocation_type kind) false
