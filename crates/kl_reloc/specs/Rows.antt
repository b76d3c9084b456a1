-- What the rows of the table of relocation types have in common.
use Rattle.std.specs.Prelude.{ℕ, ◌≤◌, Bool, ◌||◌, ◌==◌}
use Rattle.kl_le.specs.Bytes.{is_width}
use Rattle.kl_model.specs.declared.relocation.ValueRange.{ValueRange}
use Rattle.kl_model.specs.declared.relocation.ValueRange.TheVariants.{Any}

-- a field is 0, 1, 2, 4 or 8 bytes wide
abbrev pub is_field_width : ℕ → Bool
is_field_width w = (w == 0) || is_width w

-- a field that can't hold each number modulo 2^64 has from 1 to 4 bytes
abbrev pub IsNarrow : ValueRange → ℕ → Type 0
IsNarrow Any w = Unit {0}
IsNarrow _ w = (1 ≤ w) × (w ≤ 4)
