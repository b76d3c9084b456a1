-- Names of symbols as they are printed.
use Rattle.std.specs.Prelude.{ℕ, Bool, not, ◌&&◌, ◌==◌, nat_le, if◌then◌else◌, List, [], ◌∷◌, ◌++◌, codes}
use Rattle.std.specs.List.{flat_map}
use Rattle.hex.specs.Hex.{encode_lower}

-- a byte that is printed as it is: visible ASCII, but for the backslash
abbrev pub is_plain : ℕ → Bool
is_plain b = nat_le 0x21 b && (nat_le b 0x7e && not (b == 0x5c))

-- every other as `\x` and two hexadecimal digits, with lower-case letters
unfoldable pub escaped_byte : ℕ → List ℕ
escaped_byte b = if is_plain b then b ∷ [] else codes "\\x" ++ encode_lower (b ∷ [])

abbrev pub escaped : List ℕ → List ℕ
escaped name = flat_map escaped_byte name
