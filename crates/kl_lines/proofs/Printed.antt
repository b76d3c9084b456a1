-- Bytes of a name as they are printed.
use Rattle.std.proofs.Common.{◌≡◌, ℕ, true, false, [], ◌∷◌, refl}
use Rattle.hex.specs.Hex.{encode_lower}
use Rattle.kl_lines.specs.Escaped.{escaped_byte, is_plain}

pub plain_byte : (b : ℕ) → is_plain b ≡ true → escaped_byte b ≡ b ∷ []
unfolding escaped_byte
plain_byte b is = rw is refl

pub other_byte : (b : ℕ) → is_plain b ≡ false → escaped_byte b ≡ 92 ∷ 120 ∷ encode_lower (b ∷ [])
unfolding escaped_byte
other_byte b is = rw is refl
