-- Symbols and relocation entries that are read from bytes are written as those bytes.
use Rattle.std.proofs.Common.{ℕ, zero, suc, ◌≡◌, ◌^◌, ◌<◌, ◌∙◌, List, length, refl, ap, sym, arith}
use Rattle.std.specs.Int.{cast_signed, cast_unsigned, w64}
use Rattle.std.proofs.Math.Nat.{pow-succ'}
use Rattle.std.proofs.lemmas.Int.{of_z-to_z}
use Rattle.kl_le.specs.Bytes.{num}
use Rattle.kl_elf.specs.Records.{sym_at, rela_at}
use Rattle.kl_elf.specs.declared.records.Sym.{Sym}
use Rattle.kl_elf.specs.declared.records.Rela.{Rela}
use Rattle.kl_model.specs.Written.{bytes_of, sym_bytes, rela_bytes}
use Rattle.kl_draw.proofs.RecordBytes.{AreBytes, then, ends}

-- a number that is read of bytes fits its width
number_fits : (b : List ℕ) (at w : ℕ) → AreBytes b → num b at w < 256 ^ w
unfolding num
number_fits b at zero are = omega arith
number_fits b at (suc w) are = rw (pow-succ' 256 w) (omega (arith, are at, number_fits b (suc at) w are))

pub symbol_is : (b : List ℕ) (y : Sym) → AreBytes b → length b ≡ 24 → sym_at b 0 ≡ y → b ≡ sym_bytes y
symbol_is b y are long e =
    then b 0 4 4 _ are refl (omega (arith, long))
    (then b 4 5 1 _ are refl (omega (arith, long))
    (then b 5 6 1 _ are refl (omega (arith, long))
    (then b 6 8 2 _ are refl (omega (arith, long))
    (then b 8 16 8 _ are refl (omega (arith, long))
    (ends b 16 8 are (omega (arith, long)))))))
    ∙ ap sym_bytes e

pub entry_is : (b : List ℕ) (r : Rela) → AreBytes b → length b ≡ 24 → rela_at b 0 ≡ r → b ≡ rela_bytes r
entry_is b r are long e =
    let low : cast_unsigned w64 (cast_signed w64 (num b 16 8)) ≡ num b 16 8 = of_z-to_z w64 (num b 16 8) (number_fits b 16 8 are) in
    then b 0 8 8 _ are refl (omega (arith, long))
    (then b 8 16 8 _ are refl (omega (arith, long))
    (ends b 16 8 are (omega (arith, long)) ∙ ap (bytes_of 8) (sym low)))
    ∙ ap rela_bytes e
