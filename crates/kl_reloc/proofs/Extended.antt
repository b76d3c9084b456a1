-- A number is in range exactly where it is read back.
use Rattle.std.proofs.Common.{ℕ, ◌≡◌, ◌*◌, ◌<◌, ◌^◌, ◌%◌, ◌∙◌, refl, ap, sym, arith, Bool, true, inl, inr}
use Rattle.std.specs.Prelude.{◌==◌, ◌↔◌, Some, ℤ}
use Rattle.std.specs.Option.{option_map_or}
use Rattle.std.proofs.lemmas.Bool.{cases_Bool, or_cases}
use Rattle.std.proofs.Math.Bool.{or-true}
use Rattle.std.proofs.lemmas.Bool.Decides.{nat_tests}
use Rattle.std.proofs.lemmas.Int.{ints}
use Rattle.kl_elf.specs.declared.abi.TheConstants.{R_X86_64_NONE}
use Rattle.kl_model.specs.Reaches.{value}
use Rattle.kl_model.specs.Relocations.{is_in, is_relative, is_signed, is_unsigned, relocation_type}
use Rattle.kl_model.specs.declared.relocation.RelocationType.{RelocationType}
use Rattle.kl_model.specs.declared.relocation.ValueRange.{ValueRange}
use Rattle.kl_model.specs.declared.relocation.ValueRange.TheVariants.{Any, Unsigned, Signed, Either}
use Rattle.kl_reloc.specs.ReadBack.{AreReadBack, AreSigned, IsReadBack, LiesWithin, bits_of, range_of, sign_extended, zero_extended}
use Rattle.kl_reloc.proofs.Rows.{IsNarrowWidth, is_fitting, is_narrow, is_wide, row_at, row_fits, row_number, row_range, row_width, some_or_none}

-- one width, without a sign and with one
module _ (v : ℕ) where
  unsigned_8 : (is_unsigned v 8 ≡ true) ↔ (v % 2 ^ 8 ≡ v)
  unsigned_8 = (λ h. grind (arith, nat_tests), λ h. grind (arith, nat_tests))

  unsigned_16 : (is_unsigned v 16 ≡ true) ↔ (v % 2 ^ 16 ≡ v)
  unsigned_16 = (λ h. grind (arith, nat_tests), λ h. grind (arith, nat_tests))

  unsigned_32 : (is_unsigned v 32 ≡ true) ↔ (v % 2 ^ 32 ≡ v)
  unsigned_32 = (λ h. grind (arith, nat_tests), λ h. grind (arith, nat_tests))

module _ (v : ℕ) (small : v < 2 ^ 64) where
  signed_8 : (is_signed v 8 ≡ true) ↔ (sign_extended 8 v ≡ v)
  signed_8 = (λ h. grind (arith, nat_tests), λ h. grind (arith, nat_tests))

  signed_16 : (is_signed v 16 ≡ true) ↔ (sign_extended 16 v ≡ v)
  signed_16 = (λ h. grind (arith, nat_tests), λ h. grind (arith, nat_tests))

  signed_32 : (is_signed v 32 ≡ true) ↔ (sign_extended 32 v ≡ v)
  signed_32 = (λ h. grind (arith, nat_tests), λ h. grind (arith, nat_tests))

  whole_64 : v % 2 ^ 64 ≡ v
  whole_64 = omega arith

  -- with its sign
  between_8 : (is_signed v 8 ≡ true) ↔ LiesWithin 8 v
  between_8 = (λ h. (grind (arith, ints, nat_tests), grind (arith, ints, nat_tests)), λ h. grind (arith, ints, nat_tests))

  between_16 : (is_signed v 16 ≡ true) ↔ LiesWithin 16 v
  between_16 = (λ h. (grind (arith, ints, nat_tests), grind (arith, ints, nat_tests)), λ h. grind (arith, ints, nat_tests))

  between_32 : (is_signed v 32 ≡ true) ↔ LiesWithin 32 v
  between_32 = (λ h. (grind (arith, ints, nat_tests), grind (arith, ints, nat_tests)), λ h. grind (arith, ints, nat_tests))

  -- each width that a narrow field has
  unsigned_is : (w : ℕ) → IsNarrowWidth w → (is_unsigned v (8 * w) ≡ true) ↔ (zero_extended (8 * w) v ≡ v)
  unsigned_is w (inl e) = rw e (unsigned_8 v)
  unsigned_is w (inr (inl e)) = rw e (unsigned_16 v)
  unsigned_is w (inr (inr e)) = rw e (unsigned_32 v)

  signed_is : (w : ℕ) → IsNarrowWidth w → (is_signed v (8 * w) ≡ true) ↔ (sign_extended (8 * w) v ≡ v)
  signed_is w (inl e) = rw e signed_8
  signed_is w (inr (inl e)) = rw e signed_16
  signed_is w (inr (inr e)) = rw e signed_32

  between_is : (w : ℕ) → IsNarrowWidth w → (is_signed v (8 * w) ≡ true) ↔ LiesWithin (8 * w) v
  between_is w (inl e) = rw e between_8
  between_is w (inr (inl e)) = rw e between_16
  between_is w (inr (inr e)) = rw e between_32

  read_is : (r : ValueRange) (n w : ℕ) → is_fitting r n w ≡ true → (n ≡ R_X86_64_NONE → v ≡ 0) → (is_in r v (8 * w) ≡ true) ↔ IsReadBack r (8 * w) v
  read_is Any n w fit none = (λ h. elim (is_wide n w fit) [ inl e ↦ rw e whole_64 | inr e ↦ rw (e.1, none e.0) refl ], λ h. refl)
  read_is Unsigned n w fit none = unsigned_is w (is_narrow w fit)
  read_is Signed n w fit none = signed_is w (is_narrow w fit)
  read_is Either n w fit none =
      let unsigned = unsigned_is w (is_narrow w fit) in
      let signed = signed_is w (is_narrow w fit) in (
        λ h. elim (or_cases _ _ h) [ inl a ↦ inl (unsigned.0 a) | inr a ↦ inr (signed.0 a) ],
        λ h. elim h [ inl a ↦ rw (unsigned.1 a) refl | inr a ↦ (rw (signed.1 a) (or-true _)) ],
      )

value-none : (kind s p : ℕ) (a : ℤ) → kind ≡ R_X86_64_NONE → value kind s a p ≡ 0
value-none kind s p a e = rw e refl

value-small : (kind s p : ℕ) (a : ℤ) → value kind s a p < 2 ^ 64
value-small kind s p a = elim (cases_Bool (kind == R_X86_64_NONE)) [
  | inl e ↦ rw e (omega arith)
  | inr e ↦ elim (cases_Bool (is_relative kind)) [ inl f ↦ rw (e, f) (omega arith) | inr f ↦ rw (e, f) (omega arith) ]
]

module _ (x y : Bool) (same : x ≡ y) (r q : ValueRange) (is : r ≡ q) (b d : ℕ) (bits : b ≡ d) (v : ℕ) where
  read_along : (y ≡ true) ↔ IsReadBack q d v → (x ≡ true) ↔ IsReadBack r b v
  read_along h = rw (same, is, bits) h

  within_along : (y ≡ true) ↔ LiesWithin d v → (x ≡ true) ↔ LiesWithin b v
  within_along h = rw (same, bits) h

module _ (kind : ℕ) (row : RelocationType) (is : relocation_type kind ≡ Some row) where
  range : range_of kind ≡ row.range
  range = ap (λ o. option_map_or (λ x. x.range) o Any) is

  bits : bits_of kind ≡ 8 * row.width
  bits = ap (λ w. 8 * w) (row_width kind row is)

pub are_read_back : AreReadBack
are_read_back kind s p a linked =
    let found = row_at kind linked in
    let row = found.0 in
    let v = value kind s a p in
    read_along _ _ (row_range kind row found.1 v) _ _ (range kind row found.1) _ _ (bits kind row found.1) v
    (read_is v (value-small kind s p a) row.range row.number row.width (row_fits kind row found.1) (λ e. value-none kind s p a (sym (row_number kind row found.1) ∙ e)))

pub are_signed : AreSigned
are_signed kind v signed small = elim (some_or_none (relocation_type kind)) [
  | inl none ↦ let no : Any ≡ Signed = sym (ap (λ o. option_map_or (λ x. x.range) o Any) none) ∙ signed in cc
  | inr found ↦
      let row = found.0 in
      let is : row.range ≡ Signed = sym (range kind row found.1) ∙ signed in
      let fit : is_fitting Signed row.number row.width ≡ true = rw is at (row_fits kind row found.1) in
      within_along _ _ (row_range kind row found.1 v ∙ ap (λ r. is_in r v (8 * row.width)) is) Any Any refl _ _ (bits kind row found.1) v
      (between_is v small row.width (is_narrow row.width fit))
]
