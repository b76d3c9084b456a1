-- What holds of each row of the table of relocation types.
use Rattle.std.proofs.Common.{ℕ, ◌≡◌, ◌*◌, ◌≤◌, List, [], ◌∷◌, refl, ap, arith, Bool, true, false, ◌||◌, ◌&&◌, inl, inr, ◌⊎◌, eqb-true}
use Rattle.std.specs.Prelude.{◌==◌, find, is_some, IsTrue, Option, Some, None}
use Rattle.std.specs.Option.{option_map_or}
use Rattle.std.specs.List.{list_all}
use Rattle.std.proofs.lemmas.Bool.{cases_Bool, or_cases}
use Rattle.kl_elf.specs.declared.abi.TheConstants.{R_X86_64_NONE}
use Rattle.kl_model.specs.Relocations.{in_range, is_in, is_kind, is_relative, relocation_type, width}
use Rattle.kl_model.specs.declared.relocation.TheConstants.{RELOCATION_TYPES}
use Rattle.kl_model.specs.declared.relocation.RelocationType.{RelocationType}
use Rattle.kl_model.specs.declared.relocation.ValueRange.{ValueRange}
use Rattle.kl_model.specs.declared.relocation.ValueRange.TheVariants.{Any, Unsigned, Signed, Either}
use Rattle.kl_reloc.specs.Rows.{IsNarrow, is_field_width}

-- what is found passes the test, and what all pass
pub find-passes : {X : Type 0} (p : X → Bool) (xs : List X) (x : X) → find p xs ≡ Some x → p x ≡ true
find-passes p [] x e = cc
find-passes p (y ∷ ys) x e = elim (cases_Bool (p y)) [
  | inl a ↦ let is : Some y ≡ Some x = rw a at e in let same : y ≡ x = cc in rw (← same) a
  | inr a ↦ find-passes p ys x (rw a at e)
]

both_left : (a b : Bool) → (a && b) ≡ true → a ≡ true
both_left true b e = refl
both_left false b e = cc

both_right : (a b : Bool) → (a && b) ≡ true → b ≡ true
both_right true b e = e
both_right false b e = cc

pub find-all : {X : Type 0} (p q : X → Bool) (xs : List X) (x : X) → list_all q xs ≡ true → find p xs ≡ Some x → q x ≡ true
find-all p q [] x h e = cc
find-all p q (y ∷ ys) x h e = elim (cases_Bool (p y)) [
  | inl a ↦ let is : Some y ≡ Some x = rw a at e in let same : y ≡ x = cc in rw (← same) (both_left (q y) (list_all q ys) h)
  | inr a ↦ find-all p q ys x (both_right (q y) (list_all q ys) h) (rw a at e)
]

-- a field that can hold each number has 8 bytes, or it is that of NONE; the others have 1, 2 or 4
abbrev pub is_fitting : ValueRange → ℕ → ℕ → Bool
is_fitting Any n w = (w == 8) || ((n == R_X86_64_NONE) && (w == 0))
is_fitting Unsigned n w = (w == 1) || ((w == 2) || (w == 4))
is_fitting Signed n w = (w == 1) || ((w == 2) || (w == 4))
is_fitting Either n w = (w == 1) || ((w == 2) || (w == 4))

abbrev pub IsNarrowWidth : ℕ → Type 0
IsNarrowWidth w = (w ≡ 1) ⊎ ((w ≡ 2) ⊎ (w ≡ 4))

pub is_narrow : (w : ℕ) → ((w == 1) || ((w == 2) || (w == 4))) ≡ true → IsNarrowWidth w
is_narrow w h = elim (or_cases (w == 1) _ h) [
  | inl a ↦ inl (eqb-true w 1 a)
  | inr r ↦ elim (or_cases (w == 2) _ r) [ inl b ↦ inr (inl (eqb-true w 2 b)) | inr b ↦ inr (inr (eqb-true w 4 b)) ]
]

pub is_wide : (n w : ℕ) → is_fitting Any n w ≡ true → (w ≡ 8) ⊎ ((n ≡ R_X86_64_NONE) × (w ≡ 0))
is_wide n w h = elim (or_cases (w == 8) _ h) [
  | inl a ↦ inl (eqb-true w 8 a)
  | inr r ↦ inr (eqb-true n R_X86_64_NONE (both_left (n == R_X86_64_NONE) _ r), eqb-true w 0 (both_right (n == R_X86_64_NONE) _ r))
]

narrow_bounds : (w : ℕ) → IsNarrowWidth w → (1 ≤ w) × (w ≤ 4)
narrow_bounds w (inl e) = (omega arith, omega arith)
narrow_bounds w (inr (inl e)) = (omega arith, omega arith)
narrow_bounds w (inr (inr e)) = (omega arith, omega arith)

narrow_width : (w : ℕ) → IsNarrowWidth w → is_field_width w ≡ true
narrow_width w (inl e) = rw e refl
narrow_width w (inr (inl e)) = rw e refl
narrow_width w (inr (inr e)) = rw e refl

pub narrow : (r : ValueRange) (n w : ℕ) → is_fitting r n w ≡ true → IsNarrow r w
narrow Any n w h = tt
narrow Unsigned n w h = narrow_bounds w (is_narrow w h)
narrow Signed n w h = narrow_bounds w (is_narrow w h)
narrow Either n w h = narrow_bounds w (is_narrow w h)

pub field_width : (r : ValueRange) (n w : ℕ) → is_fitting r n w ≡ true → is_field_width w ≡ true
field_width Any n w h = elim (is_wide n w h) [ inl e ↦ rw e refl | inr e ↦ rw e.1 refl ]
field_width Unsigned n w h = narrow_width w (is_narrow w h)
field_width Signed n w h = narrow_width w (is_narrow w h)
field_width Either n w h = narrow_width w (is_narrow w h)

pub field_width-small : (w : ℕ) → is_field_width w ≡ true → w ≤ 8
field_width-small w h = grind arith

all_fit : list_all (λ row. is_fitting row.range row.number row.width) RELOCATION_TYPES ≡ true
all_fit = refl

-- the row of a type
module _ (kind : ℕ) (row : RelocationType) (is : relocation_type kind ≡ Some row) where
  pub row_fits : is_fitting row.range row.number row.width ≡ true
  row_fits = find-all (λ x. x.number == kind) (λ x. is_fitting x.range x.number x.width) RELOCATION_TYPES row all_fit is

  pub row_number : row.number ≡ kind
  row_number = eqb-true row.number kind (find-passes (λ x. x.number == kind) RELOCATION_TYPES row is)

  pub row_width : width kind ≡ row.width
  row_width = ap (λ o. option_map_or (λ x. x.width) o 0) is

  pub row_relative : is_relative kind ≡ row.relative
  row_relative = ap (λ o. option_map_or (λ x. x.relative) o false) is

  pub row_range : (v : ℕ) → in_range kind v ≡ is_in row.range v (8 * row.width)
  row_range v = ap (λ o. option_map_or (λ x. is_in x.range v (8 * x.width)) o false) is

-- a type is linked or it isn't
pub some_or_none : (o : Option RelocationType) → (o ≡ None) ⊎ ((row : RelocationType) × (o ≡ Some row))
some_or_none None = inl refl
some_or_none (Some row) = inr (row, refl)

some_row : (o : Option RelocationType) → is_some o ≡ true → (row : RelocationType) × (o ≡ Some row)
some_row None h = cc
some_row (Some row) h = (row, refl)

pub row_at : (kind : ℕ) → IsTrue (is_kind kind) → (row : RelocationType) × (relocation_type kind ≡ Some row)
row_at kind h = some_row (relocation_type kind) h
