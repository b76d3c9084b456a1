-- What the table of relocation types says of those that no loader writes.
use Rattle.std.proofs.Common.{ℕ, ◌≡◌, ◌∙◌, List, [], ◌∷◌, refl, ap, sym, subst, arith, Bool, true, false, not, ◌||◌, inl, inr}
use Rattle.std.specs.Prelude.{Option, Some, None, find, ◌==◌}
use Rattle.std.specs.Option.{option_map_or}
use Rattle.std.specs.List.{list_all}
use Rattle.std.proofs.lemmas.Bool.{cases_Bool, eqb-true, eq-eqb}
use Rattle.kl_elf.specs.declared.abi.TheConstants.{R_X86_64_64, R_X86_64_NONE}
use Rattle.kl_model.specs.Relocations.{is_relative, relocation_type, width}
use Rattle.kl_model.specs.declared.relocation.RelocationType.{RelocationType}
use Rattle.kl_model.specs.declared.relocation.TheConstants.{RELOCATION_TYPES}

-- a row that is found passes each test that all rows pass
row_passes : (t q : RelocationType → Bool) (xs : List RelocationType) (x : RelocationType) → find t xs ≡ Some x → list_all q xs ≡ true → (q x ≡ true) × (t x ≡ true)
row_passes t q [] x e a = cc
row_passes t q (y ∷ ys) x e a =
    elim (cases_Bool (q y)) [
      | inr n ↦ (let no : false ≡ true = rw n at a in cc)
      | inl k ↦ elim (cases_Bool (t y)) [
        | inl s ↦ (let is : y ≡ x = some_is y x (rw s at e) in (subst (λ z. q z ≡ true) is k, subst (λ z. t z ≡ true) is s))
        | inr s ↦ row_passes t q ys x (rw s at e) (rw k at a)
      ]
    ]
  where
    some_is : (y x : RelocationType) → Some y ≡ Some x → y ≡ x
    some_is y x e = cc

either : (b c : Bool) → (b || c) ≡ true → b ≡ false → c ≡ true
either true c e f = cc
either false c e f = e

flip : (b : Bool) → b ≡ true → not b ≡ false
flip true e = refl
flip false e = cc

back : (b : Bool) → not b ≡ true → b ≡ false
back true e = cc
back false e = refl

-- the one type of eight bytes that doesn't subtract its place
wide_by : (kind : ℕ) (o : Option RelocationType) → relocation_type kind ≡ o → option_map_or (λ (row : RelocationType). row.width) o 0 ≡ 8 → option_map_or (λ (row : RelocationType). row.relative) o false ≡ false
    → kind ≡ R_X86_64_64
wide_by kind None e w f = absurd (omega (arith, w))
wide_by kind (Some row) e w f =
    let r = row_passes (λ (row : RelocationType). row.number == kind) (λ (row : RelocationType). not (row.width == 8) || (row.relative || (row.number == R_X86_64_64))) RELOCATION_TYPES row e refl in
    let eight : (row.width == 8) ≡ true = eq-eqb row.width 8 w in
    let one = either (not (row.width == 8)) (row.relative || (row.number == R_X86_64_64)) r.0 (flip (row.width == 8) eight) in
    let number = either row.relative (row.number == R_X86_64_64) one f in
    sym (eqb-true row.number kind r.1) ∙ eqb-true row.number R_X86_64_64 number

pub wide_is_64 : (kind : ℕ) → width kind ≡ 8 → is_relative kind ≡ false → kind ≡ R_X86_64_64
wide_is_64 kind w f = wide_by kind (relocation_type kind) refl w f

relative_by : (kind : ℕ) (o : Option RelocationType) → relocation_type kind ≡ o → option_map_or (λ (row : RelocationType). row.relative) o false ≡ true → (kind == R_X86_64_NONE) ≡ false
relative_by kind None e f = cc
relative_by kind (Some row) e f =
    let r = row_passes (λ (row : RelocationType). row.number == kind) (λ (row : RelocationType). not row.relative || not (row.number == R_X86_64_NONE)) RELOCATION_TYPES row e refl in
    let some = back (row.number == R_X86_64_NONE) (either (not row.relative) (not (row.number == R_X86_64_NONE)) r.0 (flip row.relative f)) in
    ap (λ n. n == R_X86_64_NONE) (sym (eqb-true row.number kind r.1)) ∙ some

-- a type that subtracts its place has a value
pub relative_some : (kind : ℕ) → is_relative kind ≡ true → (kind == R_X86_64_NONE) ≡ false
relative_some kind f = relative_by kind (relocation_type kind) refl f
