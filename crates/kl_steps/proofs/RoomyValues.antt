-- Values near their places are in range: numbers of four bytes with a sign, modulo 2^64.
use Rattle.std.proofs.Common.{ℕ, ◌≡◌, ◌+◌, ◌-◌, ◌*◌, ◌%◌, ◌^◌, ◌<◌, ◌≤◌, List, [], ◌∷◌, refl, subst, arith, Bool, true, false, not, ◌&&◌, inl, inr, nat_lt}
use Rattle.std.specs.Prelude.{FitsSigned, ℤ, pos, negsuc, ◌-ℤ◌, Option, Some, None, find, ◌==◌, ◌||◌}
use Rattle.std.specs.Int.{cast_unsigned, w64}
use Rattle.std.specs.List.{list_all}
use Rattle.std.specs.Option.{option_map_or}
use Rattle.std.proofs.lemmas.Bool.{cases_Bool, cases_lt, eqb-true, le-leb, lt-ltb}
use Rattle.std.proofs.lemmas.Int.{ints}
use Rattle.kl_base.specs.declared.limits.TheConstants.{BASE_LIMIT, NEAR_LIMIT, SPAN_LIMIT}
use Rattle.kl_model.specs.Reaches.{less, plus}
use Rattle.kl_model.specs.Relocations.{in_range, is_in, is_signed, is_slot_kind, relocation_type}
use Rattle.kl_model.specs.Roomy.{IsNear, LiesBetween, high_memory}
use Rattle.kl_model.specs.declared.relocation.RelocationType.{RelocationType}
use Rattle.kl_model.specs.declared.relocation.TheConstants.{RELOCATION_TYPES}
use Rattle.kl_model.specs.declared.relocation.ValueRange.{ValueRange}
use Rattle.kl_model.specs.declared.relocation.ValueRange.TheVariants.{Any, Unsigned, Signed, Either}

or_right : (a b : Bool) → b ≡ true → (a || b) ≡ true
or_right true b e = refl
or_right false b e = e

or_left : (a b : Bool) → a ≡ true → (a || b) ≡ true
or_left true b e = refl
or_left false b e = cc

-- a small number, and one shortly before 2^64
low_signed : (v : ℕ) → v < 2 ^ 31 → is_signed v 32 ≡ true
low_signed v l = or_left (nat_lt v (2 ^ 31)) _ (lt-ltb v (2 ^ 31) l)

high_signed : (v : ℕ) → high_memory ≤ v → is_signed v 32 ≡ true
high_signed v l = or_right (nat_lt v (2 ^ 31)) _ (le-leb high_memory v l)

-- how far an offset and an addend lie from 0
near_pos : (k m : ℕ) → IsNear k (pos m) → k + m ≤ NEAR_LIMIT
near_pos k m h = omega (arith, ints, h.1)

near_neg : (k m : ℕ) → IsNear k (negsuc m) → (m + 1 ≤ k + NEAR_LIMIT) × (k ≤ m + 1 + NEAR_LIMIT)
near_neg k m h = (omega (arith, ints, h.0), omega (arith, ints, h.1))

fits_neg : (m : ℕ) → FitsSigned w64 (negsuc m) → m < 2 ^ 63
fits_neg m f = omega (arith, f)

-- a sum modulo 2^64 less a place modulo 2^64
sum_of : (x m : ℕ) → plus (x % 2 ^ 64) m ≡ (x + m) % 2 ^ 64
sum_of x m = omega arith

ahead : (x p : ℕ) → p ≤ x → x < p + 2 ^ 64 → less (x % 2 ^ 64) (p % 2 ^ 64) ≡ x - p
ahead x p l h = omega (arith, l, h)

behind : (x p : ℕ) → x < p → p ≤ x + 2 ^ 64 → less (x % 2 ^ 64) (p % 2 ^ 64) ≡ 2 ^ 64 - (p - x)
behind x p l h = omega (arith, l, h)

-- what is added less what is taken, from a place that is near
apart_signed : (x p : ℕ) → x < p + 2 ^ 31 → p ≤ x + 2 ^ 31 → is_signed (less (x % 2 ^ 64) (p % 2 ^ 64)) 32 ≡ true
apart_signed x p l h = elim (cases_lt x p) [
  | inl b ↦ high_signed (less (x % 2 ^ 64) (p % 2 ^ 64)) (omega (arith, behind x p b (omega (arith, h)), b, h))
  | inr b ↦ low_signed (less (x % 2 ^ 64) (p % 2 ^ 64)) (omega (arith, ahead x p b (omega (arith, l)), b, l))
]

-- a target, an offset and an addend, from a place
pub relative_signed : (base s k p : ℕ) (a : ℤ) → FitsSigned w64 a → base ≤ s → s < base + 2 * SPAN_LIMIT → base ≤ p → p ≤ base + 2 * SPAN_LIMIT
    → IsNear k a → is_signed (less (plus ((s + k) % 2 ^ 64) (cast_unsigned w64 a)) (p % 2 ^ 64)) 32 ≡ true
relative_signed base s k p (pos m) f ls hs lp hp n =
    let near = near_pos k m n in
    rw (sum_of (s + k) m) (apart_signed (s + k + m) p (omega (arith, near, hs, lp)) (omega (arith, ls, hp)))
relative_signed base s k p (negsuc m) f ls hs lp hp n =
    let near = near_neg k m n in
    let small = fits_neg m f in
    let taken = cast_unsigned w64 (negsuc m) in
    let sum : plus ((s + k) % 2 ^ 64) (cast_unsigned w64 (negsuc m)) ≡ (s + k + taken) % 2 ^ 64 = omega arith in
    let place : p % 2 ^ 64 ≡ (p + 2 ^ 64) % 2 ^ 64 = omega arith in
    rw (sum, place)
    (apart_signed (s + k + taken) (p + 2 ^ 64) (omega (arith, near.1, hs, lp, small)) (omega (arith, near.0, ls, hp, small)))

-- a target near the top of memory, an offset and an addend
high_pos : (base k m : ℕ) → LiesBetween (pos high_memory -ℤ pos base) k (pos m) (pos NEAR_LIMIT) → k + m ≤ NEAR_LIMIT
high_pos base k m h = omega (arith, ints, h.1)

high_neg : (base k m : ℕ) → LiesBetween (pos high_memory -ℤ pos base) k (negsuc m) (pos NEAR_LIMIT)
    → (high_memory + (m + 1) ≤ base + k) × (k ≤ m + 1 + NEAR_LIMIT)
high_neg base k m h = (omega (arith, ints, h.0), omega (arith, ints, h.1))

-- a sum from the top of memory on, modulo 2^64
top_signed : (x : ℕ) → high_memory ≤ x → x < 2 ^ 64 + 2 ^ 31 → is_signed (x % 2 ^ 64) 32 ≡ true
top_signed x l h = elim (cases_lt x (2 ^ 64)) [
  | inl b ↦ (let same : x % 2 ^ 64 ≡ x = omega (arith, b) in rw same (high_signed x l))
  | inr b ↦ low_signed (x % 2 ^ 64) (omega (arith, b, h))
]

pub absolute_signed : (base s k : ℕ) (a : ℤ) → FitsSigned w64 a → high_memory ≤ base → base ≤ BASE_LIMIT → base ≤ s → s < base + 2 * SPAN_LIMIT
    → LiesBetween (pos high_memory -ℤ pos base) k a (pos NEAR_LIMIT) → is_signed (plus ((s + k) % 2 ^ 64) (cast_unsigned w64 a)) 32 ≡ true
absolute_signed base s k (pos m) f high limit ls hs n =
    let near = high_pos base k m n in
    rw (sum_of (s + k) m) (top_signed (s + k + m) (omega (arith, high, ls)) (omega (arith, near, limit, hs)))
absolute_signed base s k (negsuc m) f high limit ls hs n =
    let near = high_neg base k m n in
    let small = fits_neg m f in
    let x = s + k - (m + 1) in
    let sum : plus ((s + k) % 2 ^ 64) (cast_unsigned w64 (negsuc m)) ≡ x % 2 ^ 64 = omega (arith, near.0, ls, small) in
    rw sum (top_signed x (omega (arith, near.0, ls)) (omega (arith, near.1, limit, hs)))

-- a type that takes a slot holds four bytes with a sign
abbrev is_signed_range : ValueRange → Bool
is_signed_range Signed = true
is_signed_range _ = false

abbrev slot_row : RelocationType → Bool
slot_row row = not row.slot || ((row.width == 4) && is_signed_range row.range)

found_row : {X : Type 0} (t q : X → Bool) (xs : List X) (x : X) → find t xs ≡ Some x → list_all q xs ≡ true → q x ≡ true
found_row t q [] x e a = cc
found_row t q (y ∷ ys) x e a =
    elim (cases_Bool (q y)) [
      | inr n ↦ (let no : false ≡ true = rw n at a in cc)
      | inl k ↦ elim (cases_Bool (t y)) [
        | inl s ↦ (let is : y ≡ x = some_is y x (rw s at e) in subst (λ z. q z ≡ true) is k)
        | inr s ↦ found_row t q ys x (rw s at e) (rw k at a)
      ]
    ]
  where
    some_is : {X : Type 0} (y x : X) → Some y ≡ Some x → y ≡ x
    some_is y x e = cc

signed_row : (row : RelocationType) (v : ℕ) → slot_row row ≡ true → row.slot ≡ true → is_signed v 32 ≡ true
    → is_in row.range v (8 * row.width) ≡ true
signed_row row v form s e = rw (signed, wide) e
  where
    form_is : ((row.width == 4) && is_signed_range row.range) ≡ true
    form_is = rw s at form

    left : (a b : Bool) → (a && b) ≡ true → a ≡ true
    left true b e = refl
    left false b e = cc

    right : (a b : Bool) → (a && b) ≡ true → b ≡ true
    right true b e = e
    right false b e = cc

    signed_is : (r : ValueRange) → is_signed_range r ≡ true → r ≡ Signed
    signed_is Any e = cc
    signed_is Unsigned e = cc
    signed_is Signed e = refl
    signed_is Either e = cc

    wide : row.width ≡ 4
    wide = eqb-true row.width 4 (left (row.width == 4) (is_signed_range row.range) form_is)

    signed : row.range ≡ Signed
    signed = signed_is row.range (right (row.width == 4) (is_signed_range row.range) form_is)

by_row : (o : Option RelocationType) (v : ℕ) → ((row : RelocationType) → o ≡ Some row → slot_row row ≡ true)
    → option_map_or (λ (row : RelocationType). row.slot) o false ≡ true → is_signed v 32 ≡ true
    → option_map_or (λ (row : RelocationType). is_in row.range v (8 * row.width)) o false ≡ true
by_row None v form s e = cc
by_row (Some row) v form s e = signed_row row v (form row refl) s e

pub slot_range : (kind v : ℕ) → is_slot_kind kind ≡ true → is_signed v 32 ≡ true → in_range kind v ≡ true
slot_range kind v s e =
    let form = λ (row : RelocationType) (is : relocation_type kind ≡ Some row).
    found_row (λ (row : RelocationType). row.number == kind) slot_row RELOCATION_TYPES row is refl in
    by_row (relocation_type kind) v form s e
