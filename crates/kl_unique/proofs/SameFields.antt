-- Two memories in which a field leads to the same have the same number there.
use Rattle.std.proofs.Common.{ℕ, ◌≡◌, ◌+◌, ◌^◌, ◌<◌, ◌≤◌, ◌∙◌, ap, refl, sym, subst, arith, inl, inr}
use Rattle.std.specs.Prelude.{Option, if◌then◌else◌, ◌==◌}
use Rattle.std.specs.Int.{cast_unsigned, w64}
use Rattle.std.proofs.lemmas.Bool.{cases_Bool, cases_lt, eqb-true, le-ltb, lt-ltb}
use Rattle.kl_model.specs.Carries.{LeadsBy, Places}
use Rattle.kl_model.specs.Memory.{Cell, num_in}
use Rattle.kl_model.specs.Reaches.{less, plus, signed_4}
use Rattle.kl_model.specs.Relocations.{is_slot_kind, width}
use Rattle.kl_model.specs.Slots.{Way, Directly, BySlot, ByStub, Nowhere, way}
use Rattle.kl_model.specs.declared.graph.Field.{Field}
use Rattle.kl_model.specs.declared.graph.Target.{Target}
use Rattle.kl_model.specs.declared.graph.Target.TheVariants.{Place, Abs, Edge, Name, Zero, Gone}
use Rattle.kl_elf.specs.declared.abi.TheConstants.{R_X86_64_PLT32}
use Rattle.kl_write.proofs.SlotWords.{slot_type}
use Rattle.kl_unique.proofs.Fixed.{HasBytes, num_in_small}

-- four bytes from which one place is reached
plus_fixed : (p x y : ℕ) → x < 2 ^ 64 → y < 2 ^ 64 → plus p x ≡ plus p y → x ≡ y
plus_fixed p x y h l e = omega (arith, h, l, e)

less_fixed : (x y a : ℕ) → x < 2 ^ 64 → y < 2 ^ 64 → less x a ≡ less y a → x ≡ y
less_fixed x y a h l e = omega (arith, h, l, e)

plus_small : (p x : ℕ) → plus p x < 2 ^ 64
plus_small p x = omega arith

low : (n : ℕ) → n < 2 ^ 31 → signed_4 n ≡ n
low n h = rw (lt-ltb n 2147483648 h) refl

high : (n : ℕ) → 2 ^ 31 ≤ n → signed_4 n ≡ n + 18446744069414584320
high n h = rw (le-ltb n 2147483648 h) refl

signed_small : (n : ℕ) → n < 2 ^ 32 → signed_4 n < 2 ^ 64
signed_small n h = elim (cases_lt n 2147483648) [ inl l ↦ omega (arith, h, low n l) | inr l ↦ omega (arith, h, high n l) ]

signed_fixed : (n m : ℕ) → n < 2 ^ 32 → m < 2 ^ 32 → signed_4 n ≡ signed_4 m → n ≡ m
signed_fixed n m h l e = elim (cases_lt n 2147483648) [
  | inl a ↦ elim (cases_lt m 2147483648) [ inl b ↦ omega (arith, e, low n a, low m b) | inr b ↦ omega (arith, e, h, low n a, high m b) ]
  | inr a ↦ elim (cases_lt m 2147483648) [ inl b ↦ omega (arith, e, l, high n a, low m b) | inr b ↦ omega (arith, e, high n a, high m b) ]
]

pub four_fixed : (p a at n m : ℕ) → n < 2 ^ 32 → m < 2 ^ 32 → less (plus p (signed_4 n)) a ≡ at → less (plus p (signed_4 m)) a ≡ at → n ≡ m
four_fixed p a at n m h l d e =
    signed_fixed n m h l (plus_fixed p (signed_4 n) (signed_4 m) (signed_small n h) (signed_small m l)
    (less_fixed (plus p (signed_4 n)) (plus p (signed_4 m)) a (plus_small p (signed_4 n)) (plus_small p (signed_4 m)) (d ∙ sym e)))

-- a field that leads by a slot or a stub has four bytes
slot_or : (kind : ℕ) → (if is_slot_kind kind then BySlot else Directly) ≡ BySlot → width kind ≡ 4
slot_or kind e = elim (cases_Bool (is_slot_kind kind)) [
  | inl s ↦ (slot_type kind s).width
  | inr s ↦ let no : Directly ≡ BySlot = rw s at e in cc
]

never_stub : (kind : ℕ) → (if is_slot_kind kind then BySlot else Directly) ≡ ByStub → ⊥
never_stub kind e = elim (cases_Bool (is_slot_kind kind)) [
  | inl s ↦ let no : BySlot ≡ ByStub = rw s at e in cc
  | inr s ↦ let no : Directly ≡ ByStub = rw s at e in cc
]

slot_wide : (kind : ℕ) (t : Target) → way kind t ≡ BySlot → width kind ≡ 4
slot_wide kind (Place n k) e = slot_or kind e
slot_wide kind (Abs n) e = slot_or kind e
slot_wide kind (Edge n b) e = slot_or kind e
slot_wide kind (Name n) e = elim (cases_Bool (is_slot_kind kind)) [
  | inl s ↦ (slot_type kind s).width
  | inr s ↦ elim (cases_Bool (kind == R_X86_64_PLT32)) [
    | inl k ↦ let no : ByStub ≡ BySlot = rw (s, k) at e in cc
    | inr k ↦ let no : Directly ≡ BySlot = rw (s, k) at e in cc
  ]
]
slot_wide kind Zero e = slot_or kind e
slot_wide kind Gone e = cc

stub_wide : (kind : ℕ) (t : Target) → way kind t ≡ ByStub → width kind ≡ 4
stub_wide kind (Place n k) e = absurd (never_stub kind e)
stub_wide kind (Abs n) e = absurd (never_stub kind e)
stub_wide kind (Edge n b) e = absurd (never_stub kind e)
stub_wide kind (Name n) e = elim (cases_Bool (is_slot_kind kind)) [
  | inl s ↦ (slot_type kind s).width
  | inr s ↦ elim (cases_Bool (kind == R_X86_64_PLT32)) [
    | inl k ↦ ap width (eqb-true kind R_X86_64_PLT32 k)
    | inr k ↦ let no : Directly ≡ ByStub = rw (s, k) at e in cc
  ]
]
stub_wide kind Zero e = absurd (never_stub kind e)
stub_wide kind Gone e = cc

-- THE NUMBER OF A FIELD, by its way
module _ (m n : ℕ → Option Cell) (x : HasBytes m) (y : HasBytes n) (at : Places) (p : ℕ) (f : Field) (t : Target) where
  four_same : (place : ℕ) → less (plus p (signed_4 (num_in m p 4))) (cast_unsigned w64 f.addend) ≡ place
      → less (plus p (signed_4 (num_in n p 4))) (cast_unsigned w64 f.addend) ≡ place → num_in m p 4 ≡ num_in n p 4
  four_same place d e =
      four_fixed p (cast_unsigned w64 f.addend) place (num_in m p 4) (num_in n p 4) (omega (arith, num_in_small m p 4 x)) (omega (arith, num_in_small n p 4 y)) d e

  wide_same : width f.kind ≡ 4 → num_in m p 4 ≡ num_in n p 4 → num_in m p (width f.kind) ≡ num_in n p (width f.kind)
  wide_same wide e = subst (λ w. num_in m p w ≡ num_in n p w) (sym wide) e

  pub same_way : (w : Way) → way f.kind t ≡ w → LeadsBy m at p f t w → LeadsBy n at p f t w → num_in m p (width f.kind) ≡ num_in n p (width f.kind)
  same_way Directly e a b = a.bytes ∙ sym b.bytes
  same_way BySlot e a b = wide_same (slot_wide f.kind t e) (four_same (at.slot t) a.leads b.leads)
  same_way ByStub e a b = wide_same (stub_wide f.kind t e) (four_same (at.stub t) a.leads b.leads)
  same_way Nowhere e a b = a ∙ sym b
