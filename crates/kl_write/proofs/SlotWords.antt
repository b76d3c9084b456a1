-- Fields and slots as numbers in memory: a number from its bytes, slots by number, and the types that take slots.
use Rattle.std.proofs.Common.{ℕ, zero, suc, ◌≡◌, ◌+◌, ◌*◌, ◌/◌, ◌%◌, ◌^◌, ◌<◌, ◌∙◌, List, [], ◌∷◌, length, get_or, refl, ap, sym, subst, arith, Bool, true, false, not, inl, inr, ◌⊎◌, ◌&&◌}
use Rattle.std.specs.Prelude.{Some, None, Option, flat_map, find, ◌==◌, ◌||◌}
use Rattle.std.specs.Option.{option_map_or}
use Rattle.std.specs.List.{list_all, list_any, position_from}
use Rattle.std.proofs.lemmas.Bool.{cases_Bool, eqb-true}
use Rattle.std.proofs.lemmas.List.{get_or_append_left, get_or-append-add}
use Rattle.std.proofs.Math.Nat.{pow-succ', div-div-eq-div-mul, mul_comm}
use Rattle.std.proofs.Math.Arith.{mod-mul}
use Rattle.kl_elf.specs.declared.abi.TheConstants.{R_X86_64_NONE}
use Rattle.kl_model.specs.Memory.{Cell, byte_in, num_in}
use Rattle.kl_model.specs.Relocations.{in_range, is_in, is_relative, is_signed, is_slot_kind, relocation_type, width}
use Rattle.kl_model.specs.Slots.{same_target, slots, takes_slot, way_of}
use Rattle.kl_model.specs.Written.{byte_of, bytes_of}
use Rattle.kl_model.proofs.Covered.{In, here, there}
use Rattle.kl_model.proofs.ImageBytes.{byte-bytes_of, length-bytes_of}
use Rattle.kl_model.proofs.StandOnce.{slots_are, target-is, target-refl}
use Rattle.kl_model.specs.declared.graph.Field.{Field}
use Rattle.kl_model.specs.declared.graph.Graph.{Graph}
use Rattle.kl_model.specs.declared.graph.Target.{Target}
use Rattle.kl_model.specs.declared.relocation.RelocationType.{RelocationType}
use Rattle.kl_model.specs.declared.relocation.TheConstants.{RELOCATION_TYPES}
use Rattle.kl_model.specs.declared.relocation.ValueRange.{ValueRange}
use Rattle.kl_model.specs.declared.relocation.ValueRange.TheVariants.{Any, Unsigned, Signed, Either}

pub wide : (w : ℕ) → 0 < 256 ^ w
wide zero = omega arith
wide (suc w) = rw (pow-succ' 256 w) (omega (arith, wide w))

-- a number of a memory whose bytes stand in a row
pub num_in_bytes : (m : ℕ → Option Cell) (at w v : ℕ) → ((j : ℕ) → j < w → byte_in m (at + j) ≡ byte_of v j) → num_in m at w ≡ v % 256 ^ w
unfolding num_in
num_in_bytes m at zero v same = omega arith
num_in_bytes m at (suc w) v same =
    let first : byte_in m at ≡ v % 256 =
    (let e : at + 0 ≡ at = omega arith in let one : v / 256 ^ 0 ≡ v = omega arith in rw e at (same 0 (omega arith)) ∙ ap (λ n. n % 256) one) in
    let rest : num_in m (suc at) w ≡ v / 256 % 256 ^ w = num_in_bytes m (suc at) w (v / 256) (λ j l.
    let e : suc at + j ≡ at + suc j = omega arith in
    let quotient : v / 256 ^ suc j ≡ v / 256 / 256 ^ j = ap (λ n. v / n) (pow-succ' 256 j) ∙ sym (div-div-eq-div-mul v 256 (256 ^ j)) in
    rw e (same (suc j) (omega arith) ∙ ap (λ n. n % 256) quotient)) in
    let whole : v % (256 ^ w * 256) ≡ (v / 256 % 256 ^ w) * 256 + v % 256 = mod-mul v (wide w) (omega arith) in
    let power : 256 ^ suc w ≡ 256 ^ w * 256 = pow-succ' 256 w ∙ mul_comm 256 (256 ^ w) in
    rw (power, whole, first, rest) (omega arith)

-- words of eight bytes in a row
pub byte_of_words : {X : Type 0} (f : X → ℕ) (xs : List X) (k j : ℕ) (d : X) → k < length xs → j < 8 → get_or (flat_map (λ x. bytes_of 8 (f x)) xs) (8 * k + j) 0 ≡ byte_of (f (get_or xs k d)) j
byte_of_words f [] k j d h l = absurd (omega (arith, h))
byte_of_words f (x ∷ xs) zero j d h l =
    let z : 8 * 0 + j ≡ j = omega arith in
    rw z (get_or_append_left (bytes_of 8 (f x)) (flat_map (λ x. bytes_of 8 (f x)) xs) 0 j (omega (arith, l, length-bytes_of 8 (f x))) ∙ byte-bytes_of 8 (f x) j l)
byte_of_words f (x ∷ xs) (suc k) j d h l =
    let z : 8 * suc k + j ≡ length (bytes_of 8 (f x)) + (8 * k + j) = omega (arith, length-bytes_of 8 (f x)) in
    rw z (get_or-append-add (bytes_of 8 (f x)) (flat_map (λ x. bytes_of 8 (f x)) xs) (8 * k + j) 0 ∙ byte_of_words f xs k j d (omega (arith, h)) l)

-- some item passes a test
pub any_in : {X : Type 0} (p : X → Bool) (xs : List X) → list_any p xs ≡ true → (x : X) × In x xs × (p x ≡ true)
any_in p [] e = cc
any_in p (x ∷ xs) e =
    elim (cases_Bool (p x)) [
      | inl s ↦ (x, here, s)
      | inr s ↦ let r = any_in p xs (rw s at e) in (r.0, there r.1, r.2)
    ]

pub in_any : {X : Type 0} (p : X → Bool) (xs : List X) (x : X) → In x xs → p x ≡ true → list_any p xs ≡ true
in_any p [] x i e = elim i [ ]
in_any p (y ∷ xs) x here e = rw e refl
in_any p (y ∷ xs) x (there i) e = elim (cases_Bool (p y)) [ inl s ↦ rw s refl | inr s ↦ rw s (in_any p xs x i e) ]

-- the target of a field that takes a slot has one
pub slot_there : (g : Graph) (f : Field) → In f g.fields → takes_slot (way_of f) ≡ true → In f.target (slots g)
slot_there g f i e =
    let test : takes_slot (way_of f) && same_target f.target f.target ≡ true = rw (e, target-refl f.target) refl in
    let some = any_in (same_target f.target) (slots g) (slots_are g f.target ∙ in_any (λ h. takes_slot (way_of h) && same_target f.target h.target) g.fields f i test) in
    let is : f.target ≡ some.0 = target-is f.target some.0 some.2 in
    subst (λ t. In t (slots g)) (sym is) some.1

both : (a b : Bool) → (a && b) ≡ true → (a ≡ true) × (b ≡ true)
both true b e = (refl, e)
both false b e = cc

-- the place of a target among targets
in_tail : {X : Type 0} (x t : X) (xs : List X) → In t (x ∷ xs) → (t ≡ x) ⊎ In t xs
in_tail x t xs here = inl refl
in_tail x t xs (there i) = inr i

never : (b : Bool) → b ≡ true → b ≡ false → ⊥
never true e f = cc
never false e f = cc

pub position : (t : Target) (n : ℕ) (xs : List Target) (d : Target) → In t xs → same_target t t ≡ true
    → (k : ℕ) × (k < length xs) × (position_from (same_target t) n xs ≡ Some (n + k)) × (get_or xs k d ≡ t)
position t n [] d i r = elim i [ ]
position t n (x ∷ xs) d i r =
    elim (cases_Bool (same_target t x)) [
      | inl s ↦ (0, omega arith, (let z : n + 0 ≡ n = omega arith in rw (s, z) refl), sym (target-is t x s))
      | inr s ↦
          let rest : In t xs = elim (in_tail x t xs i) [ inl e ↦ absurd (never (same_target t x) (ap (same_target t) (sym e) ∙ r) s) | inr j ↦ j ] in
          let more = position t (n + 1) xs d rest r in
          (suc more.0, (let l = more.1 in omega arith), (let z : n + 1 + more.0 ≡ n + suc more.0 = omega arith in let e = rw z at more.2 in rw s e), more.3)
    ]

both_right : (a b : Bool) → (a && b) ≡ true → b ≡ true
both_right true b e = e
both_right false b e = cc

-- a slot's target is that of a field
pub in_slots : (g : Graph) (t : Target) → In t (slots g) → (f : Field) × In f g.fields × (f.target ≡ t)
in_slots g t i =
    let test : Field → Bool = λ f. takes_slot (way_of f) && same_target t f.target in
    let some = any_in test g.fields (sym (slots_are g t) ∙ in_any (same_target t) (slots g) t i (target-refl t)) in
    (some.0, some.1, sym (target-is t some.0.target (both_right (takes_slot (way_of some.0)) (same_target t some.0.target) some.2)))

-- THE TYPES THAT TAKE SLOTS
abbrev is_signed_range : ValueRange → Bool
is_signed_range Signed = true
is_signed_range _ = false

-- a row of a slot: relative, of four bytes with a sign
abbrev slot_form : RelocationType → Bool
slot_form row = not row.slot || ((row.width == 4) && (row.relative && (is_signed_range row.range && not (row.number == R_X86_64_NONE))))

found_row : {X : Type 0} (t q : X → Bool) (xs : List X) (x : X) → find t xs ≡ Some x → list_all q xs ≡ true → (q x ≡ true) × (t x ≡ true)
found_row t q [] x e a = cc
found_row t q (y ∷ ys) x e a =
    elim (cases_Bool (q y)) [
      | inr n ↦ (let no : false ≡ true = rw n at a in cc)
      | inl k ↦ elim (cases_Bool (t y)) [
        | inl s ↦ (let is : y ≡ x = some_is y x (rw s at e) in (subst (λ z. q z ≡ true) is k, subst (λ z. t z ≡ true) is s))
        | inr s ↦ found_row t q ys x (rw s at e) (rw k at a)
      ]
    ]
  where
    some_is : {X : Type 0} (y x : X) → Some y ≡ Some x → y ≡ x
    some_is y x e = cc

-- what a type that takes a slot is
pub record IsSlotType (kind : ℕ) : Type 0 where
  pub width : width kind ≡ 4
  pub relative : is_relative kind ≡ true
  pub range : (v : ℕ) → in_range kind v ≡ true → is_signed v 32 ≡ true
  pub some : (kind == R_X86_64_NONE) ≡ false

range_is : (r : ValueRange) → is_signed_range r ≡ true → r ≡ Signed
range_is Any e = cc
range_is Unsigned e = cc
range_is Signed e = refl
range_is Either e = cc

is_not : (b : Bool) → not b ≡ true → b ≡ false
is_not true e = cc
is_not false e = refl

by_row : (kind : ℕ) (o : Option RelocationType) → relocation_type kind ≡ o → option_map_or (λ (row : RelocationType). row.slot) o false ≡ true → IsSlotType kind
by_row kind None e s = cc
by_row kind (Some row) e s =
    let r = found_row (λ (row : RelocationType). row.number == kind) slot_form RELOCATION_TYPES row e refl in
    let form : (row.width == 4) && (row.relative && (is_signed_range row.range && not (row.number == R_X86_64_NONE))) ≡ true = rw s at r.0 in
    let a = both (row.width == 4) (row.relative && (is_signed_range row.range && not (row.number == R_X86_64_NONE))) form in
    let b = both row.relative (is_signed_range row.range && not (row.number == R_X86_64_NONE)) a.1 in
    let c = both (is_signed_range row.range) (not (row.number == R_X86_64_NONE)) b.1 in
    let wide : row.width ≡ 4 = eqb-true row.width 4 a.0 in
    let signed : row.range ≡ Signed = range_is row.range c.0 in
    let number : row.number ≡ kind = eqb-true row.number kind r.1 in
    record {
      width = ap (λ o. option_map_or (λ (row : RelocationType). row.width) o 0) e ∙ wide;
      relative = ap (λ o. option_map_or (λ (row : RelocationType). row.relative) o false) e ∙ b.0;
      range = λ v f.
          let own : is_in row.range v (8 * row.width) ≡ true = sym (ap (λ o. option_map_or (λ (row : RelocationType). is_in row.range v (8 * row.width)) o false) e) ∙ f in
          rw (signed, wide) at own;
      some = ap (λ n. n == R_X86_64_NONE) (sym number) ∙ is_not (row.number == R_X86_64_NONE) c.1;
    }

pub slot_type : (kind : ℕ) → is_slot_kind kind ≡ true → IsSlotType kind
slot_type kind e = by_row kind (relocation_type kind) refl e
