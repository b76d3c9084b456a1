-- Each field of a loaded library reaches its target.
use Rattle.std.proofs.Common.{ℕ, zero, suc, ◌≡◌, ◌+◌, ◌-◌, ◌*◌, ◌%◌, ◌^◌, ◌<◌, ◌≤◌, ◌∙◌, List, [], ◌∷◌, ◌++◌, length, get_or, refl, ap, sym, subst, arith, Bool, true, false, not, ◌&&◌, ◌||◌, inl, inr, nat_lt, nat_eq}
use Rattle.std.specs.Prelude.{All, FitsSigned, flat_map, ℤ, IsTrue, Option, Some, None, nat_le, option_to_list, unwrap_or, if◌then◌else◌, cond, ◌==◌, ◌≢◌}
use Rattle.std.specs.Int.{cast_unsigned, w64}
use Rattle.std.specs.List.{position_from}
use Rattle.std.proofs.lemmas.Bool.{cases_Bool, cases_lt, eqb-true, eq-eqb, le-ltb, lt-leb, lt-ltb}
use Rattle.std.proofs.lemmas.List.Elements.{All-append}
use Rattle.std.proofs.Math.Nat.{mod-eq_of_lt}
use Rattle.kl_base.specs.declared.class.Class.{Class}
use Rattle.kl_base.specs.declared.class.Class.TheVariants.{Text, Rodata, Rwdata, Bss}
use Rattle.kl_elf.specs.declared.abi.TheConstants.{R_X86_64_64, R_X86_64_PLT32}
use Rattle.kl_model.proofs.ClassMemory.{InOrder}
use Rattle.kl_model.proofs.Each.{all-only_if, each-all}
use Rattle.kl_model.proofs.StandOnce.{target-is, target-refl}
use Rattle.kl_model.specs.Areas.{class_number}
use Rattle.kl_model.specs.Carries.{AreaHolds, HasByte, IsLoadBase, LeadsBy, address_at, library_places, piece_at}
use Rattle.kl_model.specs.Faults.{does_fit}
use Rattle.kl_model.specs.Kits.{is_kernel}
use Rattle.kl_model.specs.Laid.{area_at, place_of, span}
use Rattle.kl_model.specs.Leads.{address_of, field_value, filed_value, is_blank, led_to, slot_place, target_slot, target_stub, value_target}
use Rattle.kl_model.specs.Lists.{each, only_if}
use Rattle.kl_model.specs.Loaded.{loaded, name_in, relas}
use Rattle.kl_model.specs.Memory.{byte_in, mem, num_in}
use Rattle.kl_model.specs.Reaches.{ReachesBySlot, ReachesByStub, ReachesDirectly, less, plus, signed_4, value}
use Rattle.kl_model.specs.Relocations.{in_range, is_kind, is_relative, is_signed, is_slot_kind, width}
use Rattle.kl_model.specs.Sizes.{made_of, page_of}
use Rattle.kl_model.specs.Slots.{Entry, Way, Directly, BySlot, ByStub, Nowhere, entries, field_entry, is_loaded, is_moving, is_name, is_not_fixed, is_number, is_read_only, jump_entries, rela_entries, name_of, same_target, slot_entry, slots, stubs, takes_slot, takes_stub, way}
use Rattle.kl_model.specs.Tables.{dyn_text, made_bytes, no_dyn, relas_of, spot_at, stub_code, stubs_bytes}
use Rattle.kl_model.specs.declared.area.TheConstants as area
use Rattle.kl_base.specs.declared.limits.TheConstants.{SPAN_LIMIT}
use Rattle.kl_write.proofs.SlotWords.{num_in_bytes}
use Rattle.kl_loading.proofs.StubBytes.{byte_of_stubs, distance_byte, jump_byte, leads_on, length-stub, length-stubs, place_in, stub_there}
use Rattle.kl_model.specs.declared.graph.Field.{Field}
use Rattle.kl_model.specs.declared.graph.Graph.{Graph}
use Rattle.kl_model.specs.declared.graph.Target.{Target}
use Rattle.kl_model.specs.declared.graph.Target.TheVariants.{Place, Abs, Edge, Name, Zero, Gone}
use Rattle.kl_model.specs.declared.kit.Kit.{Kit}
use Rattle.kl_model.specs.declared.kit.KitKind.TheVariants.{Library}
use Rattle.kl_model.specs.declared.object.Input.{Input}
use Rattle.kl_model.specs.declared.place.Body.TheVariants as body
use Rattle.kl_model.specs.declared.place.Gaps.{Gaps}
use Rattle.kl_model.specs.declared.place.Placement.{Placement}
use Rattle.kl_write.proofs.SlotWords.{position, slot_there, slot_type}
use Rattle.kl_write.proofs.SoundLaid.{in_get}
use Rattle.kl_write.specs.LaidKits.{HasAreaAddresses, IsLaidKit, LibraryHolds}
use Rattle.kl_loading.specs.CarriedOut.{AreApart}
use Rattle.kl_loading.proofs.EntryPlaces.{all_in_data, any_slot, any_two, field_inside, got_within, in_order, in_span, loaded_wide, piece_within, slot_all, slot_spot, spot_field, stub_within}
use Rattle.kl_loading.proofs.EntryValues.{moving_field, name_field}
use Rattle.kl_loading.proofs.LoadedNumbers.{IsThere, elsewhere, field_there}
use Rattle.kl_loading.proofs.LoadedSlots.{data_fits, headers, moves, number_of, slot_holds, zero_base}
use Rattle.kl_loading.proofs.TypeRows.{relative_some, wide_is_64}

-- four low bytes of a number with a sign are the number
four_back : (v : ℕ) → v < 2 ^ 64 → is_signed v 32 ≡ true → signed_4 (v % 2 ^ 32) ≡ v
four_back v small e =
    elim (cases_lt v 2147483648) [
      | inl l ↦
          let m : v % 2 ^ 32 ≡ v = omega (arith, l) in
          let t : nat_lt v 2147483648 ≡ true = lt-ltb v 2147483648 l in
          rw (m, t) refl
      | inr l ↦ elim (cases_lt v 18446744071562067968) [
        | inl h ↦
            let a : nat_lt v 2147483648 ≡ false = le-ltb v 2147483648 l in
            let b : nat_le 18446744071562067968 v ≡ false = lt-leb 18446744071562067968 v h in
            clash (is_signed v 32) e (rw (a, b) refl)
        | inr h ↦
            let m : v % 2 ^ 32 ≡ v - 18446744069414584320 = omega (arith, h, small) in
            let t : nat_lt (v % 2 ^ 32) 2147483648 ≡ false = le-ltb (v % 2 ^ 32) 2147483648 (omega (arith, m, h)) in
            rw t (omega (arith, m, h))
      ]
    ]
  where
    clash : {X : Type 0} (b : Bool) → b ≡ true → b ≡ false → X
    clash true e f = cc
    clash false e f = cc

cast_small : (a : ℤ) → FitsSigned w64 a → cast_unsigned w64 a < 2 ^ 64
cast_small a f = grind (arith, f)

-- what subtracts its place is the same at each base, and leads back to what it was made for
same_distance : (base place a p : ℕ) → base + p < 2 ^ 64 → less (plus ((base + place) % 2 ^ 64) a) (base + p) ≡ less (plus (place % 2 ^ 64) a) p
same_distance base place a p h = omega (arith, h)

leads_to : (base s a p v : ℕ) → base + s < 2 ^ 64 → a < 2 ^ 64 → base + p < 2 ^ 64 → v ≡ less (plus s a) p → less (plus (base + p) v) a ≡ base + s
leads_to base s a p v h k m e = omega (arith, h, k, m, e)

less_small : (a b : ℕ) → less a b < 2 ^ 64
less_small a b = omega arith

-- the value of a type that doesn't subtract its place is the same at each place
same_value : (kind s : ℕ) (a : ℤ) (p q : ℕ) → is_relative kind ≡ false → value kind s a p ≡ value kind s a q
same_value kind s a p q e = rw e refl

both : (a b : Bool) → a ≡ true → (a && b) ≡ false → b ≡ false
both true b e f = f
both false b e f = cc

not_true : (b : Bool) → not b ≡ true → b ≡ false
not_true true e = cc
not_true false e = refl

nor : (a b : Bool) → (a || b) ≡ false → (a ≡ false) × (b ≡ false)
nor true b e = cc
nor false b e = (refl, e)

-- of the types that no loader writes, one to a target that moves subtracts its place, and one to a number doesn't
module _ (kind : ℕ) (t : Target) (linked : is_kind kind ≡ true) (some : 0 < width kind) (fixed : is_not_fixed kind t ≡ false) (still : is_loaded kind t ≡ false) where
  rule : is_slot_kind kind ≡ false → (if is_relative kind then is_number t || (is_name t && not (kind == R_X86_64_PLT32)) else not (width kind == 8) && (not (width kind == 0) && (is_moving t || is_name t))) ≡ false
  rule s = both (not (is_slot_kind kind)) _ (rw s refl) (both (is_kind kind) _ linked fixed)

  -- a type that doesn't subtract its place, to what moves or has a name, would be loaded
  subtracts : is_slot_kind kind ≡ false → (is_moving t || is_name t) ≡ true → is_relative kind ≡ true
  subtracts s m = elim (cases_Bool (is_relative kind)) [
    | inl e ↦ e
    | inr e ↦
        let r = rw e at (rule s) in
        let wide : (width kind == 0) ≡ false = Rattle.std.proofs.lemmas.Bool.ne_eqb (width kind) 0 (λ z. omega (arith, z, some)) in
        elim (cases_Bool (width kind == 8)) [
          | inl w ↦
              let is = wide_is_64 kind (eqb-true (width kind) 8 w) e in
              let loaded_too : is_loaded kind t ≡ true = rw (eq-eqb kind R_X86_64_64 is) m in
              clash (is_loaded kind t) loaded_too still
          | inr w ↦ clash (is_moving t || is_name t) m (rw (w, wide) at r)
        ]
  ]
    where
      clash : {X : Type 0} (b : Bool) → b ≡ true → b ≡ false → X
      clash true e f = cc
      clash false e f = cc

  pub stays : is_slot_kind kind ≡ false → is_number t ≡ true → is_relative kind ≡ false
  stays s m = elim (cases_Bool (is_relative kind)) [
    | inr e ↦ e
    | inl e ↦ (let r = nor (is_number t) _ (rw e at (rule s)) in clash (is_number t) m r.0)
  ]
    where
      clash : {X : Type 0} (b : Bool) → b ≡ true → b ≡ false → X
      clash true e f = cc
      clash false e f = cc

clash : {X : Type 0} (b : Bool) → b ≡ true → b ≡ false → X
clash true e f = cc
clash false e f = cc

-- the types of the ways: of one to what is no name ..
by_slot_only : (b : Bool) → (if b then BySlot else Directly) ≡ BySlot → b ≡ true
by_slot_only true e = refl
by_slot_only false e = cc

direct_only : (b : Bool) → (if b then BySlot else Directly) ≡ Directly → b ≡ false
direct_only true e = cc
direct_only false e = refl

never_stub : {X : Type 0} (b : Bool) → (if b then BySlot else Directly) ≡ ByStub → X
never_stub true e = cc
never_stub false e = cc

never_none : {X : Type 0} (b : Bool) → (if b then BySlot else Directly) ≡ Nowhere → X
never_none true e = cc
never_none false e = cc

-- .. and of one to a name
name_slot_only : (b c : Bool) → (if b then BySlot else if c then ByStub else Directly) ≡ BySlot → b ≡ true
name_slot_only true c e = refl
name_slot_only false true e = cc
name_slot_only false false e = cc

name_direct_only : (b c : Bool) → (if b then BySlot else if c then ByStub else Directly) ≡ Directly → (b ≡ false) × (c ≡ false)
name_direct_only true c e = cc
name_direct_only false true e = cc
name_direct_only false false e = (refl, refl)

name_stub_only : (b c : Bool) → (if b then BySlot else if c then ByStub else Directly) ≡ ByStub → c ≡ true
name_stub_only true c e = cc
name_stub_only false true e = refl
name_stub_only false false e = cc

name_some : {X : Type 0} (b c : Bool) → (if b then BySlot else if c then ByStub else Directly) ≡ Nowhere → X
name_some true c e = cc
name_some false true e = cc
name_some false false e = cc

way_slot : (kind : ℕ) (t : Target) → way kind t ≡ BySlot → is_slot_kind kind ≡ true
way_slot kind (Place n k) e = by_slot_only (is_slot_kind kind) e
way_slot kind (Abs n) e = by_slot_only (is_slot_kind kind) e
way_slot kind (Edge n x) e = by_slot_only (is_slot_kind kind) e
way_slot kind (Name n) e = name_slot_only (is_slot_kind kind) (kind == R_X86_64_PLT32) e
way_slot kind Zero e = by_slot_only (is_slot_kind kind) e
way_slot kind Gone e = cc

way_direct : (kind : ℕ) (t : Target) → way kind t ≡ Directly → is_slot_kind kind ≡ false
way_direct kind (Place n k) e = direct_only (is_slot_kind kind) e
way_direct kind (Abs n) e = direct_only (is_slot_kind kind) e
way_direct kind (Edge n x) e = direct_only (is_slot_kind kind) e
way_direct kind (Name n) e = (name_direct_only (is_slot_kind kind) (kind == R_X86_64_PLT32) e).0
way_direct kind Zero e = direct_only (is_slot_kind kind) e
way_direct kind Gone e = cc

-- a call to a name takes a stub, and nothing else does
pub way_stub : (kind : ℕ) (t : Target) → way kind t ≡ ByStub → (n : ℕ) × (t ≡ Name n) × (kind ≡ R_X86_64_PLT32)
way_stub kind (Place n k) e = never_stub (is_slot_kind kind) e
way_stub kind (Abs n) e = never_stub (is_slot_kind kind) e
way_stub kind (Edge n x) e = never_stub (is_slot_kind kind) e
way_stub kind (Name n) e = (n, refl, eqb-true kind R_X86_64_PLT32 (name_stub_only (is_slot_kind kind) (kind == R_X86_64_PLT32) e))
way_stub kind Zero e = never_stub (is_slot_kind kind) e
way_stub kind Gone e = cc

way_none : (kind : ℕ) (t : Target) → way kind t ≡ Nowhere → t ≡ Gone
way_none kind (Place n k) e = never_none (is_slot_kind kind) e
way_none kind (Abs n) e = never_none (is_slot_kind kind) e
way_none kind (Edge n x) e = never_none (is_slot_kind kind) e
way_none kind (Name n) e = name_some (is_slot_kind kind) (kind == R_X86_64_PLT32) e
way_none kind Zero e = never_none (is_slot_kind kind) e
way_none kind Gone e = refl

-- only the type 64 is loaded
not_64 : (kind : ℕ) (t : Target) → (kind ≡ R_X86_64_64 → ⊥) → is_loaded kind t ≡ false
not_64 kind t other = elim (cases_Bool (nat_eq kind R_X86_64_64)) [
  | inl e ↦ absurd (other (eqb-true kind R_X86_64_64 e))
  | inr e ↦ rw e refl
]

default_field : (xs : List Field) (k : ℕ) (c d : Field) → k < length xs → get_or xs k c ≡ get_or xs k d
default_field [] k c d h = absurd (omega (arith, h))
default_field (x ∷ xs) zero c d h = refl
default_field (x ∷ xs) (suc k) c d h = default_field xs k c d (omega (arith, h))

-- a field of eight bytes that holds its value reaches its target
reach_64 : (m : ℕ → Rattle.std.specs.Prelude.Option Rattle.kl_model.specs.Memory.Cell) (at kind s : ℕ) (a : ℤ) → kind ≡ R_X86_64_64 → num_in m at 8 ≡ plus s (cast_unsigned w64 a) → ReachesDirectly m at kind a s
reach_64 m at kind s a k n =
    let small : plus s (cast_unsigned w64 a) % 256 ^ 8 ≡ plus s (cast_unsigned w64 a) = omega arith in
    subst (λ k. ReachesDirectly m at k a s) (sym k) (record { range = refl; bytes = n ∙ sym small })

module _ (kit : Kit) (inputs : List Input) (g : Graph) (gaps : Option Gaps) (order : List ℕ) (p : Placement) (library : kit.kind ≡ Library) (l : IsLaidKit kit g gaps order p) (numbers : HasAreaAddresses p)
    (writable : All (λ f. is_read_only (piece_at g f.piece).class f.kind f.target ≡ false) g.fields) (img : List ℕ) (holds : LibraryHolds img p kit inputs g gaps order)
    (tables : relas img ≡ relas_of p g (rela_entries g) ++ relas_of p g (jump_entries g)) (named : (n : ℕ) → n < length g.names → name_in img (suc n) ≡ Some (dyn_text inputs (get_or g.names n no_dyn)))
    (base : ℕ) (r : List ℕ → ℕ) (loads : IsLoadBase (page_of kit g) (span kit g gaps order (made_of kit g)) base) (words : (name : List ℕ) → r name < 2 ^ 64)
    (fits : All (λ f. does_fit p g f ≡ true) g.fields) (fixed : All (λ f. is_not_fixed f.kind f.target ≡ false) g.fields) (linked : All (λ f. is_kind f.kind ≡ true) g.fields) where
  abbrev m : ℕ → Option Rattle.kl_model.specs.Memory.Cell
  m = loaded img base r

  abbrev name_number : ℕ → ℕ
  name_number = number_of kit inputs g gaps order p library l numbers writable img holds tables named base r loads words

  end_fits : base + (area_at p 2).end ≤ 2 ^ 64
  end_fits = data_fits kit inputs g gaps order p library l numbers writable img holds tables named base r loads words

  zero_is : p.base ≡ 0
  zero_is = zero_base kit inputs g gaps order p library l numbers writable img holds tables named base r loads words

  file_end : (c : Class) → c ≢ Bss → (area_at p (class_number c)).end ≤ (area_at p 2).end
  file_end c n = let o = in_order kit g gaps order p library l writable in go c n o
    where
      go : (c : Class) → c ≢ Bss → InOrder p → (area_at p (class_number c)).end ≤ (area_at p 2).end
      go Text n o = omega (arith, o.rodata_from, o.rodata, o.rwdata_from, o.rwdata)
      go Rodata n o = omega (arith, o.rwdata_from, o.rwdata)
      go Rwdata n o = omega arith
      go Bss n o = absurd (n refl)

  module _ (i : ℕ) (d : Field) (h : i < length g.fields) where
    abbrev f : Field
    f = get_or g.fields i d

    abbrev at : ℕ
    at = place_of p g (body.Piece f.piece) + f.offset

    ends : at + width f.kind ≤ (area_at p 2).end
    ends =
        let s = l.sound.fields i d h in
        let w = piece_within kit g gaps order p library l writable f.piece s.piece in
        let inside = field_inside kit g gaps order p library l writable i d h in
        let file = file_end (piece_at g f.piece).class s.class in
        omega (arith, w.1, inside, file)

    wide : 0 < width f.kind
    wide = (l.sound.fields i d h).wide

    at_small : base + at < 2 ^ 64
    at_small = omega (arith, ends, wide, end_fits)

    addend_small : cast_unsigned w64 f.addend < 2 ^ 64
    addend_small = cast_small f.addend (l.sound.fields i d h).addend

    -- no entry writes a field that no loader writes
    abbrev Away : Entry → Type 0
    Away e = AreApart at (width f.kind) (spot_at p g e.spot) 8

    field_away : is_loaded f.kind f.target ≡ false → All Away (entries g)
    field_away still =
        All-append Away (each g.fields (λ k x. only_if (is_loaded x.kind x.target) (field_entry x x.target))) (each (slots g) (λ k t. option_to_list (slot_entry g k t)))
        (each-all Away 0 (λ k x. only_if (is_loaded x.kind x.target) (field_entry x x.target)) g.fields (λ k c q.
        let x = get_or g.fields k c in
        all-only_if Away (is_loaded x.kind x.target) (field_entry x x.target) (λ e.
        let spot = spot_field kit g gaps order p library l writable k c q e in
        let eight = loaded_wide x.kind x.target e in
        let same : get_or g.fields i c ≡ f = default_field g.fields i c d h in
        rw spot (elim (cases_lt i k) [
          | inl less ↦ rw (same, eight) at (any_two kit g gaps order p library l writable i k c less q)
          | inr a ↦ elim (cases_lt k i) [
            | inl less ↦ (rw (same, eight) at (turn _ _ _ _ (any_two kit g gaps order p library l writable k i c less h)))
            | inr b ↦
                let one : k ≡ i = omega (arith, a, b) in
                let is : x ≡ f = ap (λ n. get_or g.fields n c) one ∙ same in
                clash (is_loaded f.kind f.target) (ap (λ (y : Field). is_loaded y.kind y.target) (sym is) ∙ e) still
          ]
        ]))))
        (each-all Away 0 (λ k t. option_to_list (slot_entry g k t)) (slots g) (λ k t q.
        let z : 0 + k ≡ k = omega arith in
        rw z (slot_all Away g k (get_or (slots g) k t) (λ e s.
        let spot = slot_spot kit g gaps order p library l writable e k q s in
        rw spot (any_slot kit g gaps order p library l writable i d k h q)))))
      where
        turn : (a n b m : ℕ) → AreApart a n b m → AreApart b m a n
        turn a n b m (inl h) = inr h
        turn a n b m (inr h) = inl h

    still_there : is_loaded f.kind f.target ≡ false → num_in m (base + at) (width f.kind) ≡ filed_value kit p g f % 256 ^ width f.kind
    still_there still =
        elsewhere kit inputs g gaps order p library l writable img (headers kit inputs g gaps order p library l numbers writable img holds tables named base r loads words) tables named base r at (width f.kind) (field_away still)
        ∙ holds.fields i d h

    at_plain : at % 2 ^ 64 ≡ at
    at_plain = mod-eq_of_lt (omega (arith, at_small))

    not_gone : (w : Way) → way f.kind f.target ≡ w → (w ≡ Nowhere → ⊥) → same_target f.target Gone ≡ false
    not_gone w e other = elim (cases_Bool (same_target f.target Gone)) [
      | inr a ↦ a
      | inl a ↦ (let is : f.target ≡ Gone = target-is f.target Gone a in absurd (other (sym e ∙ ap (way f.kind) is)))
    ]

    -- where nothing is left out a field holds its value
    module _ (still : is_loaded f.kind f.target ≡ false) (kept : same_target f.target Gone ≡ false) (s : ℕ) (leads : value_target p g f ≡ s) where
      value_is : filed_value kit p g f ≡ value f.kind s f.addend at
      value_is =
          let blank : is_blank kit f ≡ false = rw (kept, still) (none (not (is_kernel kit.kind))) in
          rw blank (ap (λ n. value f.kind n f.addend (at % 2 ^ 64)) leads ∙ ap (value f.kind s f.addend) at_plain)
        where
          none : (b : Bool) → (b && false) ≡ false
          none true = refl
          none false = refl

      in_range_is : in_range f.kind (value f.kind s f.addend at) ≡ true
      in_range_is =
          let own : in_range f.kind (field_value p g f) ≡ true = rw kept at (fits i d h) in
          ap (in_range f.kind) (sym (ap (λ n. value f.kind n f.addend (at % 2 ^ 64)) leads ∙ ap (value f.kind s f.addend) at_plain)) ∙ own

      held : num_in m (base + at) (width f.kind) ≡ value f.kind s f.addend at % 256 ^ width f.kind
      held = still_there still ∙ ap (λ v. v % 256 ^ width f.kind) value_is

    -- directly: what isn't loaded has the same value at each base
    link : is_kind f.kind ≡ true
    link = linked i d h

    moving_same : (t : Target) → is_moving t ≡ true → (is_moving t || is_name t) ≡ true → is_not_fixed f.kind t ≡ false → is_loaded f.kind t ≡ false → way f.kind t ≡ Directly
        → value f.kind (address_at base name_number p g t) f.addend (base + at) ≡ value f.kind (address_of p g t) f.addend at
    moving_same t moving either u still e =
        let rel = subtracts f.kind t link wide u still (way_direct f.kind t e) either in
        let some = relative_some f.kind rel in
        let w = moves kit inputs g gaps order p library l numbers writable img holds tables named base r loads words t moving in
        rw (some, rel, w.there, w.here) (same_distance base w.place (cast_unsigned w64 f.addend) at at_small)

    same_by : (t : Target) → is_not_fixed f.kind t ≡ false → is_loaded f.kind t ≡ false → way f.kind t ≡ Directly
        → value f.kind (address_at base name_number p g t) f.addend (base + at) ≡ value f.kind (address_of p g t) f.addend at
    same_by (Place n k) u still e = moving_same (Place n k) refl refl u still e
    same_by (Edge n x) u still e = moving_same (Edge n x) refl refl u still e
    same_by (Abs n) u still e = same_value f.kind n f.addend (base + at) at (stays f.kind (Abs n) link wide u still (way_direct f.kind (Abs n) e) refl)
    same_by Zero u still e = same_value f.kind 0 f.addend (base + at) at (stays f.kind Zero link wide u still (way_direct f.kind Zero e) refl)
    same_by Gone u still e = cc
    same_by (Name n) u still e =
        let both_false = name_direct_only (is_slot_kind f.kind) (f.kind == R_X86_64_PLT32) e in
        let rel = subtracts f.kind (Name n) link wide u still both_false.0 refl in
        let ruled = rule f.kind (Name n) link wide u still both_false.0 in
        let no_call : false ≡ true = sym (rw (rel, both_false.1) at ruled) in
        cc

    direct_still : is_loaded f.kind f.target ≡ false → way f.kind f.target ≡ Directly → ReachesDirectly m (base + at) f.kind f.addend (address_at base name_number p g f.target)
    direct_still still e =
        let kept = not_gone Directly e (λ n. cc) in
        let leads : value_target p g f ≡ address_of p g f.target = ap (led_to p g f.target) e in
        let v = same_by f.target (fixed i d h) still e in
        record {
          range = ap (in_range f.kind) v ∙ in_range_is still kept (address_of p g f.target) leads;
          bytes = held still kept (address_of p g f.target) leads ∙ ap (λ n. n % 256 ^ width f.kind) (sym v);
        }

    -- what is loaded
    loaded_64 : is_loaded f.kind f.target ≡ true → f.kind ≡ R_X86_64_64
    loaded_64 e = elim (cases_Bool (nat_eq f.kind R_X86_64_64)) [
      | inl k ↦ eqb-true f.kind R_X86_64_64 k
      | inr k ↦ (let none : false ≡ true = rw k at e in cc)
    ]

    abbrev There : Target → Type 0
    There t =
        IsThere kit inputs g gaps order p library l writable img (headers kit inputs g gaps order p library l numbers writable img holds tables named base r loads words) tables named base r (field_entry f t)

    loaded_by : (t : Target) → f.target ≡ t → is_loaded f.kind t ≡ true → There t → num_in m (base + at) 8 ≡ plus (address_at base name_number p g t) (cast_unsigned w64 f.addend)
    loaded_by (Place n k) is e there = by_moving (Place n k) is refl refl e there
      where
        by_moving : (t : Target) → f.target ≡ t → is_moving t ≡ true → spot_at p g (field_entry f t).spot ≡ at % 2 ^ 64 → is_loaded f.kind t ≡ true → There t
            → num_in m (base + at) 8 ≡ plus (address_at base name_number p g t) (cast_unsigned w64 f.addend)
        by_moving t is moving spot e there =
            let w = moves kit inputs g gaps order p library l numbers writable img holds tables named base r loads words t moving in
            let value = ap (λ o. unwrap_or o 0) (moving_field img base r p g inputs named f t moving (l.sound.fields i d h).addend) in
            let here = w.here in
            let at_base = w.there in
            rw (spot ∙ at_plain) at there ∙ (ap (λ v. v % 2 ^ 64) value ∙ omega (arith, here, at_base))
    loaded_by (Edge n x) is e there =
        let w = moves kit inputs g gaps order p library l numbers writable img holds tables named base r loads words (Edge n x) refl in
        let value = ap (λ o. unwrap_or o 0) (moving_field img base r p g inputs named f (Edge n x) refl (l.sound.fields i d h).addend) in
        let here = w.here in
        let at_base = w.there in
        rw at_plain at there ∙ (ap (λ v. v % 2 ^ 64) value ∙ omega (arith, here, at_base))
    loaded_by (Name n) is e there =
        let s = subst (Rattle.kl_model.specs.Sound.IsSoundTarget kit g) is (l.sound.fields i d h).target in
        let value = ap (λ o. unwrap_or o 0) (name_field img base r p g inputs named f n s (l.sound.fields i d h).addend) in
        rw at_plain at there ∙ (ap (λ v. v % 2 ^ 64) value ∙ mod-eq_of_lt (omega arith))
    loaded_by (Abs n) is e there = never (f.kind == R_X86_64_64) e
      where
        never : (b : Bool) → (b && false) ≡ true → num_in m (base + at) 8 ≡ plus n (cast_unsigned w64 f.addend)
        never true e = cc
        never false e = cc
    loaded_by Zero is e there = never (f.kind == R_X86_64_64) e
      where
        never : (b : Bool) → (b && false) ≡ true → num_in m (base + at) 8 ≡ plus 0 (cast_unsigned w64 f.addend)
        never true e = cc
        never false e = cc
    loaded_by Gone is e there = never (f.kind == R_X86_64_64) e
      where
        never : (b : Bool) → (b && false) ≡ true → num_in m (base + at) 8 ≡ plus 0 (cast_unsigned w64 f.addend)
        never true e = cc
        never false e = cc

    direct_loaded : is_loaded f.kind f.target ≡ true → ReachesDirectly m (base + at) f.kind f.addend (address_at base name_number p g f.target)
    direct_loaded e =
        reach_64 m (base + at) f.kind (address_at base name_number p g f.target) f.addend (loaded_64 e)
        (loaded_by f.target refl e (field_there kit inputs g gaps order p library l writable img (headers kit inputs g gaps order p library l numbers writable img holds tables named base r loads words) tables named base r i d h e))

    direct : way f.kind f.target ≡ Directly → ReachesDirectly m (base + at) f.kind f.addend (address_at base name_number p g f.target)
    direct e = elim (cases_Bool (is_loaded f.kind f.target)) [ inl y ↦ direct_loaded y | inr n ↦ direct_still n e ]

    -- by a slot
    module _ (by : way f.kind f.target ≡ BySlot) where
      slotted : is_slot_kind f.kind ≡ true
      slotted = way_slot f.kind f.target by

      slot_still : is_loaded f.kind f.target ≡ false
      slot_still = not_64 f.kind f.target (λ e. clash (is_slot_kind f.kind) slotted (ap is_slot_kind e))

      found_at : (k : ℕ) × (k < length (slots g)) × (position_from (same_target f.target) 0 (slots g) ≡ Some (0 + k)) × (get_or (slots g) k Zero ≡ f.target)
      found_at = position f.target 0 (slots g) Zero (slot_there g f (in_get g.fields i d h) (ap takes_slot by)) (target-refl f.target)

      slot_is : target_slot p g f.target ≡ slot_place p found_at.0
      slot_is = let e = found_at.2 in let z : 0 + found_at.0 ≡ found_at.0 = omega arith in rw (e, z) refl

      slot_small : base + target_slot p g f.target < 2 ^ 64
      slot_small = let w = got_within kit g gaps order p library l writable found_at.0 found_at.1 in omega (arith, slot_is, w.1, end_fits)

      by_slot : ReachesBySlot m (base + at) f.addend (address_at base name_number p g f.target) (base + target_slot p g f.target)
      by_slot =
          let slot = target_slot p g f.target in
          let kept = not_gone BySlot by (λ n. cc) in
          let type = slot_type f.kind slotted in
          let leads : value_target p g f ≡ slot = ap (led_to p g f.target) by ∙ mod-eq_of_lt (omega (arith, slot_small)) in
          let some = type.some in
          let relative = type.relative in
          let v : value f.kind slot f.addend at ≡ less (plus slot (cast_unsigned w64 f.addend)) at = rw (some, relative) refl in
          let small : value f.kind slot f.addend at < 2 ^ 64 = omega (arith, v, less_small (plus slot (cast_unsigned w64 f.addend)) at) in
          let num : num_in m (base + at) 4 ≡ value f.kind slot f.addend at % 2 ^ 32 = rw type.width at (held slot_still kept slot leads) in
          let four : signed_4 (num_in m (base + at) 4) ≡ value f.kind slot f.addend at =
          ap signed_4 num ∙ four_back (value f.kind slot f.addend at) small (type.range (value f.kind slot f.addend at) (in_range_is slot_still kept slot leads)) in
          record {
            leads = ap (λ n. less (plus (base + at) n) (cast_unsigned w64 f.addend)) four ∙ leads_to base slot (cast_unsigned w64 f.addend) at (value f.kind slot f.addend at) slot_small addend_small at_small v;
            holds = ap (λ n. num_in m (base + n) 8) slot_is
                ∙ (slot_holds kit inputs g gaps order p library l numbers writable img holds tables named base r loads words found_at.0 found_at.1 ∙ ap (address_at base name_number p g) found_at.3);
          }

    -- by a stub
    module _ (by : way f.kind f.target ≡ ByStub) where
      call : (n : ℕ) × (f.target ≡ Name n) × (f.kind ≡ R_X86_64_PLT32)
      call = way_stub f.kind f.target by

      stub_still : is_loaded f.kind f.target ≡ false
      stub_still = not_64 f.kind f.target (λ e. (let no_type : R_X86_64_PLT32 ≡ R_X86_64_64 = sym call.2 ∙ e in cc))

      stub_at : (k : ℕ) × (k < length (stubs g)) × (position_from (nat_eq (name_of f.target)) 0 (stubs g) ≡ Some (0 + k)) × (get_or (stubs g) k 0 ≡ name_of f.target)
      stub_at = place_in (name_of f.target) 0 (stubs g) (stub_there g f (in_get g.fields i d h) (ap takes_stub by))

      abbrev stub : ℕ
      stub = target_stub p g f.target

      abbrev own_slot : ℕ
      own_slot = target_slot p g f.target

      stub_is : stub ≡ (area_at p 6).start + 16 * stub_at.0
      stub_is = let e = stub_at.2 in let z : 0 + stub_at.0 ≡ stub_at.0 = omega arith in rw (e, z) refl

      stub_inside : ((area_at p 0).start ≤ stub) × (stub + 16 ≤ (area_at p 0).end)
      stub_inside = let w = stub_within kit g gaps order p library l writable stub_at.0 stub_at.1 in (omega (arith, stub_is, w.0), omega (arith, stub_is, w.1))

      text_below : (area_at p 0).end ≤ (area_at p 2).start
      text_below = let o = in_order kit g gaps order p library l writable in omega (arith, o.rodata_from, o.rodata, o.rwdata_from)

      stub_small : base + stub + 16 ≤ 2 ^ 64
      stub_small = let o = in_order kit g gaps order p library l writable in omega (arith, stub_inside.1, text_below, o.rwdata, end_fits)

      slot_found : (k : ℕ) × (k < length (slots g)) × (position_from (same_target f.target) 0 (slots g) ≡ Some (0 + k)) × (get_or (slots g) k Zero ≡ f.target)
      slot_found = position f.target 0 (slots g) Zero (slot_there g f (in_get g.fields i d h) (ap takes_slot by)) (target-refl f.target)

      own_slot_is : own_slot ≡ slot_place p slot_found.0
      own_slot_is = let e = slot_found.2 in let z : 0 + slot_found.0 ≡ slot_found.0 = omega arith in rw (e, z) refl

      slot_inside : ((area_at p 2).start ≤ own_slot) × (own_slot + 8 ≤ (area_at p 2).end)
      slot_inside = let w = got_within kit g gaps order p library l writable slot_found.0 slot_found.1 in (omega (arith, own_slot_is, w.0), omega (arith, own_slot_is, w.1))

      span_is : (area_at p 2).end ≤ SPAN_LIMIT
      span_is = in_span kit g gaps order p library l writable Rwdata

      -- the bytes of the stub in the file
      code : ℕ → List ℕ
      code n = stub_code (target_stub p g (Name n)) (target_slot p g (Name n))

      stub_byte : (q : ℕ) → q < 16 → byte_in (mem img) (stub + q) ≡ get_or (stub_code stub own_slot) q 0
      unfolding code
      stub_byte q less =
          let bytes_are : made_bytes kit inputs g p 6 ≡ flat_map code (stubs g) = ap (λ k. if is_kernel k then [] else stubs_bytes g p) library in
          let held_too = subst (AreaHolds img p 6 Text) bytes_are holds.made.stubs in
          let long = length-stubs code (stubs g) (λ n. length-stub (target_stub p g (Name n)) (target_slot p g (Name n))) in
          let h = stub_at.1 in
          let byte = held_too (16 * stub_at.0 + q) (omega (arith, long, h, less)) in
          let place : stub + q ≡ (area_at p 6).start + (16 * stub_at.0 + q) = omega (arith, stub_is) in
          let there = held_byte ((area_at p 6).start + (16 * stub_at.0 + q)) (get_or (flat_map code (stubs g)) (16 * stub_at.0 + q) 0) byte in
          let part = byte_of_stubs code (stubs g) stub_at.0 q 0 (λ n. length-stub (target_stub p g (Name n)) (target_slot p g (Name n))) h less in
          let is : Name (get_or (stubs g) stub_at.0 0) ≡ f.target = ap Name (stub_at.3 ∙ ap name_of call.1) ∙ sym call.1 in
          rw place there ∙ (part ∙ ap (λ t. get_or (stub_code (target_stub p g t) (target_slot p g t)) q 0) is)
        where
          held_byte : (a b : ℕ) → HasByte img a b Text → byte_in (mem img) a ≡ b
          held_byte a b e = rw e refl

      -- no entry writes it
      stub_away : (a w : ℕ) → a + w ≤ (area_at p 0).end → All (λ (e : Entry). AreApart a w (spot_at p g e.spot) 8) (entries g)
      stub_away a w high k e q = let t = all_in_data kit g gaps order p library l writable k e q in inl (omega (arith, high, text_below, t.0))

      stub_number : (a w : ℕ) → a + w ≤ (area_at p 0).end → num_in m (base + a) w ≡ num_in (mem img) a w
      stub_number a w high =
          elsewhere kit inputs g gaps order p library l writable img (headers kit inputs g gaps order p library l numbers writable img holds tables named base r loads words) tables named base r a w (stub_away a w high)

      jumps : num_in m (base + stub) 2 ≡ area.JUMP
      jumps =
          stub_number stub 2 (omega (arith, stub_inside.1))
          ∙ num_in_bytes (mem img) stub 2 area.JUMP (λ j q. stub_byte j (omega (arith, q)) ∙ jump_byte stub own_slot j q)

      distance : num_in m (base + stub + 2) 4 ≡ less (less own_slot stub) 6 % 2 ^ 32
      distance =
          let place : base + stub + 2 ≡ base + (stub + 2) = omega arith in
          let v = less (less own_slot stub) 6 % 2 ^ 32 in
          let file = num_in_bytes (mem img) (stub + 2) 4 v (λ j q.
          let next : stub + 2 + j ≡ stub + (2 + j) = omega arith in
          rw next (stub_byte (2 + j) (omega (arith, q)) ∙ distance_byte stub own_slot j q)) in
          let small : v % 256 ^ 4 ≡ v = omega arith in
          rw place (stub_number (stub + 2) 4 (omega (arith, stub_inside.1)) ∙ (file ∙ small))

      by_stub : ReachesByStub m (base + at) f.addend (address_at base name_number p g f.target) (base + own_slot) (base + stub)
      by_stub =
          let kept = not_gone ByStub by (λ n. cc) in
          let leads : value_target p g f ≡ stub = ap (led_to p g f.target) by ∙ mod-eq_of_lt (omega (arith, stub_small)) in
          let relative : is_relative f.kind ≡ true = ap is_relative call.2 in
          let some = relative_some f.kind relative in
          let v : value f.kind stub f.addend at ≡ less (plus stub (cast_unsigned w64 f.addend)) at = rw (some, relative) refl in
          let small : value f.kind stub f.addend at < 2 ^ 64 = omega (arith, v, less_small (plus stub (cast_unsigned w64 f.addend)) at) in
          let four_wide : width f.kind ≡ 4 = ap width call.2 in
          let num : num_in m (base + at) 4 ≡ value f.kind stub f.addend at % 2 ^ 32 = rw four_wide at (held stub_still kept stub leads) in
          let ranged : is_signed (value f.kind stub f.addend at) 32 ≡ true = ap (λ n. in_range n (value f.kind stub f.addend at)) (sym call.2) ∙ in_range_is stub_still kept stub leads in
          let four : signed_4 (num_in m (base + at) 4) ≡ value f.kind stub f.addend at = ap signed_4 num ∙ four_back (value f.kind stub f.addend at) small ranged in
          record {
            leads = ap (λ n. less (plus (base + at) n) (cast_unsigned w64 f.addend)) four
                ∙ leads_to base stub (cast_unsigned w64 f.addend) at (value f.kind stub f.addend at) (omega (arith, stub_small)) addend_small at_small v;
            jumps = jumps;
            through = ap (λ n. plus (plus (base + stub) 6) (signed_4 n)) distance
                ∙ leads_on base stub own_slot (omega (arith, stub_small)) (omega (arith, slot_inside.1, end_fits)) (omega (arith, slot_inside.1, span_is)) (omega (arith, stub_inside.1, text_below, slot_inside.0, slot_inside.1, span_is));
            holds = ap (λ n. num_in m (base + n) 8) own_slot_is
                ∙ (slot_holds kit inputs g gaps order p library l numbers writable img holds tables named base r loads words slot_found.0 slot_found.1 ∙ ap (address_at base name_number p g) slot_found.3);
          }

    -- one that leads nowhere
    nowhere : way f.kind f.target ≡ Nowhere → num_in m (base + at) (width f.kind) ≡ 0
    nowhere e =
        let is = way_none f.kind f.target e in
        let still : is_loaded f.kind f.target ≡ false = rw is (none (f.kind == R_X86_64_64)) in
        let blank : is_blank kit f ≡ true = rw is refl in
        let zero_value : filed_value kit p g f ≡ 0 = rw blank refl in
        still_there still ∙ (ap (λ v. v % 256 ^ width f.kind) zero_value ∙ zero_mod (width f.kind))
      where
        none : (b : Bool) → (b && false) ≡ false
        none true = refl
        none false = refl

        zero_mod : (w : ℕ) → 0 % 256 ^ w ≡ 0
        zero_mod w = mod-eq_of_lt (Rattle.kl_write.proofs.SlotWords.wide w)

    -- THE LAW of one field
    pub reaches : LeadsBy m (library_places base name_number p g) (base + place_of p g (body.Piece f.piece) + f.offset) f f.target (way f.kind f.target)
    reaches =
        let place : base + place_of p g (body.Piece f.piece) + f.offset ≡ base + at = omega arith in
        rw place (go (way f.kind f.target) refl)
      where
        go : (w : Way) → way f.kind f.target ≡ w → LeadsBy m (library_places base name_number p g) (base + at) f f.target w
        go Directly e = direct e
        go BySlot e = by_slot e
        go ByStub e = by_stub e
        go Nowhere e = nowhere e
