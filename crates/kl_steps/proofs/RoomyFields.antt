-- The fields of a roomy kit: each holds a value in the range of its type, under any order and with any gaps.
use Rattle.std.proofs.Common.{ℕ, suc, ◌≡◌, ◌+◌, ◌*◌, ◌%◌, ◌^◌, ◌<◌, ◌≤◌, ◌⊎◌, ◌∙◌, List, [], ◌∷◌, length, get_or, refl, ap, arith, Bool, true, false, not, inl, inr, nat_eq}
use Rattle.std.specs.Prelude.{Option, Some, IfSome, slice_get, unwrap_or, if◌then◌else◌, ◌||◌}
use Rattle.std.specs.Int.{cast_unsigned, w64}
use Rattle.std.specs.List.{position_from}
use Rattle.std.proofs.lemmas.Bool.{cases_Bool}
use Rattle.std.proofs.lemmas.List.Sums.{get_or-le-sum_by}
use Rattle.kl_base.specs.declared.limits.TheConstants.{BASE_LIMIT, SPAN_LIMIT}
use Rattle.kl_layout.proofs.PlacedWithin.{IsWithin, each_within, piece_within}
use Rattle.kl_layout.proofs.RoomySpans.{roomy_span}
use Rattle.kl_model.specs.Carries.{no_piece}
use Rattle.kl_model.specs.Faults.{does_fit, range_faults}
use Rattle.kl_model.specs.Laid.{area_at, no_area, place_of, span, unwrapped}
use Rattle.kl_model.specs.Leads.{address_of, field_address, led_to, target_slot, target_stub, value_target}
use Rattle.kl_model.specs.Lists.{only_if}
use Rattle.kl_model.specs.Orders.{IsOrder, drawn_count}
use Rattle.kl_model.specs.Placed.{placed}
use Rattle.kl_model.specs.Reaches.{less, plus, value}
use Rattle.kl_model.specs.Relocations.{in_range, is_signed, is_slot_kind}
use Rattle.kl_model.specs.Roomy.{CallIsNear, IsHigh, IsNear, IsRoomy, IsRoomyField, IsWide, NumberFits, SlotIsNear}
use Rattle.kl_model.specs.Sizes.{made_of}
use Rattle.kl_model.specs.Slots.{BySlot, Directly, name_of, same_target, slots, stubs, way}
use Rattle.kl_model.specs.Fit.{AreGaps}
use Rattle.kl_model.specs.Sound.{IsSoundField, IsSoundGraph, IsSoundTarget}
use Rattle.kl_model.specs.declared.graph.Field.{Field}
use Rattle.kl_model.specs.declared.graph.Graph.{Graph}
use Rattle.kl_model.specs.declared.graph.Target.{Target}
use Rattle.kl_model.specs.declared.graph.Target.TheVariants.{Place, Abs, Edge, Name, Zero, Gone}
use Rattle.kl_model.specs.declared.kit.Kit.{Kit}
use Rattle.kl_model.specs.declared.kit.KitKind.TheVariants.{Kernel, Library}
use Rattle.kl_model.specs.declared.kit.KitKind.{KitKind}
use Rattle.kl_model.specs.declared.link.LinkFault.TheVariants as fault
use Rattle.kl_model.specs.declared.place.AreaAt.{AreaAt}
use Rattle.kl_model.specs.declared.place.Body.TheVariants as body
use Rattle.kl_model.specs.declared.place.Gaps.{Gaps}
use Rattle.kl_model.specs.declared.place.Made.{Made}
use Rattle.kl_model.specs.declared.place.Placement.{Placement}
use Rattle.kl_model.proofs.Addresses.{unwrapped-mod}
use Rattle.kl_model.proofs.Each.{each-none}
use Rattle.kl_model.proofs.InOrder.{get_found}
use Rattle.kl_write.proofs.SlotWords.{slot_type}
use Rattle.kl_steps.proofs.RoomyValues.{absolute_signed, relative_signed, slot_range}

-- the number of a slot or a stub is at most how many there are
number_low : {X : Type 0} (t : X → Bool) (n : ℕ) (xs : List X) → unwrap_or (position_from t n xs) 0 ≤ n + length xs
number_low t n [] = omega arith
number_low t n (x ∷ xs) = elim (cases_Bool (t x)) [
  | inl a ↦ rw a (omega arith)
  | inr a ↦ (let next : n + 1 ≡ suc n = omega arith in rw (a, next) (omega (arith, number_low t (suc n) xs)))
]

-- a kit with names is no kernel's
not_kernel : {X : Type 0} (k : KitKind) (n m : ℕ) → n < m → (k ≡ Kernel → m ≡ 0) → (k ≡ Library → X) → X
not_kernel Kernel n m few none f = let no = none refl in absurd (omega (arith, few, no))
not_kernel Library n m few none f = f refl

module _ (kit : Kit) (g : Graph) (gaps : Option Gaps) (order : List ℕ) (origin : kit.kind ≡ Library → kit.base ≡ 0) (limit : kit.base ≤ BASE_LIMIT)
    (sound : IsSoundGraph kit g) (o : IsOrder (drawn_count g.parts) order) (small_gaps : IfSome gaps AreGaps) (roomy : IsRoomy kit g) where
  abbrev made : Made
  made = made_of kit g

  abbrev p : Placement
  p = placed kit g gaps order made

  pub small : span kit g gaps order made ≤ SPAN_LIMIT
  small = roomy_span kit g sound gaps small_gaps order o roomy.small

  -- a number that is an offset from an address near the base, modulo 2^64
  record IsLed (s k : ℕ) : Type 0 where
    pub from : ℕ
    pub is : s ≡ (from + k) % 2 ^ 64
    pub starts : kit.base ≤ from
    pub stops : from < kit.base + 2 * SPAN_LIMIT

  piece_led : (n k : ℕ) → n < length g.pieces → IsLed ((place_of p g (body.Piece n) + k) % 2 ^ 64) k
  piece_led n k l =
      let w = piece_within kit g gaps order made limit sound o small n l in
      record { from = place_of p g (body.Piece n); is = refl; starts = w.0; stops = omega (arith, w.1) }

  -- the areas
  area_found : (n : ℕ) (x : AreaAt) → slice_get p.areas n ≡ Some x → (w : IsWithin kit.base x)
      → get_or p.areas n no_area ≡ record { start = w.start % 2 ^ 64; end = w.stop % 2 ^ 64 }
  area_found n x is w = get_found p.areas n x is ∙ w.is

  edge_led : (n : ℕ) → n < 15 + length kit.runs → IsLed (get_or p.areas n no_area).start 0 × IsLed (get_or p.areas n no_area).end 0
  edge_led n l =
      let h = each_within kit g gaps order made limit sound o small n l in
      let w = h.2 in
      let area = area_found n h.0 h.1 w in
      let first : (get_or p.areas n no_area).start ≡ w.start % 2 ^ 64 = ap (λ (x : AreaAt). x.start) area in
      let last : (get_or p.areas n no_area).end ≡ w.stop % 2 ^ 64 = ap (λ (x : AreaAt). x.end) area in
      let a = w.starts in
      let b = w.ordered in
      let c = w.stops in (
        record { from = w.start; is = omega (arith, first); starts = a; stops = omega (arith, b, c) },
        record { from = w.stop; is = omega (arith, last); starts = omega (arith, a, b); stops = omega (arith, c) },
      )

  -- the slots
  slot_led : (t : Target) → IsLed (target_slot p g t % 2 ^ 64) 0
  slot_led t =
      let h = each_within kit g gaps order made limit sound o small 13 (omega arith) in
      let w = h.2 in
      let area = area_found 13 h.0 h.1 w in
      let a = w.starts in
      let b = w.ordered in
      let c = w.stops in
      let start : (area_at p 13).start ≡ w.start =
      ap (λ (x : AreaAt). unwrapped p x.start) area ∙ unwrapped-mod p w.start (omega (arith, limit)) a (omega (arith, b, c)) in
      let few = number_low (same_target t) 0 (slots g) in
      let taken = roomy.small in
      record {
        from = target_slot p g t;
        is = omega arith;
        starts = omega (arith, start, a);
        stops = omega (arith, start, b, c, few, taken);
      }

  -- the stubs
  stub_led : (t : Target) → IsLed (target_stub p g t % 2 ^ 64) 0
  stub_led t =
      let h = each_within kit g gaps order made limit sound o small 6 (omega arith) in
      let w = h.2 in
      let area = area_found 6 h.0 h.1 w in
      let a = w.starts in
      let b = w.ordered in
      let c = w.stops in
      let start : (area_at p 6).start ≡ w.start =
      ap (λ (x : AreaAt). unwrapped p x.start) area ∙ unwrapped-mod p w.start (omega (arith, limit)) a (omega (arith, b, c)) in
      let few = number_low (nat_eq (name_of t)) 0 (stubs g) in
      let taken = roomy.small in
      record {
        from = target_stub p g t;
        is = omega arith;
        starts = omega (arith, start, a);
        stops = omega (arith, start, b, c, few, taken);
      }

  -- a name stands at 0 before a loader comes
  name_led : kit.kind ≡ Library → IsLed 0 0
  name_led library = let zero = origin library in record { from = 0; is = omega arith; starts = omega (arith, zero); stops = omega arith }

  module _ (f : Field) (s : IsSoundField kit g f) where
    abbrev at : ℕ
    at = place_of p g (body.Piece f.piece) + f.offset

    at_near : (kit.base ≤ at) × (at ≤ kit.base + 2 * SPAN_LIMIT)
    at_near =
        let w = piece_within kit g gaps order made limit sound o small f.piece s.piece in
        let inside = s.inside in
        let short = (sound.pieces f.piece no_piece s.piece).short in
        let size = get_or-le-sum_by (λ x. x.size + x.align) g.pieces f.piece no_piece s.piece in
        let taken = roomy.small in
        (omega (arith, w.0), omega (arith, w.1, inside, short, size, taken))

    near_signed : (n k : ℕ) → IsLed n k → IsNear k f.addend
        → is_signed (less (plus n (cast_unsigned w64 f.addend)) (field_address p g f)) 32 ≡ true
    near_signed n k led near =
        let is = led.is in
        rw is (relative_signed kit.base led.from k at f.addend s.addend led.starts led.stops at_near.0 at_near.1 near)

    abbrev HoldsAt : ℕ → Type 0
    HoldsAt n = in_range f.kind (value f.kind n f.addend (field_address p g f)) ≡ true

    -- by the type of the field
    wide_holds : IsWide f → (n : ℕ) → HoldsAt n
    wide_holds (inl e) n = rw e refl
    wide_holds (inr e) n = rw e refl

    slot_value : is_slot_kind f.kind ≡ true → (n : ℕ)
        → value f.kind n f.addend (field_address p g f) ≡ less (plus n (cast_unsigned w64 f.addend)) (field_address p g f)
    slot_value e n = let k = slot_type f.kind e in let some = k.some in let relative = k.relative in rw (some, relative) refl

    slot_holds : SlotIsNear f → (n : ℕ) → IsLed n 0 → HoldsAt n
    slot_holds h n led = slot_range f.kind _ h.0 (rw (slot_value h.0 n) (near_signed n 0 led h.1))

    call_holds : (k : ℕ) → CallIsNear f k → (n : ℕ) → IsLed n k → HoldsAt n
    call_holds k h n led = elim h.0 [ inl e ↦ rw e (near_signed n k led h.1) | inr e ↦ rw e (near_signed n k led h.1) ]

    high_holds : (k : ℕ) → IsHigh kit f k → (n : ℕ) → IsLed n k → HoldsAt n
    high_holds k h n led =
        let is = led.is in
        let e = h.0 in
        rw (e, is) (absolute_signed kit.base led.from k f.addend s.addend h.1 limit led.starts led.stops h.2)

    number_holds : (n : ℕ) → NumberFits f n → HoldsAt n
    number_holds n h = elim h.0 [
      | inl e ↦ rw e (rw e at h.1)
      | inr r ↦ elim r [
        | inl e ↦ rw e (rw e at h.1)
        | inr q ↦ elim q [ inl e ↦ rw e (rw e at h.1) | inr e ↦ rw e (rw e at h.1) ]
      ]
    ]

    -- the types that lead to their target itself
    call_direct : (k : ℕ) → CallIsNear f k → is_slot_kind f.kind ≡ false
    call_direct k h = elim h.0 [ inl e ↦ rw e refl | inr e ↦ rw e refl ]

    high_direct : (k : ℕ) → IsHigh kit f k → is_slot_kind f.kind ≡ false
    high_direct k h = let e = h.0 in rw e refl

    number_direct : (n : ℕ) → NumberFits f n → is_slot_kind f.kind ≡ false
    number_direct n h = elim h.0 [
      | inl e ↦ rw e refl
      | inr r ↦ elim r [ inl e ↦ rw e refl | inr q ↦ elim q [ inl e ↦ rw e refl | inr e ↦ rw e refl ] ]
    ]

    -- by its target
    abbrev Holds : Target → Type 0
    Holds t = HoldsAt (led_to p g t (if is_slot_kind f.kind then BySlot else Directly))

    by_slot : (t : Target) → SlotIsNear f → Holds t
    by_slot t h = let e = h.0 in rw e (slot_holds h (target_slot p g t % 2 ^ 64) (slot_led t))

    directly : (t : Target) → is_slot_kind f.kind ≡ false → HoldsAt (address_of p g t) → Holds t
    directly t e h = rw e h

    moving_holds : (t : Target) (k : ℕ) → IsLed (address_of p g t) k
        → IsWide f ⊎ (SlotIsNear f ⊎ (CallIsNear f k ⊎ IsHigh kit f k)) → Holds t
    moving_holds t k led (inl h) = wide_holds h _
    moving_holds t k led (inr (inl h)) = by_slot t h
    moving_holds t k led (inr (inr (inl h))) = directly t (call_direct k h) (call_holds k h (address_of p g t) led)
    moving_holds t k led (inr (inr (inr h))) = directly t (high_direct k h) (high_holds k h (address_of p g t) led)

    fixed_holds : (t : Target) → IsWide f ⊎ (SlotIsNear f ⊎ NumberFits f (address_of p g t)) → Holds t
    fixed_holds t (inl h) = wide_holds h _
    fixed_holds t (inr (inl h)) = by_slot t h
    fixed_holds t (inr (inr h)) = directly t (number_direct (address_of p g t) h) (number_holds (address_of p g t) h)

    -- a call of a name takes a stub
    name_holds : (n : ℕ) → kit.kind ≡ Library → IsWide f ⊎ (SlotIsNear f ⊎ CallIsNear f 0) → HoldsAt (led_to p g (Name n) (way f.kind (Name n)))
    name_holds n library (inl h) = wide_holds h _
    name_holds n library (inr (inl h)) = let e = h.0 in rw e (slot_holds h (target_slot p g (Name n) % 2 ^ 64) (slot_led (Name n)))
    name_holds n library (inr (inr h)) = elim h.0 [
      | inl e ↦ rw e (near_signed 0 0 (name_led library) h.1)
      | inr e ↦ rw e (near_signed (target_stub p g (Name n) % 2 ^ 64) 0 (stub_led (Name n)) h.1)
    ]

    fits_to : (t : Target) → IsSoundTarget kit g t → IsRoomyField kit f t
        → (same_target t Gone || in_range f.kind (value f.kind (led_to p g t (way f.kind t)) f.addend (field_address p g f))) ≡ true
    fits_to (Place n k) known h = moving_holds (Place n k) k (piece_led n k known.0) h
    fits_to (Edge n false) known h = moving_holds (Edge n false) 0 (edge_led n known).0 h
    fits_to (Edge n true) known h = moving_holds (Edge n true) 0 (edge_led n known).1 h
    fits_to (Abs n) known h = fixed_holds (Abs n) h
    fits_to Zero known h = fixed_holds Zero h
    fits_to (Name n) known h = not_kernel kit.kind n (length g.names) known (λ e. ap length (sound.kernel e)) (λ library. name_holds n library h)
    fits_to Gone known h = refl

  -- no field is a fault
  no_fault : (b : Bool) {X : Type 0} (x : X) → b ≡ true → only_if (not b) x ≡ []
  no_fault true x e = refl
  no_fault false x e = cc

  pub none_out_of_range : range_faults p g ≡ []
  none_out_of_range =
      each-none 0 (λ k f. only_if (not (does_fit p g f)) (fault.Range f.from (value_target p g f) f.addend (field_address p g f))) g.fields
      (λ k d l.
      let f = get_or g.fields k d in
      no_fault (does_fit p g f) _ (fits_to f (sound.fields k d l) f.target (sound.fields k d l).target (roomy.near k d l)))
