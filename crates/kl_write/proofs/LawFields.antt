-- A kernel's image that is made place by place carries its graph: fields, slots, and all clauses together.
use Rattle.std.proofs.Common.{ℕ, suc, ◌≡◌, ◌+◌, ◌-◌, ◌*◌, ◌%◌, ◌^◌, ◌<◌, ◌≤◌, ◌∙◌, List, [], ◌∷◌, length, get_or, refl, ap, sym, subst, arith, Bool, true, false, not, inl, inr, ◌&&◌, nat_eq}
use Rattle.std.specs.Prelude.{FitsSigned, if◌then◌else◌, ◌≢◌, ℤ, Some, None, Option, IfSome, fold, max, slice_index, ◌||◌, nat_lt, nat_le, All}
use Rattle.std.specs.List.{position_from}
use Rattle.std.specs.Int.{cast_unsigned, w64}
use Rattle.std.proofs.lemmas.Bool.{cases_Bool, cases_lt, eqb-true, le-ltb, lt-ltb, lt-leb}
use Rattle.std.proofs.lemmas.List.{get_or_past}
use Rattle.std.proofs.Math.Nat.{le-max_left, max-le, mod-eq_of_lt, pow-le-pow_right}
use Rattle.kl_base.specs.declared.class.Class.{Class}
use Rattle.kl_base.specs.declared.class.Class.TheVariants.{Text, Rodata, Rwdata, Bss}
use Rattle.kl_model.specs.Areas.{class_number}
use Rattle.kl_model.specs.Carries.{AreaHolds, CarriesGraph, File, HasByte, InArea, LeadsBy, LibraryMade, MadeHolds, NamesPieces, Reached, SlotsHold, head_for, is_in_file, kernel_places, piece_at, no_piece, segments_for}
use Rattle.kl_model.specs.Faults.{does_fit, range_faults}
use Rattle.kl_model.specs.Image.{image_bytes, part_byte}
use Rattle.kl_model.specs.Kits.{is_kernel}
use Rattle.kl_model.specs.Laid.{Laid, area_at, no_area, place_of, span, unwrapped}
use Rattle.kl_model.specs.Leads.{address_of, field_address, field_value, filed_value, is_blank, led_to, target_slot, value_target}
use Rattle.kl_model.specs.Lists.{only_if}
use Rattle.kl_model.specs.Memory.{byte_in, mem, num_in}
use Rattle.kl_model.specs.Reaches.{ReachesBySlot, ReachesDirectly, less, plus, signed_4, value}
use Rattle.kl_model.specs.Relocations.{in_range, is_signed, is_slot_kind, width}
use Rattle.kl_model.specs.Sizes.{made_for, made_of, page_for, page_of, text_from_for}
use Rattle.kl_model.specs.Slots.{Way, Directly, BySlot, Nowhere, is_loaded, is_moving, is_name, same_target, slots, takes_slot, way, way_of}
use Rattle.kl_model.specs.Sound.{IsSoundField, IsSoundGraph, IsSoundTarget}
use Rattle.kl_model.specs.Tables.{got_bytes, made_bytes, slot_value}
use Rattle.kl_model.specs.Written.{byte_of}
use Rattle.kl_base.specs.declared.limits.TheConstants.{ALIGN_POWER_LIMIT, BASE_LIMIT, PAGE, SPAN_LIMIT}
use Rattle.kl_model.proofs.ClassMemory.{InOrder}
use Rattle.kl_model.proofs.Covered.{In, IsWhole}
use Rattle.kl_model.proofs.Each.{each-empty}
use Rattle.kl_model.proofs.ImageBytes.{field_is}
use Rattle.kl_write.proofs.ImageFile.{all_in, few_phdrs, file, headers, le_top, length-headers, short_headers}
use Rattle.kl_write.proofs.FileBytes.{HeadersRead}
use Rattle.kl_write.specs.LaidKits.{HasMadeBytes, LibraryHolds}
use Rattle.kl_write.specs.Writes.{file_place}
use Rattle.kl_write.proofs.LawBytes.{IsMadePart, are_apart, contents, dynamic_part, got_part, made_area, made_held, padded, piece_area, piece_held, stubs_part, tables_part}
use Rattle.kl_write.proofs.SlotWords.{byte_of_words, in_slots, num_in_bytes, position, slot_there, slot_type}
use Rattle.kl_model.proofs.StandOnce.{target-is, target-refl}
use Rattle.kl_write.proofs.SoundLaid.{four_classes, in_get, ordered, top}
use Rattle.kl_write.proofs.Stands.{got_class}
use Rattle.kl_model.specs.declared.kit.KitKind.TheVariants.{Kernel, Library}
use Rattle.kl_model.specs.declared.kit.KitKind.{KitKind}
use Rattle.kl_model.specs.declared.graph.Piece.{Piece}
use Rattle.kl_elf.specs.declared.abi.TheConstants.{R_X86_64_64}
use Rattle.kl_model.specs.declared.place.AreaAt.{AreaAt}
use Rattle.kl_model.specs.declared.place.Body.TheVariants as body
use Rattle.kl_model.specs.declared.place.Gaps.{Gaps}
use Rattle.kl_model.specs.declared.place.Made.{Made}
use Rattle.kl_model.specs.declared.place.Placement.{Placement}
use Rattle.kl_model.specs.declared.graph.Field.{Field}
use Rattle.kl_model.specs.declared.graph.Graph.{Graph}
use Rattle.kl_model.specs.declared.graph.Target.{Target}
use Rattle.kl_model.specs.declared.graph.Target.TheVariants.{Place, Abs, Edge, Name, Zero, Gone}
use Rattle.kl_model.specs.declared.link.LinkFault.{LinkFault}
use Rattle.kl_model.specs.declared.link.LinkFault.TheVariants as fault
use Rattle.kl_model.specs.declared.object.Input.{Input}
use Rattle.kl_model.specs.declared.kit.Kit.{Kit}

never : (b : Bool) → b ≡ true → b ≡ false → ⊥
never true e f = cc
never false e f = cc

-- four low bytes of a number with a sign are the number
signed_back : (v : ℕ) → v < 2 ^ 64 → is_signed v 32 ≡ true → signed_4 (v % 2 ^ 32) ≡ v
signed_back v small e =
    elim (cases_lt v 2147483648) [
      | inl l ↦
          let m : v % 2 ^ 32 ≡ v = omega (arith, l) in
          let t : nat_lt v 2147483648 ≡ true = lt-ltb v 2147483648 l in
          rw (m, t) refl
      | inr l ↦ elim (cases_lt v 18446744071562067968) [
        | inl h ↦
            let a : nat_lt v 2147483648 ≡ false = le-ltb v 2147483648 l in
            let b : nat_le 18446744071562067968 v ≡ false = lt-leb 18446744071562067968 v h in
            absurd (never (is_signed v 32) e (rw (a, b) refl))
        | inr h ↦
            let m : v % 2 ^ 32 ≡ v - 18446744069414584320 = omega (arith, h, small) in
            let t : nat_lt (v % 2 ^ 32) 2147483648 ≡ false = le-ltb (v % 2 ^ 32) 2147483648 (omega (arith, m, h)) in
            rw t (omega (arith, m, h))
      ]
    ]

leads_back : (slot a p v : ℕ) → slot < 2 ^ 64 → a < 2 ^ 64 → p < 2 ^ 64 → v ≡ less (plus slot a) p → less (plus p v) a ≡ slot
leads_back slot a p v s l h e = omega (arith, s, l, h, e)

less_small : (a b : ℕ) → less a b < 2 ^ 64
less_small a b = omega arith

cast_small : (a : ℤ) → FitsSigned w64 a → cast_unsigned w64 a < 2 ^ 64
cast_small a f = grind (arith, f)

-- where no field is a range fault every field fits
all_fit : (b : Bool) (x : LinkFault) → only_if (not b) x ≡ [] → b ≡ true
all_fit true x e = refl
all_fit false x e = cc

pub no_range_faults : (p : Placement) (g : Graph) → range_faults p g ≡ [] → All (λ f. does_fit p g f ≡ true) g.fields
no_range_faults p g e k d h =
    let f = get_or g.fields k d in
    all_fit (does_fit p g f) (fault.Range f.from (value_target p g f) f.addend (field_address p g f))
    (each-empty 0 (λ k f. only_if (not (does_fit p g f)) (fault.Range f.from (value_target p g f) f.addend (field_address p g f))) g.fields e k d h)

-- a field's way to a target that is kept and isn't a name
way_is : (kind : ℕ) (t : Target) → is_name t ≡ false → same_target t Gone ≡ false → way kind t ≡ (if is_slot_kind kind then BySlot else Directly)
way_is kind (Place n k) e s = refl
way_is kind (Abs n) e s = refl
way_is kind (Edge n b) e s = refl
way_is kind (Name n) e s = cc
way_is kind Zero e s = refl
way_is kind Gone e s = cc

pub in_file : (c : Class) → c ≢ Bss → is_in_file c ≡ true
in_file Text h = refl
in_file Rodata h = refl
in_file Rwdata h = refl
in_file Bss h = absurd (h refl)

or_left : (a b : Bool) → a ≡ true → (a || b) ≡ true
or_left true b e = refl
or_left false b e = cc

or_right : (a b : Bool) → b ≡ true → (a || b) ≡ true
or_right true b e = refl
or_right false b e = e

-- what the loader writes is of the type 64
loaded_kind : (kind : ℕ) (t : Target) → is_loaded kind t ≡ true → kind ≡ R_X86_64_64
loaded_kind kind t e = elim (cases_Bool (nat_eq kind R_X86_64_64)) [ inl k ↦ eqb-true kind R_X86_64_64 k | inr k ↦ (let none : false ≡ true = rw k at e in cc) ]

or_none : (a b : Bool) → a ≡ false → b ≡ false → (a || b) ≡ false
or_none true b e f = cc
or_none false b e f = f

zero_mod : (w : ℕ) → 0 % 256 ^ w ≡ 0
zero_mod w = omega arith

module _ (kit : Kit) (inputs : List Input) (g : Graph) (gaps : Option Gaps) (order : List ℕ) (p : Placement) (origin : kit.kind ≡ Library → kit.base ≡ 0) (laid : Laid p kit g gaps order (made_of kit g))
    (small : span kit g gaps order (made_of kit g) ≤ SPAN_LIMIT) (limit : kit.base ≤ BASE_LIMIT) (sound : IsSoundGraph kit g) (whole : IsWhole g order)
    (numbers : All (λ (a : AreaAt). (a.start < 2 ^ 64) × (a.end < 2 ^ 64)) p.areas) where
  abbrev made : Made
  made = made_of kit g

  abbrev img : List ℕ
  img = image_bytes kit inputs g gaps p

  pub is_ordered : InOrder p
  is_ordered = ordered kit g gaps order made p laid small limit sound whole

  pub is_top : (area_at p 3).end ≤ p.base + SPAN_LIMIT
  is_top = top kit g gaps order made p laid small limit sound whole

  pub base_limit : p.base ≤ BASE_LIMIT
  base_limit = let b = laid.base in omega (arith, b, limit)

  -- the address of a target is a number of 64 bits
  edge_small : (n : ℕ) → ((get_or p.areas n no_area).start < 2 ^ 64) × ((get_or p.areas n no_area).end < 2 ^ 64)
  edge_small n =
      elim (cases_lt n (length p.areas)) [
        | inl l ↦ numbers n no_area l
        | inr l ↦ (let e = get_or_past p.areas n no_area l in rw e (omega arith, omega arith))
      ]

  pub address_small : (t : Target) → IsSoundTarget kit g t → address_of p g t < 2 ^ 64
  address_small (Place n k) h = omega arith
  address_small (Abs n) h = h
  address_small (Edge n false) h = (edge_small n).0
  address_small (Edge n true) h = (edge_small n).1
  address_small (Name n) h = omega arith
  address_small Zero h = omega arith
  address_small Gone h = omega arith

  entry_small : (e : Option Target) → IfSome e (IsSoundTarget kit g) → IfSome e (λ t. address_of p g t < 2 ^ 64)
  entry_small None h = tt
  entry_small (Some t) h = address_small t h

  -- the page of a sound graph
  page_limit : (n : ℕ) (xs : List Piece) → n ≤ 2 ^ ALIGN_POWER_LIMIT → All (λ x. x.align ≤ 2 ^ ALIGN_POWER_LIMIT) xs → fold (λ m x. max m x.align) n xs ≤ 2 ^ ALIGN_POWER_LIMIT
  page_limit n [] h a = h
  page_limit n (x ∷ xs) h a = page_limit (max n x.align) xs (max-le h (a 0 x (omega arith))) (λ k d l. a (suc k) d (omega (arith, l)))

  small_align : All (λ x. x.align ≤ 2 ^ ALIGN_POWER_LIMIT) g.pieces
  small_align k d l = let a = (sound.pieces k d l).align in rw a.2 (pow-le-pow_right (omega arith) a.1)

  page_small : page_of kit g < 256 ^ 8
  page_small = go kit.kind
    where
      go : (k : KitKind) → page_for k g < 256 ^ 8
      go Kernel = omega arith
      go Library = let l = page_limit PAGE g.pieces (omega arith) small_align in omega (arith, l)

  past_page : PAGE ≤ page_for Library g
  past_page = go PAGE g.pieces
    where
      go : (n : ℕ) (xs : List Piece) → n ≤ fold (λ m x. max m x.align) n xs
      go n [] = omega arith
      go n (x ∷ xs) = omega (arith, le-max_left n x.align, go (max n x.align) xs)

  -- the headers stand before text
  text_place : PAGE ≤ file_place kit.kind p (area_at p 0).start
  text_place = go kit.kind refl
    where
      go : (k : KitKind) → kit.kind ≡ k → PAGE ≤ file_place k p (area_at p 0).start
      go Kernel e = omega arith
      go Library e =
          let from : text_from_for Library kit.base g ≤ (area_at p 0).start = subst (λ k. text_from_for k kit.base g ≤ (area_at p 0).start) e (four_classes kit g gaps order made p laid small limit sound whole).text_first in
          omega (arith, from, past_page, laid.base)

  plain_address : p.base ≡ 0 → (a : ℕ) → a < 2 ^ 64 → unwrapped p a < 2 ^ 64
  plain_address e a h = let none : nat_lt a p.base ≡ false = le-ltb a p.base (omega (arith, e)) in rw none h

  dynamic_small : kit.kind ≡ Library → ((area_at p 14).start < 2 ^ 64) × ((area_at p 14).end < 2 ^ 64)
  dynamic_small e = let base : p.base ≡ 0 = laid.base ∙ origin e in let w = edge_small 14 in (plain_address base _ w.0, plain_address base _ w.1)

  pub read : HeadersRead kit inputs g gaps p
  read = record {
    front = omega (arith, short_headers p is_ordered base_limit is_top kit inputs g gaps page_small dynamic_small (entry_small g.entry sound.entry), text_place);
    size = length-headers p is_ordered base_limit is_top kit inputs g gaps page_small dynamic_small (entry_small g.entry sound.entry);
    headers = headers p is_ordered base_limit is_top kit inputs g gaps page_small dynamic_small (entry_small g.entry sound.entry);
  }

  pub few : length (segments_for kit.kind (page_of kit g) p) ≤ 6
  few = few_phdrs p is_ordered base_limit is_top kit inputs g gaps page_small dynamic_small (entry_small g.entry sound.entry)

  held_byte : (a b : ℕ) (c : Class) → HasByte img a b c → byte_in (mem img) a ≡ b
  held_byte a b c h = rw h refl

  -- a kernel's field leads to no name
  not_name : kit.kind ≡ Kernel → (t : Target) → IsSoundTarget kit g t → is_name t ≡ false
  not_name kernel (Place n k) h = refl
  not_name kernel (Abs n) h = refl
  not_name kernel (Edge n e) h = refl
  not_name kernel (Name n) h = let none = sound.kernel kernel in absurd (omega (arith, h, ap length none))
  not_name kernel Zero h = refl
  not_name kernel Gone h = refl

  module _ (i : ℕ) (d : Field) (h : i < length g.fields) where
    abbrev f : Field
    f = get_or g.fields i d

    abbrev at : ℕ
    at = place_of p g (body.Piece f.piece) + f.offset

    s : IsSoundField kit g f
    s = sound.fields i d h

    -- it lies in its piece
    pub inside : f.offset + width f.kind ≤ (piece_at g f.piece).size
    inside = let x = (sound.pieces f.piece no_piece s.piece).short in let y = s.inside in omega (arith, x, y)

    addend_small : cast_unsigned w64 f.addend < 2 ^ 64
    addend_small = cast_small f.addend s.addend

    -- a field's bytes are those of its value
    pub field_at : (j : ℕ) → j < width f.kind → part_byte kit inputs g gaps p (body.Piece f.piece) (f.offset + j) ≡ byte_of (filed_value kit p g f) j
    field_at j l =
        let here_is = field_is g sound.apart i d (f.offset + j) h (omega arith, omega (arith, l)) in
        let back : f.offset + j - f.offset ≡ j = omega arith in
        rw (here_is, back) refl

    field_byte : (j : ℕ) → j < width f.kind → byte_in (mem img) (at + j) ≡ byte_of (filed_value kit p g f) j
    field_byte j l =
        let byte = field_at j l in
        let place : at + j ≡ place_of p g (body.Piece f.piece) + (f.offset + j) = omega arith in
        let held = piece_held kit inputs g gaps order p origin laid small limit sound whole read f.piece (f.offset + j) s.piece (omega (arith, inside, l)) (in_file (piece_at g f.piece).class s.class) in
        rw place (held_byte (place_of p g (body.Piece f.piece) + (f.offset + j)) (part_byte kit inputs g gaps p (body.Piece f.piece) (f.offset + j)) (piece_at g f.piece).class held ∙ byte)

    field_num : num_in (mem img) at (width f.kind) ≡ filed_value kit p g f % 256 ^ width f.kind
    field_num = num_in_bytes (mem img) at (width f.kind) (filed_value kit p g f) field_byte

    at_small : at < 2 ^ 64
    at_small =
        let some = s.wide in
        let w = piece_area kit inputs g gaps order p origin laid small limit sound whole read f.piece f.offset s.piece (omega (arith, inside, some)) in
        omega (arith, w.1, le_top p (piece_at g f.piece).class is_ordered, is_top, base_limit)

    no_wrap : at % 2 ^ 64 ≡ at
    no_wrap = mod-eq_of_lt at_small

    gone : f.target ≡ Gone → num_in (mem img) at (width f.kind) ≡ 0
    gone e =
        let blank : is_blank kit f ≡ true = or_left (same_target f.target Gone) _ (ap (λ t. same_target t Gone) e) in
        let none : filed_value kit p g f ≡ 0 = rw blank refl in
        field_num ∙ (ap (λ v. v % 256 ^ width f.kind) none ∙ zero_mod (width f.kind))

    module _ (kernel : kit.kind ≡ Kernel) (stays : same_target f.target Gone ≡ false) (fits : does_fit p g f ≡ true) where
      not_blank : is_blank kit f ≡ false
      not_blank = or_none (same_target f.target Gone) _ stays (ap (λ k. not (is_kernel k) && is_loaded f.kind f.target) kernel)

      value_is : filed_value kit p g f ≡ field_value p g f
      value_is = rw not_blank refl

      in_range_is : in_range f.kind (field_value p g f) ≡ true
      in_range_is = rw stays at fits

      leads_by : way_of f ≡ (if is_slot_kind f.kind then BySlot else Directly)
      leads_by = way_is f.kind f.target (not_name kernel f.target s.target) stays

      direct : way_of f ≡ Directly → ReachesDirectly (mem img) at f.kind f.addend (address_of p g f.target)
      direct e =
          let target : value_target p g f ≡ address_of p g f.target = ap (led_to p g f.target) e in
          let same : field_value p g f ≡ value f.kind (address_of p g f.target) f.addend at = ap (λ t. value f.kind t f.addend (field_address p g f)) target ∙ ap (value f.kind (address_of p g f.target) f.addend) no_wrap in
          record {
            range = rw same at in_range_is;
            bytes = field_num ∙ ap (λ v. v % 256 ^ width f.kind) (value_is ∙ same);
          }

  -- slots
  pub got_size : made.got ≡ 8 * length (slots g)
  got_size = go kit.kind
    where
      go : (k : KitKind) → (made_for k kit g).got ≡ 8 * length (slots g)
      go Kernel = refl
      go Library = refl

  abbrev got : IsMadePart kit inputs g gaps order p origin laid small limit sound whole read (got_class kit.kind) 13 made.got 8
  got = got_part kit inputs g gaps order p origin laid small limit sound whole read

  got_area : (q : ℕ) → q < made.got → InArea p (class_number (got_class kit.kind)) ((area_at p 13).start + q)
  got_area q l = made_area kit inputs g gaps order p origin laid small limit sound whole read (got_class kit.kind) 13 made.got 8 got q l

  got_byte : (q : ℕ) → q < made.got → byte_in (mem img) ((area_at p 13).start + q) ≡ slice_index (got_bytes kit g p) q
  got_byte q l =
      held_byte ((area_at p 13).start + q) (slice_index (got_bytes kit g p) q) (got_class kit.kind)
      (made_held kit inputs g gaps order p origin laid small limit sound whole read (got_class kit.kind) 13 made.got 8 got q l)

  slot_target : (k : ℕ) → k < length (slots g) → IsSoundTarget kit g (get_or (slots g) k Zero)
  slot_target k l =
      let r = in_slots g (get_or (slots g) k Zero) (in_get (slots g) k Zero l) in
      subst (IsSoundTarget kit g) r.2 (all_in (IsSoundField kit g) g.fields r.0 sound.fields r.1).target

  pub slots_hold : kit.kind ≡ Kernel → SlotsHold img p g
  slots_hold kernel k l =
      let t = get_or (slots g) k Zero in
      let a = (area_at p 13).start + 8 * k in
      let v : slot_value kit p g t ≡ address_of p g t = ap (λ n. if not (is_kernel n) && is_moving t then 0 else address_of p g t) kernel in
      let num = num_in_bytes (mem img) a 8 (slot_value kit p g t) (λ j h.
      let e : a + j ≡ (area_at p 13).start + (8 * k + j) = omega arith in
      rw e (got_byte (8 * k + j) (omega (arith, got_size, l, h)) ∙ byte_of_words (slot_value kit p g) (slots g) k j Zero l h)) in
      num ∙ (ap (λ n. n % 256 ^ 8) v ∙ mod-eq_of_lt (address_small t (slot_target k l)))

  module _ (kernel : kit.kind ≡ Kernel) (i : ℕ) (d : Field) (h : i < length g.fields) (stays : same_target (get_or g.fields i d).target Gone ≡ false) (fits : does_fit p g (get_or g.fields i d) ≡ true)
      (slotted : is_slot_kind (get_or g.fields i d).kind ≡ true) where
    abbrev f2 : Field
    f2 = get_or g.fields i d

    abbrev at2 : ℕ
    at2 = place_of p g (body.Piece f2.piece) + f2.offset

    by : way_of f2 ≡ BySlot
    by = rw slotted at (leads_by i d h kernel stays fits)

    in_list : In f2.target (slots g)
    in_list = slot_there g f2 (in_get g.fields i d h) (ap takes_slot by)

    found_at : (k : ℕ) × (k < length (slots g)) × (position_from (same_target f2.target) 0 (slots g) ≡ Some (0 + k)) × (get_or (slots g) k Zero ≡ f2.target)
    found_at = position f2.target 0 (slots g) Zero in_list (target-refl f2.target)

    abbrev slot : ℕ
    slot = target_slot p g f2.target

    slot_is : slot ≡ (area_at p 13).start + 8 * found_at.0
    slot_is = let e = found_at.2 in let z : 0 + found_at.0 ≡ found_at.0 = omega arith in rw (e, z) refl

    slot_small : slot < 2 ^ 64
    slot_small =
        let w = got_area (8 * found_at.0) (omega (arith, got_size, found_at.1)) in
        omega (arith, slot_is, w.1, le_top p (got_class kit.kind) is_ordered, is_top, base_limit)

    -- the value of a type of a slot
    kind_value : value f2.kind slot f2.addend at2 ≡ less (plus slot (cast_unsigned w64 f2.addend)) at2
    kind_value = let k = slot_type f2.kind slotted in let some = k.some in let relative = k.relative in rw (some, relative) refl

    by_slot : ReachesBySlot (mem img) at2 f2.addend (address_of p g f2.target) slot
    by_slot =
        let v = field_value p g f2 in
        let kind = slot_type f2.kind slotted in
        let target : value_target p g f2 ≡ slot = ap (led_to p g f2.target) by ∙ mod-eq_of_lt slot_small in
        let same : v ≡ less (plus slot (cast_unsigned w64 f2.addend)) at2 =
        ap (λ t. value f2.kind t f2.addend (field_address p g f2)) target ∙ (ap (value f2.kind slot f2.addend) (no_wrap i d h) ∙ kind_value) in
        let signed = kind.range v (in_range_is i d h kernel stays fits) in
        let small_v : v < 2 ^ 64 = omega (arith, same, less_small (plus slot (cast_unsigned w64 f2.addend)) at2) in
        let num : num_in (mem img) at2 4 ≡ v % 2 ^ 32 = rw kind.width at (field_num i d h ∙ ap (λ v. v % 256 ^ width f2.kind) (value_is i d h kernel stays fits)) in
        let four : signed_4 (num_in (mem img) at2 4) ≡ v = ap signed_4 num ∙ signed_back v small_v signed in
        record {
          leads = ap (λ n. less (plus at2 n) (cast_unsigned w64 f2.addend)) four ∙ leads_back slot (cast_unsigned w64 f2.addend) at2 v slot_small (addend_small i d h) (at_small i d h) same;
          holds = ap (λ n. num_in (mem img) n 8) slot_is ∙ (slots_hold kernel found_at.0 found_at.1 ∙ ap (address_of p g) found_at.3);
        }

  -- each field reaches its target
  reach_one : kit.kind ≡ Kernel → (i : ℕ) (d : Field) → i < length g.fields → does_fit p g (get_or g.fields i d) ≡ true
      → LeadsBy (mem img) (kernel_places p g) (place_of p g (body.Piece (get_or g.fields i d).piece) + (get_or g.fields i d).offset) (get_or g.fields i d) (get_or g.fields i d).target (way_of (get_or g.fields i d))
  reach_one kernel i d h fits =
      let x = get_or g.fields i d in
      let leads : Way → Type 0 = λ w. LeadsBy (mem img) (kernel_places p g) (place_of p g (body.Piece x.piece) + x.offset) x x.target w in
      elim (cases_Bool (same_target x.target Gone)) [
        | inl a ↦
            let is : x.target ≡ Gone = target-is x.target Gone a in
            let no : way_of x ≡ Nowhere = ap (way x.kind) is in
            subst leads (sym no) (gone i d h is)
        | inr a ↦ elim (cases_Bool (is_slot_kind x.kind)) [
          | inl k ↦ subst leads (sym (by kernel i d h a fits k)) (by_slot kernel i d h a fits k)
          | inr k ↦ let go : way_of x ≡ Directly = rw k at (leads_by i d h kernel a fits) in subst leads (sym go) (direct i d h kernel a fits go)
        ]
      ]

  heads_are : File img (head_for kit.kind (segments_for kit.kind (page_of kit g) p) p g) (segments_for kit.kind (page_of kit g) p)
  heads_are = file p is_ordered base_limit is_top kit inputs g gaps page_small dynamic_small (entry_small g.entry sound.entry)

  -- THE LAW for kernels.
  pub carries_graph : kit.kind ≡ Kernel → All (λ f. does_fit p g f ≡ true) g.fields → NamesPieces p g gaps → CarriesGraph img p kit inputs g gaps order
  carries_graph kernel fits names = record {
    laid = laid;
    small = small;
    names = names;
    apart = are_apart kit inputs g gaps order p origin laid small limit sound whole read;
    contents = contents kit inputs g gaps order p origin laid small limit sound whole read;
    reached = subst (λ k. Reached k img p inputs g (page_of kit g) (span kit g gaps order made)) (sym kernel)
        (λ i d h. reach_one kernel i d h (fits i d h));
    made = subst (λ k. MadeHolds k img p kit inputs g) (sym kernel) (slots_hold kernel);
    padded = padded kit inputs g gaps order p origin laid small limit sound whole read;
    file = heads_are;
  }

  -- THE LAW for what the file of a library holds.
  module _ (library : kit.kind ≡ Library) (bytes : HasMadeBytes kit inputs g p) where
    area_holds : (c : Class) (n size align : ℕ) → IsMadePart kit inputs g gaps order p origin laid small limit sound whole read c n size align
        → length (made_bytes kit inputs g p n) ≡ size → AreaHolds img p n c (made_bytes kit inputs g p n)
    area_holds c n size align m e k l = made_held kit inputs g gaps order p origin laid small limit sound whole read c n size align m k (omega (arith, e, l))

    blank_field : (i : ℕ) (d : Field) → i < length g.fields → is_loaded (get_or g.fields i d).kind (get_or g.fields i d).target ≡ true
        → num_in (mem img) (place_of p g (body.Piece (get_or g.fields i d).piece) + (get_or g.fields i d).offset) 8 ≡ 0
    blank_field i d h e =
        let x = get_or g.fields i d in
        let type : x.kind ≡ R_X86_64_64 = loaded_kind x.kind x.target e in
        let blank : is_blank kit x ≡ true = or_right (same_target x.target Gone) _ (ap (λ k. not (is_kernel k) && is_loaded x.kind x.target) library ∙ e) in
        let none : filed_value kit p g x ≡ 0 = rw blank refl in
        let eight : width x.kind ≡ 8 = ap width type in
        rw (eight, none) at (field_num i d h)

    pub library_made : LibraryMade img p kit inputs g
    library_made = record {
      stubs = area_holds Text 6 made.stubs 16 (stubs_part kit inputs g gaps order p origin laid small limit sound whole read) bytes.stubs;
      tables = area_holds Rodata 8 made.tables 8 (tables_part kit inputs g gaps order p origin laid small limit sound whole read) bytes.tables;
      got = subst (λ c. AreaHolds img p 13 c (made_bytes kit inputs g p 13)) (ap got_class library) (area_holds (got_class kit.kind) 13 made.got 8 got bytes.got);
      dynamic = area_holds Rwdata 14 made.dynamic 8 (dynamic_part kit inputs g gaps order p origin laid small limit sound whole read) bytes.dynamic;
      blank = blank_field;
    }

    pub library_holds : LibraryHolds img p kit inputs g gaps order
    library_holds = record {
      apart = are_apart kit inputs g gaps order p origin laid small limit sound whole read;
      contents = contents kit inputs g gaps order p origin laid small limit sound whole read;
      fields = λ i d h. field_num i d h;
      made = library_made;
      padded = padded kit inputs g gaps order p origin laid small limit sound whole read;
      file = heads_are;
    }
