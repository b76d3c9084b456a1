-- Where the entries of a library write: in data, each in eight bytes of its own.
use Rattle.std.proofs.Common.{ℕ, zero, suc, ◌≡◌, ◌+◌, ◌*◌, ◌%◌, ◌^◌, ◌<◌, ◌≤◌, ◌∙◌, ◌⊎◌, List, [], ◌∷◌, length, get_or, refl, ap, sym, subst, arith, Bool, true, false, not, ◌&&◌, inl, inr, nat_eq}
use Rattle.std.specs.Prelude.{All, AllPairs, Option, Some, None, nat_le, option_to_list, ◌==◌, cond, if◌then◌else◌}
use Rattle.std.specs.List.{list_any}
use Rattle.std.proofs.lemmas.Bool.{cases_Bool, cases_lt, eqb-true, le-leb, ne_eqb}
use Rattle.kl_base.specs.declared.class.Class.{Class}
use Rattle.kl_base.specs.declared.class.Class.TheVariants.{Text, Rwdata}
use Rattle.kl_base.specs.declared.limits.TheConstants.{SPAN_LIMIT}
use Rattle.kl_elf.specs.declared.abi.TheConstants.{PT_LOAD, R_X86_64_64}
use Rattle.kl_elf.specs.declared.records.Phdr.{Phdr}
use Rattle.kl_model.proofs.ClassMemory.{InOrder}
use Rattle.kl_model.proofs.Covered.{In, here, in_each, in_left, in_right, IsWhole}
use Rattle.kl_model.proofs.Each.{all-only_if, each-all, each-pairs, pairs-append, pairs-only_if}
use Rattle.kl_model.specs.Areas.{class_number, same_class}
use Rattle.kl_model.specs.Carries.{class_size, library_segment, library_segments, no_piece, piece_at}
use Rattle.kl_model.specs.Laid.{area_at, place_of}
use Rattle.kl_model.specs.Leads.{slot_place}
use Rattle.kl_model.specs.Line.{class_line, classes, every_part, gap_parts, made_parts, piece_part}
use Rattle.kl_model.specs.Lists.{each, only_if}
use Rattle.kl_model.specs.Loaded.{is_covered}
use Rattle.kl_model.specs.Memory.{segments}
use Rattle.kl_model.specs.Relocations.{width}
use Rattle.kl_model.specs.Sizes.{made_for, made_of, page_of}
use Rattle.kl_model.specs.Slots.{Entry, InPiece, InSlot, entries, field_entry, is_loaded, is_read_only, slot_entry, slots, stubs}
use Rattle.kl_model.specs.Tables.{rela_of, spot_at}
use Rattle.kl_model.specs.declared.graph.Field.{Field}
use Rattle.kl_model.specs.declared.graph.Graph.{Graph}
use Rattle.kl_model.specs.declared.graph.Target.{Target}
use Rattle.kl_model.specs.declared.graph.Target.TheVariants.{Place, Abs, Edge, Name, Zero, Gone}
use Rattle.kl_model.specs.declared.kit.Kit.{Kit}
use Rattle.kl_model.specs.declared.kit.KitKind.TheVariants.{Library}
use Rattle.kl_model.specs.declared.place.Body.TheVariants as body
use Rattle.kl_model.specs.declared.place.Gaps.{Gaps}
use Rattle.kl_model.specs.declared.place.LinePart.{LinePart}
use Rattle.kl_model.specs.declared.place.Made.{Made}
use Rattle.kl_model.specs.declared.place.Placement.{Placement}
use Rattle.kl_write.proofs.FileSegments.{in_segments}
use Rattle.kl_write.proofs.ImageFile.{le_top}
use Rattle.kl_write.proofs.SlotWords.{in_any}
use Rattle.kl_write.proofs.SoundLaid.{ordered, piece_home, same_classes, top, two_apart, within}
use Rattle.kl_write.proofs.Stands.{got_class, got_in, stubs_in}
use Rattle.kl_write.proofs.WholeOrder.{whole_order}
use Rattle.kl_write.specs.LaidKits.{IsLaidKit}
use Rattle.kl_loading.specs.CarriedOut.{AreApart, EntriesApart}

-- the place of an entry of a field, whatever it leads to
pub field_spot : (f : Field) (t : Target) → (field_entry f t).spot ≡ InPiece f.piece f.offset
field_spot f (Place n k) = refl
field_spot f (Abs n) = refl
field_spot f (Edge n e) = refl
field_spot f (Name n) = refl
field_spot f Zero = refl
field_spot f Gone = refl

-- what holds of the entry of a slot, where it has one
pub slot_all : (P : Entry → Type 0) (g : Graph) (k : ℕ) (t : Target) → ((e : Entry) → e.spot ≡ InSlot k → P e) → All P (option_to_list (slot_entry g k t))
slot_all P g k (Name n) h zero d l = h _ refl
slot_all P g k (Name n) h (suc i) d l = absurd (omega (arith, l))
slot_all P g k (Place n j) h zero d l = h _ refl
slot_all P g k (Place n j) h (suc i) d l = absurd (omega (arith, l))
slot_all P g k (Edge n e) h zero d l = h _ refl
slot_all P g k (Edge n e) h (suc i) d l = absurd (omega (arith, l))
slot_all P g k (Abs n) h i d l = absurd (omega (arith, l))
slot_all P g k Zero h i d l = absurd (omega (arith, l))
slot_all P g k Gone h i d l = absurd (omega (arith, l))

slot_pairs : (R : Entry → Entry → Type 0) (g : Graph) (k : ℕ) (t : Target) → AllPairs R (option_to_list (slot_entry g k t))
slot_pairs R g k (Name n) i j d l m = absurd (omega (arith, l, m))
slot_pairs R g k (Place n x) i j d l m = absurd (omega (arith, l, m))
slot_pairs R g k (Edge n x) i j d l m = absurd (omega (arith, l, m))
slot_pairs R g k (Abs n) i j d l m = absurd (omega (arith, m))
slot_pairs R g k Zero i j d l m = absurd (omega (arith, m))
slot_pairs R g k Gone i j d l m = absurd (omega (arith, m))

-- what a loader writes is eight bytes wide, and in data where it isn't refused
pub loaded_wide : (kind : ℕ) (t : Target) → is_loaded kind t ≡ true → width kind ≡ 8
loaded_wide kind t e = elim (cases_Bool (nat_eq kind R_X86_64_64)) [
  | inl k ↦ ap width (eqb-true kind R_X86_64_64 k)
  | inr k ↦ (let none : false ≡ true = rw k at e in cc)
]

loaded_data : (c : Class) (kind : ℕ) (t : Target) → is_loaded kind t ≡ true → is_read_only c kind t ≡ false → c ≡ Rwdata
loaded_data c kind t e f = same_classes c Rwdata (eqb-true (class_number c) (class_number Rwdata) (go (same_class c Rwdata) (rw e at f)))
  where
    go : (b : Bool) → not b ≡ false → b ≡ true
    go true h = refl
    go false h = cc

module _ (kit : Kit) (g : Graph) (gaps : Option Gaps) (order : List ℕ) (p : Placement) (library : kit.kind ≡ Library) (l : IsLaidKit kit g gaps order p)
    (writable : All (λ f. is_read_only (piece_at g f.piece).class f.kind f.target ≡ false) g.fields) where
  abbrev made : Made
  made = made_of kit g

  whole : IsWhole g order
  whole = whole_order g order l.whole

  pub base_zero : p.base ≡ 0
  base_zero = l.laid.base ∙ l.origin library

  pub in_order : InOrder p
  in_order = ordered kit g gaps order made p l.laid l.small l.base l.sound whole

  pub in_span : (c : Class) → (area_at p (class_number c)).end ≤ SPAN_LIMIT
  in_span c = omega (arith, base_zero, le_top p c in_order, top kit g gaps order made p l.laid l.small l.base l.sound whole)

  got_size : made.got ≡ 8 * length (slots g)
  got_size = ap (λ k. (made_for k kit g).got) library

  got_made : (k : ℕ) → k < length (slots g) → In (record { body = body.Area 13; size = made.got; align = 8 }) (made_parts 13 made.got 8)
  got_made k h = let some : nat_eq made.got 0 ≡ false = ne_eqb made.got 0 (λ e. omega (arith, e, got_size, h)) in rw some here

  got_part : (k : ℕ) → k < length (slots g) → In (record { body = body.Area 13; size = made.got; align = 8 }) (every_part g gaps made)
  got_part k h =
      in_right (each g.pieces (λ n x. piece_part n x ∷ [])) (in_right (gaps_of gaps)
      (in_right (made_parts 6 made.stubs 16) (in_right (made_parts 8 made.tables 8) (in_left (made_parts 14 made.dynamic 8) (got_made k h)))))
    where
      gaps_of : Option Gaps → List LinePart
      gaps_of z = Rattle.std.specs.Prelude.flat_map (gap_parts z) classes

  piece_in_parts : (n : ℕ) → n < length g.pieces → In (piece_part n (piece_at g n)) (every_part g gaps made)
  piece_in_parts n h =
      in_left _ (in_each (λ n x. piece_part n x ∷ []) 0 g.pieces n no_piece (piece_part n (piece_at g n)) h (let z : 0 + n ≡ n = omega arith in rw z here))

  -- the table of slots stands in data
  pub got_within : (k : ℕ) → k < length (slots g) → ((area_at p 2).start ≤ slot_place p k) × (slot_place p k + 8 ≤ (area_at p 2).end)
  got_within k h =
      let i = got_in kit g gaps order made (record { body = body.Area 13; size = made.got; align = 8 }) (got_made k h) in
      let i1 : In (record { body = body.Area 13; size = made.got; align = 8 }) (class_line kit g gaps order made Rwdata) =
      subst (λ c. In (record { body = body.Area 13; size = made.got; align = 8 }) (class_line kit g gaps order made c)) (ap got_class library) i in
      let w = within kit g gaps order made p l.laid l.small l.base l.sound whole Rwdata (record { body = body.Area 13; size = made.got; align = 8 }) i1 in
      (omega (arith, w.0), omega (arith, w.1, got_size, h))

  -- the stubs stand in text
  pub stub_within : (k : ℕ) → k < length (stubs g) → ((area_at p 0).start ≤ (area_at p 6).start + 16 * k) × ((area_at p 6).start + 16 * k + 16 ≤ (area_at p 0).end)
  stub_within k h =
      let size : made.stubs ≡ 16 * length (stubs g) = ap (λ k. (made_for k kit g).stubs) library in
      let some : nat_eq made.stubs 0 ≡ false = ne_eqb made.stubs 0 (λ e. omega (arith, e, size, h)) in
      let there : In (record { body = body.Area 6; size = made.stubs; align = 16 }) (made_parts 6 made.stubs 16) = rw some here in
      let w = within kit g gaps order made p l.laid l.small l.base l.sound whole Text (record { body = body.Area 6; size = made.stubs; align = 16 }) (stubs_in kit g gaps order made _ there) in
      (omega (arith, w.0), omega (arith, w.1, size, h))

  -- a piece stands in its class
  pub piece_within : (n : ℕ) → n < length g.pieces
      → ((area_at p (class_number (piece_at g n).class)).start ≤ place_of p g (body.Piece n)) × (place_of p g (body.Piece n) + (piece_at g n).size ≤ (area_at p (class_number (piece_at g n).class)).end)
  piece_within n h =
      within kit g gaps order made p l.laid l.small l.base l.sound whole (piece_at g n).class (piece_part n (piece_at g n)) (piece_home kit g gaps order made p l.laid l.small l.base l.sound whole n h)

  -- a field lies in its piece
  pub field_inside : (i : ℕ) (d : Field) → i < length g.fields → (get_or g.fields i d).offset + width (get_or g.fields i d).kind ≤ (piece_at g (get_or g.fields i d).piece).size
  field_inside i d h = let s = l.sound.fields i d h in let x = (l.sound.pieces (get_or g.fields i d).piece no_piece s.piece).short in let y = s.inside in omega (arith, x, y)

  -- a loaded field stands in data
  pub loaded_within : (i : ℕ) (d : Field) → i < length g.fields → is_loaded (get_or g.fields i d).kind (get_or g.fields i d).target ≡ true
      → ((area_at p 2).start ≤ place_of p g (body.Piece (get_or g.fields i d).piece) + (get_or g.fields i d).offset)
      × (place_of p g (body.Piece (get_or g.fields i d).piece) + (get_or g.fields i d).offset + 8 ≤ (area_at p 2).end)
  loaded_within i d h e =
      let f = get_or g.fields i d in
      let c : (piece_at g f.piece).class ≡ Rwdata = loaded_data (piece_at g f.piece).class f.kind f.target e (writable i d h) in
      let w = piece_within f.piece (l.sound.fields i d h).piece in
      let number : class_number (piece_at g f.piece).class ≡ 2 = ap class_number c in
      let start = ap (λ n. (area_at p n).start) number in
      let end = ap (λ n. (area_at p n).end) number in
      let wide = loaded_wide f.kind f.target e in
      let inside = field_inside i d h in
      (omega (arith, w.0, start), omega (arith, w.1, end, inside, wide))

  -- an address below the span's end is kept as it is
  pub plain_spot : (a : ℕ) → a + 8 ≤ (area_at p 2).end → a % 2 ^ 64 ≡ a
  plain_spot a h = omega (arith, h, in_span Rwdata)

  -- every entry writes in data
  abbrev pub IsInData : Entry → Type 0
  IsInData e = ((area_at p 2).start ≤ spot_at p g e.spot) × (spot_at p g e.spot + 8 ≤ (area_at p 2).end)

  field_in_data : (i : ℕ) (d : Field) → i < length g.fields → is_loaded (get_or g.fields i d).kind (get_or g.fields i d).target ≡ true → IsInData (field_entry (get_or g.fields i d) (get_or g.fields i d).target)
  field_in_data i d h e =
      let f = get_or g.fields i d in
      let w = loaded_within i d h e in
      let same = plain_spot (place_of p g (body.Piece f.piece) + f.offset) w.1 in
      rw (field_spot f f.target, same) w

  slot_in_data : (k : ℕ) → k < length (slots g) → (e : Entry) → e.spot ≡ InSlot k → IsInData e
  slot_in_data k h e s = let w = got_within k h in let same = plain_spot (slot_place p k) w.1 in rw (s, same) w

  pub all_in_data : All IsInData (entries g)
  all_in_data =
      Rattle.std.proofs.lemmas.List.Elements.All-append IsInData (each g.fields (λ k f. only_if (is_loaded f.kind f.target) (field_entry f f.target))) (each (slots g) (λ k t. option_to_list (slot_entry g k t)))
      (each-all IsInData 0 (λ k f. only_if (is_loaded f.kind f.target) (field_entry f f.target)) g.fields
      (λ k d h. all-only_if IsInData (is_loaded (get_or g.fields k d).kind (get_or g.fields k d).target) (field_entry (get_or g.fields k d) (get_or g.fields k d).target) (field_in_data k d h)))
      (each-all IsInData 0 (λ k t. option_to_list (slot_entry g k t)) (slots g)
      (λ k d h. let z : 0 + k ≡ k = omega arith in rw z (slot_all IsInData g k (get_or (slots g) k d) (slot_in_data k h))))

  -- the eight bytes of a loaded field and of a slot
  abbrev pub field_at : ℕ → Field → ℕ
  field_at i d = place_of p g (body.Piece (get_or g.fields i d).piece) + (get_or g.fields i d).offset

  abbrev IsLoaded : ℕ → Field → Type 0
  IsLoaded i d = is_loaded (get_or g.fields i d).kind (get_or g.fields i d).target ≡ true

  pub spot_field : (i : ℕ) (d : Field) → i < length g.fields → IsLoaded i d → spot_at p g (field_entry (get_or g.fields i d) (get_or g.fields i d).target).spot ≡ field_at i d
  spot_field i d h e = let f = get_or g.fields i d in rw (field_spot f f.target) (plain_spot (place_of p g (body.Piece f.piece) + f.offset) (loaded_within i d h e).1)

  -- parts of pieces that differ share no byte
  pub pieces_apart : (n m : ℕ) → n < length g.pieces → m < length g.pieces → n < m
      → (place_of p g (body.Piece n) + (piece_at g n).size ≤ place_of p g (body.Piece m)) ⊎ (place_of p g (body.Piece m) + (piece_at g m).size ≤ place_of p g (body.Piece n))
  pieces_apart n m h k less =
      two_apart kit g gaps order made p l.laid l.small l.base l.sound whole (piece_part n (piece_at g n)) (piece_part m (piece_at g m)) (piece_in_parts n h) (piece_in_parts m k) less

  -- no two fields share a byte, and none shares one with a slot
  pub any_two : (k j : ℕ) (d : Field) → k < j → j < length g.fields → AreApart (field_at k d) (width (get_or g.fields k d).kind) (field_at j d) (width (get_or g.fields j d).kind)
  any_two k j d less h =
      let x = get_or g.fields k d in
      let y = get_or g.fields j d in
      let first : k < length g.fields = omega (arith, less, h) in
      let ix = field_inside k d first in
      let iy = field_inside j d h in
      elim (cases_lt x.piece y.piece) [
        | inl a ↦ elim (pieces_apart x.piece y.piece (l.sound.fields k d first).piece (l.sound.fields j d h).piece a) [ inl q ↦ inl (omega (arith, q, ix)) | inr q ↦ inr (omega (arith, q, iy)) ]
        | inr a ↦ elim (cases_lt y.piece x.piece) [
          | inl b ↦ elim (pieces_apart y.piece x.piece (l.sound.fields j d h).piece (l.sound.fields k d first).piece b) [ inl q ↦ inr (omega (arith, q, iy)) | inr q ↦ inl (omega (arith, q, ix)) ]
          | inr b ↦
              let same : x.piece ≡ y.piece = omega (arith, a, b) in
              let place = ap (λ n. place_of p g (body.Piece n)) same in
              elim (l.sound.apart k j d less h same) [ inl q ↦ inl (omega (arith, q, place)) | inr q ↦ inr (omega (arith, q, place)) ]
        ]
      ]

  pub any_slot : (i : ℕ) (d : Field) (k : ℕ) → i < length g.fields → k < length (slots g) → AreApart (field_at i d) (width (get_or g.fields i d).kind) (slot_place p k) 8
  any_slot i d k h m =
      let x = get_or g.fields i d in
      let n = (l.sound.fields i d h).piece in
      let inside = field_inside i d h in
      elim (two_apart kit g gaps order made p l.laid l.small l.base l.sound whole (piece_part x.piece (piece_at g x.piece)) (record { body = body.Area 13; size = made.got; align = 8 })
      (piece_in_parts x.piece n) (got_part k m) (omega (arith, n))) [
        | inl q ↦ inl (omega (arith, q, inside))
        | inr q ↦ inr (omega (arith, q, got_size, m))
      ]

  two_fields : (k j : ℕ) (d : Field) → k < j → j < length g.fields → IsLoaded k d → IsLoaded j d → AreApart (field_at k d) 8 (field_at j d) 8
  two_fields k j d less h e f = rw (loaded_wide (get_or g.fields k d).kind _ e, loaded_wide (get_or g.fields j d).kind _ f) at (any_two k j d less h)

  pub field_slot : (i : ℕ) (d : Field) (k : ℕ) → i < length g.fields → k < length (slots g) → IsLoaded i d → AreApart (field_at i d) 8 (slot_place p k) 8
  field_slot i d k h m e = rw (loaded_wide (get_or g.fields i d).kind _ e) at (any_slot i d k h m)

  -- no two entries share a byte
  abbrev pub Apart : Entry → Entry → Type 0
  Apart e f = EntriesApart (rela_of p g e) (rela_of p g f)

  apart_of : (e f : Entry) (a b : ℕ) → spot_at p g e.spot ≡ a → spot_at p g f.spot ≡ b → AreApart a 8 b 8 → Apart e f
  apart_of e f a b s t h = rw (s, t) h

  pub slot_spot : (e : Entry) (k : ℕ) → k < length (slots g) → e.spot ≡ InSlot k → spot_at p g e.spot ≡ slot_place p k
  slot_spot e k h s = rw s (plain_spot (slot_place p k) (got_within k h).1)

  abbrev of_field : ℕ → Field → List Entry
  of_field k f = only_if (is_loaded f.kind f.target) (field_entry f f.target)

  abbrev of_slot : ℕ → Target → List Entry
  of_slot k t = option_to_list (slot_entry g k t)

  fields_apart : AllPairs Apart (each g.fields of_field)
  fields_apart =
      each-pairs Apart 0 of_field g.fields
      (λ k d h. pairs-only_if Apart (is_loaded (get_or g.fields k d).kind (get_or g.fields k d).target) (field_entry (get_or g.fields k d) (get_or g.fields k d).target))
      (λ k j d less h.
      let x = get_or g.fields k d in let y = get_or g.fields j d in
      all-only_if (λ e. All (Apart e) (of_field (0 + j) y)) (is_loaded x.kind x.target) (field_entry x x.target) (λ e.
      all-only_if (Apart (field_entry x x.target)) (is_loaded y.kind y.target) (field_entry y y.target) (λ f.
      apart_of (field_entry x x.target) (field_entry y y.target) (field_at k d) (field_at j d) (spot_field k d (omega (arith, less, h)) e) (spot_field j d h f) (two_fields k j d less h e f))))

  slots_apart : AllPairs Apart (each (slots g) of_slot)
  slots_apart =
      each-pairs Apart 0 of_slot (slots g) (λ k d h. slot_pairs Apart g (0 + k) (get_or (slots g) k d))
      (λ k j d less h.
      let zk : 0 + k ≡ k = omega arith in let zj : 0 + j ≡ j = omega arith in
      rw (zk, zj) (slot_all (λ e. All (Apart e) (of_slot j (get_or (slots g) j d))) g k (get_or (slots g) k d) (λ e s.
      slot_all (Apart e) g j (get_or (slots g) j d) (λ f t.
      apart_of e f (slot_place p k) (slot_place p j) (slot_spot e k (omega (arith, less, h)) s) (slot_spot f j h t) (inl (omega (arith, less)))))))

  pub all_apart : AllPairs Apart (entries g)
  all_apart =
      pairs-append Apart (each g.fields of_field) (each (slots g) of_slot) fields_apart slots_apart
      (each-all (λ e. All (Apart e) (each (slots g) of_slot)) 0 of_field g.fields (λ k d h.
      let x = get_or g.fields k d in
      all-only_if (λ e. All (Apart e) (each (slots g) of_slot)) (is_loaded x.kind x.target) (field_entry x x.target) (λ e.
      each-all (Apart (field_entry x x.target)) 0 of_slot (slots g) (λ m t q.
      let z : 0 + m ≡ m = omega arith in
      rw z (slot_all (Apart (field_entry x x.target)) g m (get_or (slots g) m t) (λ f s.
      apart_of (field_entry x x.target) f (field_at k d) (slot_place p m) (spot_field k d h e) (slot_spot f m q s) (field_slot k d m h q e)))))))

  -- what lies in data is in memory
  pub covered_data : (img : List ℕ) (a : ℕ) → segments img ≡ library_segments (page_of kit g) p → (area_at p 2).start ≤ a → a + 8 ≤ (area_at p 2).end → is_covered img a ≡ true
  covered_data img a headers low high =
      subst (λ ss. list_any (λ (s : Phdr). (s.kind == PT_LOAD) && (nat_le s.vaddr a && nat_le (a + 8) (s.vaddr + s.memsz))) ss ≡ true) (sym headers)
      (in_any (λ (s : Phdr). (s.kind == PT_LOAD) && (nat_le s.vaddr a && nat_le (a + 8) (s.vaddr + s.memsz))) (library_segments (page_of kit g) p) (library_segment (page_of kit g) p Rwdata)
      (in_segments Library (page_of kit g) p Rwdata a (low, omega (arith, high))) covers)
    where
      from : nat_le (area_at p 2).start a ≡ true
      from = le-leb (area_at p 2).start a low

      to : nat_le (a + 8) ((area_at p 2).start + class_size p Rwdata) ≡ true
      to = le-leb (a + 8) ((area_at p 2).start + class_size p Rwdata) (omega (arith, low, high))

      covers : nat_le (area_at p 2).start a && nat_le (a + 8) ((area_at p 2).start + class_size p Rwdata) ≡ true
      covers = rw (from, to) refl
