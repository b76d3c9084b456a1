-- The parts of a kit that is laid out stand in the span.
use Rattle.std.proofs.Common.{get_or, ℕ, ◌≡◌, ◌+◌, ◌-◌, ◌^◌, ◌<◌, ◌≤◌, ◌∙◌, List, length, map, refl, ap, sym, subst, arith, inl, inr, length-append}
use Rattle.std.specs.Prelude.{All, Some, None, Option, IfSome, is_some, true}
use Rattle.std.specs.Option.{option_map_or}
use Rattle.std.proofs.lemmas.Bool.{cases_lt}
use Rattle.std.proofs.lemmas.List.{length-map}
use Rattle.kl_base.specs.declared.class.Class.{Class}
use Rattle.kl_base.specs.declared.class.Class.TheVariants.{Text, Rodata, Rwdata, Bss}
use Rattle.kl_base.specs.declared.limits.TheConstants.{BASE_LIMIT, SPAN_LIMIT}
use Rattle.kl_model.specs.Areas.{class_number}
use Rattle.kl_model.specs.Carries.{InArea, gap_names, piece_at, segments_for}
use Rattle.kl_model.specs.Laid.{AreasStand, area_at, class_end, place_of, reach, start_of, end_of}
use Rattle.kl_model.specs.Line.{Spread, area_spread, class_line, gap_size, got_spread, last_spreads, made_spread, piece_part, run_spreads, spreads}
use Rattle.kl_model.specs.Lists.{up}
use Rattle.kl_model.specs.Sizes.{made_of, page_for, page_of, text_from}
use Rattle.kl_model.specs.Relocations.{relocation_type}
use Rattle.kl_model.specs.Slots.{slots}
use Rattle.kl_model.specs.declared.relocation.RelocationType.{RelocationType}
use Rattle.kl_model.specs.declared.graph.Graph.{Graph}
use Rattle.kl_model.specs.declared.kit.Kit.{Kit}
use Rattle.kl_model.specs.declared.kit.KitKind.{KitKind}
use Rattle.kl_model.specs.declared.kit.KitKind.TheVariants.{Kernel, Library}
use Rattle.kl_model.specs.declared.object.Input.{Input}
use Rattle.kl_model.specs.declared.place.Body.TheVariants as body
use Rattle.kl_model.specs.declared.place.Gaps.{Gaps}
use Rattle.kl_model.specs.declared.place.Made.{Made}
use Rattle.kl_model.specs.declared.place.Placed.{Placed}
use Rattle.kl_model.specs.declared.place.Placement.{Placement}
use Rattle.kl_model.specs.declared.graph.Piece.{Piece}
use Rattle.kl_model.specs.declared.graph.PieceId.{PieceId}
use Rattle.kl_model.proofs.ClassMemory.{InOrder, start_past_base}
use Rattle.kl_model.proofs.Covered.{In, here, there, in_right, IsWhole}
use Rattle.kl_model.proofs.InOrder.{area_is, base-le, end-reach, le-start, le-up, page-pos}
use Rattle.kl_write.proofs.AreaFound.{aligned-of, area_in_class, found}
use Rattle.kl_write.proofs.Homes.{aligned-spreads}
use Rattle.kl_write.proofs.ImageFile.{all_in, le_top}
use Rattle.kl_write.proofs.FileBytes.{HeadersRead}
use Rattle.kl_write.proofs.LawBytes.{IsMadePart, dynamic_part, got_part, made_within, stands_within, stubs_part, tables_part}
use Rattle.kl_write.proofs.LawFields.{base_limit, few, inside, is_ordered, is_top, read}
use Rattle.kl_write.proofs.FileEnds.{IsInData}
use Rattle.kl_write.proofs.FileSegments.{headers_size}
use Rattle.kl_write.specs.Segments.{IsPageOf}
use Rattle.kl_write.proofs.Places.{le_unwrapped}
use Rattle.kl_write.proofs.SlotWords.{in_slots}
use Rattle.kl_write.proofs.SoundLaid.{in_get, FourClasses, four_classes, piece_home, positive}
use Rattle.kl_write.proofs.Stands.{gap_in, got_class}
use Rattle.kl_write.proofs.WholeOrder.{whole_order}
use Rattle.kl_write.specs.InSpan.{AreFieldsInside, AreGapsInSpan, ArePiecesInSpan, AreShort, HasAreaRoom, IsAreaInSpan}
use Rattle.kl_write.specs.Targets.{IsPlacedTarget}
use Rattle.kl_write.specs.Values.{IsPlacedField}
use Rattle.kl_model.specs.Sound.{IsSoundField, IsSoundTarget}
use Rattle.kl_model.specs.declared.graph.Target.{Target}
use Rattle.kl_model.specs.declared.graph.Target.TheVariants.{Place, Abs, Edge, Name, Zero, Gone}
use Rattle.kl_write.specs.LaidKits.{HasAreaAddresses, IsLaidKit, image_headers}

-- a type whose field has a width is linked
wide_kind : (o : Option RelocationType) → 0 < option_map_or (λ row. row.width) o 0 → is_some o ≡ true
wide_kind None h = absurd (omega (arith, h))
wide_kind (Some row) h = refl

-- a kernel's page
pub page_is : (kit : Kit) (g : Graph) → IsPageOf kit.kind (page_of kit g)
page_is kit g e = ap (λ k. page_for k g) e

module _ (kit : Kit) (inputs : List Input) (g : Graph) (gaps : Option Gaps) (order : List ℕ) (p : Placement) (l : IsLaidKit kit g gaps order p) (numbers : HasAreaAddresses p) where
  abbrev made : Made
  made = made_of kit g

  whole : IsWhole g order
  whole = whole_order g order l.whole

  heads : HeadersRead kit inputs g gaps p
  heads = read kit inputs g gaps order p l.origin l.laid l.small l.base l.sound whole numbers

  pub zero : kit.kind ≡ Library → p.base ≡ 0
  zero e = l.laid.base ∙ l.origin e

  pub ordered : InOrder p
  ordered = is_ordered kit inputs g gaps order p l.origin l.laid l.small l.base l.sound whole numbers

  base_small : p.base < 2 ^ 64
  base_small = let b = base_limit kit inputs g gaps order p l.origin l.laid l.small l.base l.sound whole numbers in omega (arith, b)

  in_top : (c : Class) → (area_at p (class_number c)).end ≤ p.base + SPAN_LIMIT
  in_top c = omega (arith, le_top p c ordered, is_top kit inputs g gaps order p l.origin l.laid l.small l.base l.sound whole numbers)

  known : (n : ℕ) → n < 15 → n < length p.areas
  known n h = let e = l.laid.count in omega (arith, e, h)

  four : FourClasses kit g gaps order made p
  four = four_classes kit g gaps order made p l.laid l.small l.base l.sound whole

  pub text_span : IsAreaInSpan p 0
  text_span = record { known = known 0 (omega arith); starts = ordered.base; ordered = ordered.text; ends = in_top Text }

  pub class_span : (c : Class) → IsAreaInSpan p (class_number c)
  class_span Text = text_span
  class_span Rodata = record { known = known 1 (omega arith); starts = start_past_base p Rodata ordered; ordered = ordered.rodata; ends = in_top Rodata }
  class_span Rwdata = record { known = known 2 (omega arith); starts = start_past_base p Rwdata ordered; ordered = ordered.rwdata; ends = in_top Rwdata }
  class_span Bss = record { known = known 3 (omega arith); starts = start_past_base p Bss ordered; ordered = ordered.bss; ends = in_top Bss }

  pub base_fits : p.base ≤ BASE_LIMIT
  base_fits = base_limit kit inputs g gaps order p l.origin l.laid l.small l.base l.sound whole numbers

  -- an area of a class
  area_span : (c : Class) (from n : ℕ) (s : Spread) → AreasStand p (place_of p g) from (spreads kit g gaps order made c) → p.base ≤ from
      → reach from (class_line kit g gaps order made c) ≡ (area_at p (class_number c)).end → In s (spreads kit g gaps order made c) → s.area ≡ Some n → n < 15 → IsAreaInSpan p n
  area_span c from n s stands past end i e h =
      let all = aligned-spreads kit g gaps order made (positive kit g gaps order made p l.laid l.small l.base l.sound whole) c in
      let f = found p (place_of p g) from (spreads kit g gaps order made c) n s stands all i e in
      let own = aligned-of s (spreads kit g gaps order made c) all i in
      let start = le-start (place_of p g) f.begin s.parts own f.stand in
      let stop = end-reach (place_of p g) f.begin s.parts f.stand in
      let top = in_top c in
      let more = f.past in
      let ends = f.ends in
      let both = area_is p n (start_of (place_of p g) f.begin s.parts) (end_of (place_of p g) f.begin s.parts) f.is base_small
      (omega (arith, start.0, more, past)) (omega (arith, start.1, stop)) (omega (arith, ends, end, top)) in
      record {
        known = known n h;
        starts = omega (arith, both.0, start.0, more, past);
        ordered = omega (arith, both.0, both.1, start.1, stop);
        ends = omega (arith, both.1, ends, end, top);
      }

  text_base : p.base ≤ text_from kit g
  text_base = let b = l.laid.base in omega (arith, b, base-le kit g)

  pub init_span : IsAreaInSpan p 4
  init_span = area_span Text (text_from kit g) 4 (area_spread g 4) l.laid.text.areas text_base (sym four.text_end) (there (in_right (run_spreads kit g order Text) here)) refl (omega arith)

  pub fini_span : IsAreaInSpan p 5
  fini_span = area_span Text (text_from kit g) 5 (area_spread g 5) l.laid.text.areas text_base (sym four.text_end) (there (in_right (run_spreads kit g order Text) (there here))) refl (omega arith)

  -- the made areas
  spread_in : (c : Class) (s : Spread) → In s (last_spreads kit.kind g made c) → In s (spreads kit g gaps order made c)
  spread_in c s i = there (in_right (run_spreads kit g order c) i)

  rodata_base : p.base ≤ up (class_end p Text) (page_of kit g)
  rodata_base = omega (arith, ordered.base, ordered.text, le-up (class_end p Text) (page_of kit g) (page-pos kit g))

  rwdata_base : p.base ≤ up (class_end p Rodata) (page_of kit g)
  rwdata_base = omega (arith, start_past_base p Rodata ordered, ordered.rodata, le-up (class_end p Rodata) (page_of kit g) (page-pos kit g))

  stubs_span : IsAreaInSpan p 6
  stubs_span = area_span Text (text_from kit g) 6 (made_spread 6 made.stubs 16) l.laid.text.areas text_base (sym four.text_end) (spread_in Text (made_spread 6 made.stubs 16) (there (there here))) refl (omega arith)

  tables_span : IsAreaInSpan p 8
  tables_span =
      area_span Rodata (up (class_end p Text) (page_of kit g)) 8 (made_spread 8 made.tables 8) l.laid.rodata.areas rodata_base (sym four.rodata_end)
      (spread_in Rodata (made_spread 8 made.tables 8) (there here)) refl (omega arith)

  pub dynamic_span : IsAreaInSpan p 14
  dynamic_span =
      area_span Rwdata (up (class_end p Rodata) (page_of kit g)) 14 (made_spread 14 made.dynamic 8) l.laid.rwdata.areas rwdata_base (sym four.rwdata_end)
      (spread_in Rwdata (made_spread 14 made.dynamic 8) (there (there (there (there (in_right (got_spread kit.kind made Rwdata) here)))))) refl (omega arith)

  got_span : IsAreaInSpan p 13
  got_span = go kit.kind refl
    where
      go : (k : KitKind) → kit.kind ≡ k → IsAreaInSpan p 13
      go Kernel e =
          area_span Rodata (up (class_end p Text) (page_of kit g)) 13 (made_spread 13 made.got 8) l.laid.rodata.areas rodata_base (sym four.rodata_end)
          (spread_in Rodata (made_spread 13 made.got 8) (subst (λ k. In (made_spread 13 made.got 8) (last_spreads k g made Rodata)) (sym e) (there (there here)))) refl (omega arith)
      go Library e =
          area_span Rwdata (up (class_end p Rodata) (page_of kit g)) 13 (made_spread 13 made.got 8) l.laid.rwdata.areas rwdata_base (sym four.rwdata_end)
          (spread_in Rwdata (made_spread 13 made.got 8) (subst (λ k. In (made_spread 13 made.got 8) (last_spreads k g made Rwdata)) (sym e) (there (there (there (there here)))))) refl (omega arith)

  -- the dynamic section lies in data
  pub dynamic_in_data : IsInData p
  dynamic_in_data = record { ordered = dynamic_span.ordered; inside = λ some. dynamic_inside some }
    where
      dynamic_inside : (area_at p 14).start < (area_at p 14).end → ((area_at p 2).start ≤ (area_at p 14).start) × ((area_at p 14).end ≤ (area_at p 2).end)
      dynamic_inside some =
          let inside = λ (a : ℕ) (i : InArea p 14 a).
          (area_in_class p g Rwdata (up (class_end p Rodata) (page_of kit g)) (spreads kit g gaps order made Rwdata) 14 a (made_spread 14 made.dynamic 8) l.laid.rwdata.areas
          (aligned-spreads kit g gaps order made (positive kit g gaps order made p l.laid l.small l.base l.sound whole) Rwdata) (four.stands Rwdata)
          (spread_in Rwdata (made_spread 14 made.dynamic 8) (there (there (there (there (in_right (got_spread kit.kind made Rwdata) here)))))) refl base_small rwdata_base
          (let e = four.rwdata_end in omega (arith, e, in_top Rwdata)) (sym four.rwdata_end) i) in
          let first = inside (area_at p 14).start (omega arith, some) in
          let last = inside ((area_at p 14).end - 1) (omega (arith, some), omega (arith, some)) in
          (first.0, omega (arith, last.1, some))

  -- the headers
  pub headers_long : length (image_headers kit p g) ≡ headers_size (segments_for kit.kind (page_of kit g) p)
  headers_long = heads.size

  pub few_phdrs_16 : length (segments_for kit.kind (page_of kit g) p) < 2 ^ 16
  few_phdrs_16 = let few = few kit inputs g gaps order p l.origin l.laid l.small l.base l.sound whole numbers in omega (arith, few)

  -- a made area has room for its bytes
  made_room : (c : Class) (n size align : ℕ) → IsAreaInSpan p n → IsMadePart kit inputs g gaps order p l.origin l.laid l.small l.base l.sound whole heads c n size align → HasAreaRoom p n size
  made_room c n size align s m = elim (cases_lt 0 size) [
    | inl some ↦
        let w = made_within kit inputs g gaps order p l.origin l.laid l.small l.base l.sound whole heads c n size align m 0 some in
        record { known = s.known; starts = s.starts; ends = omega (arith, w.1, in_top c) }
    | inr none ↦ (let o = s.ordered in let e = s.ends in record { known = s.known; starts = s.starts; ends = omega (arith, none, o, e) })
  ]

  pub stubs_room : HasAreaRoom p 6 made.stubs
  stubs_room = made_room Text 6 made.stubs 16 stubs_span (stubs_part kit inputs g gaps order p l.origin l.laid l.small l.base l.sound whole heads)

  pub tables_room : HasAreaRoom p 8 made.tables
  tables_room = made_room Rodata 8 made.tables 8 tables_span (tables_part kit inputs g gaps order p l.origin l.laid l.small l.base l.sound whole heads)

  pub got_room : HasAreaRoom p 13 made.got
  got_room = made_room (got_class kit.kind) 13 made.got 8 got_span (got_part kit inputs g gaps order p l.origin l.laid l.small l.base l.sound whole heads)

  pub dynamic_room : HasAreaRoom p 14 made.dynamic
  dynamic_room = made_room Rwdata 14 made.dynamic 8 dynamic_span (dynamic_part kit inputs g gaps order p l.origin l.laid l.small l.base l.sound whole heads)

  -- pieces and gaps
  placed_count : length p.pieces ≡ length g.pieces + length (gap_names gaps)
  placed_count =
      let names = ap length l.names in
      omega (arith, names, length-map {B = PieceId × ℕ} p.pieces (λ (x : Placed). (x.id, x.size)), length-append (map (λ (x : Piece). (x.id, x.size)) g.pieces) (gap_names gaps), length-map {B = PieceId × ℕ} g.pieces (λ (x : Piece). (x.id, x.size)))

  pub pieces_span : ArePiecesInSpan g p
  pieces_span = record {
    known = omega (arith, placed_count);
    starts = λ n h. le_unwrapped p _ base_small;
    ends = λ n h.
        let w = stands_within kit inputs g gaps order p l.origin l.laid l.small l.base l.sound whole heads (piece_at g n).class (piece_part n (piece_at g n)) (piece_home kit g gaps order made p l.laid l.small l.base l.sound whole n h) in
        omega (arith, w.1, in_top (piece_at g n).class);
  }

  class_small : (c : Class) → class_number c < 4
  class_small Text = omega arith
  class_small Rodata = omega arith
  class_small Rwdata = omega arith
  class_small Bss = omega arith

  gap_span : (z : Gaps) → gaps ≡ Some z → AreGapsInSpan g z p
  gap_span z e = record {
    known = λ c. let four = ap (λ k. length (gap_names k)) e in omega (arith, placed_count, four, class_small c);
    starts = λ c. le_unwrapped p _ base_small;
    ends = λ c.
        let w = stands_within kit inputs g gaps order p l.origin l.laid l.small l.base l.sound whole heads c (record { body = body.Gap c; size = gap_size z c; align = 16 }) (gap_in kit g gaps order made z c e) in
        omega (arith, w.1, in_top c);
  }

  gaps_by : (z : Option Gaps) → gaps ≡ z → IfSome z (λ z. AreGapsInSpan g z p)
  gaps_by None e = tt
  gaps_by (Some z) e = gap_span z e

  pub gaps_span : IfSome gaps (λ z. AreGapsInSpan g z p)
  gaps_span = gaps_by gaps refl

  -- the entry
  placed_target : (t : Target) → IsSoundTarget kit g t → IsPlacedTarget g p t
  placed_target (Place n k) h = let m = h.0 in omega (arith, placed_count, m)
  placed_target (Abs n) h = tt
  placed_target (Edge n e) h = let count = l.laid.count in omega (arith, count, h)
  placed_target (Name n) h = tt
  placed_target Zero h = tt
  placed_target Gone h = tt

  entry_by : (t : Option Target) → IfSome t (IsSoundTarget kit g) → IfSome t (IsPlacedTarget g p)
  entry_by None h = tt
  entry_by (Some t) h = placed_target t h

  pub entry_placed : IfSome g.entry (IsPlacedTarget g p)
  entry_placed = entry_by g.entry l.sound.entry

  -- the targets of slots
  pub slots_placed : All (IsPlacedTarget g p) (slots g)
  slots_placed k d h =
      let r = in_slots g (get_or (slots g) k d) (in_get (slots g) k d h) in
      placed_target (get_or (slots g) k d) (subst (IsSoundTarget kit g) r.2 (all_in (IsSoundField kit g) g.fields r.0 l.sound.fields r.1).target)

  pub short_pieces : AreShort g
  short_pieces k d h = (l.sound.pieces k d h).short

  pub fields_inside : AreFieldsInside g
  fields_inside k d h = record {
    piece = (l.sound.fields k d h).piece;
    inside = inside kit inputs g gaps order p l.origin l.laid l.small l.base l.sound whole numbers k d h;
  }

  -- each field and its target have a place
  pub fields_placed : All (IsPlacedField g p) g.fields
  fields_placed k d h =
      let f = l.sound.fields k d h in
      let piece = f.piece in
      record {
        piece = omega (arith, placed_count, piece);
        kind = wide_kind (relocation_type (get_or g.fields k d).kind) f.wide;
        target = placed_target (get_or g.fields k d).target f.target;
        got = known 13 (omega arith);
        stubs = known 6 (omega arith);
      }
