-- What the writes of an image leave at each place of the file is the image's byte.
use Rattle.std.proofs.Common.{ℕ, ◌≡◌, ◌+◌, ◌-◌, ◌^◌, ◌<◌, ◌≤◌, ◌∙◌, ◌⊎◌, List, [], ◌∷◌, ◌++◌, length, refl, ap, sym, subst, arith, Bool, true, false, inl, inr, ◌&&◌, ◌||◌}
use Rattle.std.specs.Prelude.{Some, None, Option, flat_map, All, nat_lt, if◌then◌else◌}
use Rattle.std.specs.List.{list_any}
use Rattle.std.proofs.lemmas.Bool.{cases_Bool, cases_lt, lt-ltb, le-ltb}
use Rattle.kl_base.specs.declared.class.Class.{Class}
use Rattle.kl_base.specs.declared.class.Class.TheVariants.{Text, Rodata, Rwdata, Bss}
use Rattle.kl_base.specs.declared.limits.TheConstants.{BASE_LIMIT, SPAN_LIMIT}
use Rattle.kl_le.specs.Bytes.{Within}
use Rattle.kl_model.specs.Areas.{class_number}
use Rattle.kl_model.specs.Carries.{InArea, class_size, content, is_in_file, no_piece, offset_for, padding, piece_at}
use Rattle.kl_model.specs.Image.{byte_at, class_on, head_bytes, image_byte, is_in_area, is_within, padding_at, part_on}
use Rattle.kl_model.specs.Laid.{Laid, area_at, place_of, span}
use Rattle.kl_model.specs.Line.{class_line, classes, every_part, gap_parts, gap_size, made_parts, piece_part, run_spreads}
use Rattle.kl_model.specs.Lists.{each}
use Rattle.kl_model.specs.Sizes.{made_of}
use Rattle.kl_model.specs.Sound.{IsSoundGraph}
use Rattle.kl_model.specs.Tables.{made_bytes}
use Rattle.kl_model.specs.declared.graph.Graph.{Graph}
use Rattle.kl_model.specs.declared.kit.Kit.{Kit}
use Rattle.kl_model.specs.declared.kit.KitKind.TheVariants.{Library}
use Rattle.kl_model.specs.declared.kit.KitKind.{KitKind}
use Rattle.kl_model.specs.declared.object.Input.{Input}
use Rattle.kl_model.specs.declared.place.AreaAt.{AreaAt}
use Rattle.kl_model.specs.declared.place.Body.TheVariants as body
use Rattle.kl_model.specs.declared.place.Gaps.{Gaps}
use Rattle.kl_model.specs.declared.place.LinePart.{LinePart}
use Rattle.kl_model.specs.declared.place.Made.{Made}
use Rattle.kl_model.specs.declared.place.Placement.{Placement}
use Rattle.kl_model.proofs.ClassMemory.{InOrder, start_past_base}
use Rattle.kl_model.proofs.Covered.{In, here, there, in_left, in_right, in_each, in_flat_map, IsWhole}
use Rattle.kl_model.proofs.ImageBytes.{within_is}
use Rattle.kl_write.proofs.FileBytes.{HeadersRead, class_on_is, within_not}
use Rattle.kl_write.proofs.FileSegments.{in_classes, offset_is}
use Rattle.kl_write.specs.LaidKits.{HasMadeBytes}
use Rattle.kl_write.proofs.LawBytes.{find_none, one_class, stands_within, text_area, within_of}
use Rattle.kl_write.proofs.LawFields.{base_limit}
use Rattle.kl_write.proofs.Places.{le_unwrapped}
use Rattle.kl_write.proofs.Painted.{Gives, all_same, any_none, find_in, in_only, some_same}
use Rattle.kl_write.proofs.RightWrites.{at_address, heads_read, in_order, right_field, right_gap, right_made, right_piece}
use Rattle.kl_write.proofs.Shown.{cases_within, has_written, not_written, written-append}
use Rattle.kl_write.proofs.SlotWords.{any_in}
use Rattle.kl_write.proofs.SoundLaid.{in_pieces, in_split, piece_home}
use Rattle.kl_write.proofs.Stands.{gap_in}
use Rattle.kl_write.specs.Windows.{Write, same_from, written}
use Rattle.kl_write.specs.Writes.{origin as origin_of, area_write, field_writes, file_place, gap_write, gap_writes, head_write, padding_writes, made_write, made_writes, piece_write, piece_writes, writes}

-- writes in a row
six : (b : ℕ) (u v w x y z : List Write) (q : ℕ) → written b (u ++ (v ++ (w ++ (x ++ (y ++ z))))) q ≡ written (written (written b (u ++ v) q) (w ++ (x ++ y)) q) z q
six b u v w x y z q =
    written-append b u (v ++ (w ++ (x ++ (y ++ z)))) q
    ∙ (written-append (written b u q) v (w ++ (x ++ (y ++ z))) q
    ∙ (written-append (written (written b u q) v q) w (x ++ (y ++ z)) q
    ∙ (written-append (written (written (written b u q) v q) w q) x (y ++ z) q
    ∙ (written-append (written (written (written (written b u q) v q) w q) x q) y z q
    ∙ ap (λ n. written n z q) (sym (written-append (written (written (written b u q) v q) w q) x y q)
    ∙ (sym (written-append (written (written b u q) v q) w (x ++ y) q)
    ∙ ap (λ n. written n (w ++ (x ++ y)) q) (sym (written-append b u v q))))))))

-- what a test of a stretch of addresses is at the place of an address in the file
same_within : (k : KitKind) (p : Placement) (s n a : ℕ) → p.base ≤ s → p.base ≤ a → is_within (file_place k p s) n (file_place k p a) ≡ is_within s n a
same_within k p s n a l h =
    elim (cases_within s n a) [
      | inl w ↦ let low = w.0 in let high = w.1 in within_is (file_place k p s) n (file_place k p a) (omega (arith, l, low), omega (arith, l, h, high)) ∙ sym (within_is s n a w)
      | inr (inl o) ↦ within_not (file_place k p s) n (file_place k p a) (inl (omega (arith, l, h, o))) ∙ sym (within_not s n a (inl o))
      | inr (inr o) ↦ within_not (file_place k p s) n (file_place k p a) (inr (omega (arith, l, h, o))) ∙ sym (within_not s n a (inr o))
    ]

-- text is padded by nops in `init` and `fini`
pad_text : (i f : Bool) (n m : ℕ) → (if f then n else if i then n else m) ≡ (if i || f then n else m)
pad_text true true n m = refl
pad_text true false n m = refl
pad_text false true n m = refl
pad_text false false n m = refl

module _ (kit : Kit) (inputs : List Input) (g : Graph) (gaps : Option Gaps) (order : List ℕ) (p : Placement) (origin : kit.kind ≡ Library → kit.base ≡ 0) (laid : Laid p kit g gaps order (made_of kit g))
    (small : span kit g gaps order (made_of kit g) ≤ SPAN_LIMIT) (limit : kit.base ≤ BASE_LIMIT) (sound : IsSoundGraph kit g) (whole : IsWhole g order)
    (numbers : All (λ (a : AreaAt). (a.start < 2 ^ 64) × (a.end < 2 ^ 64)) p.areas) (bytes : HasMadeBytes kit inputs g p) where
  abbrev made : Made
  made = made_of kit g

  abbrev img : ℕ → ℕ
  img = image_byte kit inputs g gaps p

  abbrev heads : List ℕ
  heads = head_bytes kit inputs g gaps p

  ordered : InOrder p
  ordered = in_order kit inputs g gaps order p origin laid small limit sound whole numbers

  read_heads : HeadersRead kit inputs g gaps p
  read_heads = heads_read kit inputs g gaps order p origin laid small limit sound whole numbers

  zero_base : kit.kind ≡ Library → p.base ≡ 0
  zero_base e = laid.base ∙ origin e

  base_small : p.base < 2 ^ 64
  base_small = let b = base_limit kit inputs g gaps order p origin laid small limit sound whole numbers in omega (arith, b)

  abbrev rights : List Write
  rights = gap_writes kit.kind g gaps p ++ (made_writes kit inputs g p ++ field_writes kit g p)

  all_right : (q : ℕ) (w : Write) → In w rights → Gives q (img q) w
  all_right q w i =
      elim (in_split (gap_writes kit.kind g gaps p) (made_writes kit inputs g p ++ field_writes kit g p) i) [
        | inl j ↦ right_gap kit inputs g gaps order p origin laid small limit sound whole numbers q w j
        | inr j ↦ elim (in_split (made_writes kit inputs g p) (field_writes kit g p) j) [
          | inl k ↦ right_made kit inputs g gaps order p origin laid small limit sound whole numbers bytes q w k
          | inr k ↦ right_field kit inputs g gaps order p origin laid small limit sound whole numbers q w k
        ]
      ]

  -- no write of a list has a place
  abbrev IsFree : ℕ → List Write → Type 0
  IsFree q ws = (w : Write) → In w ws → Within w.place w.count q → ⊥

  free_or_had : (q : ℕ) (ws : List Write) → IsFree q ws ⊎ ((w : Write) × In w ws × Within w.place w.count q)
  free_or_had q ws =
      elim (cases_Bool (list_any (λ (w : Write). is_within w.place w.count q) ws)) [
        | inl e ↦ let r = any_in (λ (w : Write). is_within w.place w.count q) ws e in inr (r.0, r.1, within_of r.0.place r.0.count q r.2)
        | inr e ↦ inl (λ w i h. never (is_within w.place w.count q) (within_is w.place w.count q h) (any_none (λ (w : Write). is_within w.place w.count q) ws e w i))
      ]
    where
      never : (b : Bool) → b ≡ true → b ≡ false → ⊥
      never true e f = cc
      never false e f = cc

  -- the areas `init` and `fini` lie in text
  init_in_text : (a : ℕ) → InArea p 4 a → InArea p 0 a
  init_in_text a i = text_area kit inputs g gaps order p origin laid small limit sound whole read_heads 4 a (there (in_right (run_spreads kit g order Text) here)) i

  fini_in_text : (a : ℕ) → InArea p 5 a → InArea p 0 a
  fini_in_text a i = text_area kit inputs g gaps order p origin laid small limit sound whole read_heads 5 a (there (in_right (run_spreads kit g order Text) (there here))) i

  -- a place of a class in the file
  module _ (q : ℕ) (no_right : IsFree q rights) (no_piece_write : IsFree q (piece_writes kit.kind inputs g p)) (c : Class) (a : ℕ) (place : file_place kit.kind p a ≡ q) (file : is_in_file c ≡ true)
      (area : InArea p (class_number c) a) where
    base : p.base ≤ a
    base = let s = start_past_base p c ordered in omega (arith, s, area.0)

    -- a stretch of addresses that has the address has its place in the file
    in_place : (s n : ℕ) → p.base ≤ s → Within s n a → Within (file_place kit.kind p s) n q
    in_place s n b w = let low = w.0 in let high = w.1 in (omega (arith, b, base, low, place), omega (arith, b, base, high, place))

    -- a part of a class that has the address is one of this class
    class_is : (d : Class) (x : LinePart) → In x (class_line kit g gaps order made d) → Within (place_of p g x.body) x.size a → d ≡ c
    class_is d x i w =
        let u = stands_within kit inputs g gaps order p origin laid small limit sound whole read_heads d x i in
        let low = w.0 in
        let high = w.1 in
        one_class kit inputs g gaps order p origin laid small limit sound whole read_heads d c a (omega (arith, u.0, low), omega (arith, u.1, high)) area

    -- no part has it
    not_piece : (x : LinePart) → In x (each g.pieces (λ n y. piece_part n y ∷ [])) → Within (place_of p g x.body) x.size a → ⊥
    not_piece x i w =
        let r = in_pieces 0 g.pieces x i in
        let z : 0 + r.0 ≡ r.0 = omega arith in
        let n = r.0 in
        let y = piece_at g n in
        let is : x ≡ piece_part n y = rw z at r.2 in
        let own : Within (place_of p g (body.Piece n)) y.size a = rw is at w in
        let home = piece_home kit g gaps order made p laid small limit sound whole n r.1 in
        let same = class_is y.class (piece_part n y) home own in
        let in_file : is_in_file y.class ≡ true = ap is_in_file same ∙ file in
        let write : Write = record { place = file_place kit.kind p (place_of p g (body.Piece n)); count = y.size; byte = content inputs y } in
        let given : In write (piece_write kit.kind inputs g p (0 + n) y) = rw (z, in_file) here in
        no_piece_write write (in_each (piece_write kit.kind inputs g p) 0 g.pieces n no_piece write r.1 given) (in_place (place_of p g (body.Piece n)) y.size (le_unwrapped p _ base_small) own)

    gap_free : (z : Gaps) (d : Class) → gaps ≡ Some z → Within (place_of p g (body.Gap d)) (gap_size z d) a → ⊥
    gap_free z d e w =
        let home = gap_in kit g gaps order made z d e in
        let same = class_is d (record { body = body.Gap d; size = gap_size z d; align = 16 }) home w in
        let in_file : is_in_file d ≡ true = ap is_in_file same ∙ file in
        let write : Write = same_from (file_place kit.kind p (place_of p g (body.Gap d))) (gap_size z d) (padding d) in
        let given : In write (gap_write kit.kind g p z d) = rw in_file here in
        let of_gaps : In write (gap_writes kit.kind g gaps p) = rw e (in_flat_map (gap_write kit.kind g p z) (in_classes d) given) in
        no_right write (in_left (made_writes kit inputs g p ++ field_writes kit g p) of_gaps) (in_place (place_of p g (body.Gap d)) (gap_size z d) (le_unwrapped p _ base_small) w)

    not_gap : (z : Option Gaps) → gaps ≡ z → (x : LinePart) → In x (flat_map (gap_parts z) classes) → Within (place_of p g x.body) x.size a → ⊥
    not_gap None e x i w = elim i [ ]
    not_gap (Some z) e x here w = gap_free z Text e w
    not_gap (Some z) e x (there here) w = gap_free z Rodata e w
    not_gap (Some z) e x (there (there here)) w = gap_free z Rwdata e w
    not_gap (Some z) e x (there (there (there here))) w = gap_free z Bss e w
    not_gap (Some z) e x (there (there (there (there i)))) w = elim i [ ]

    -- a made area
    area_free : (n size align : ℕ) (x : LinePart) → length (made_bytes kit inputs g p n) ≡ size → In (made_write kit.kind p n (made_bytes kit inputs g p n)) (made_writes kit inputs g p)
        → In x (made_parts n size align) → Within (place_of p g x.body) x.size a → ⊥
    area_free n size align x e i j w =
        let o = in_only _ (record { body = body.Area n; size = size; align = align }) x j in
        let is = o.1 in
        let own : Within (area_at p n).start size a = rw is at w in
        no_right (made_write kit.kind p n (made_bytes kit inputs g p n)) (in_right (gap_writes kit.kind g gaps p) (in_left (field_writes kit g p) i))
        (subst (λ m. Within (file_place kit.kind p (area_at p n).start) m q) (sym e) (in_place (area_at p n).start size (le_unwrapped p _ base_small) own))

    not_made : (x : LinePart) → In x (made_parts 6 made.stubs 16 ++ (made_parts 8 made.tables 8 ++ (made_parts 13 made.got 8 ++ made_parts 14 made.dynamic 8)))
        → Within (place_of p g x.body) x.size a → ⊥
    not_made x i w =
        elim (in_split (made_parts 6 made.stubs 16) (made_parts 8 made.tables 8 ++ (made_parts 13 made.got 8 ++ made_parts 14 made.dynamic 8)) i) [
          | inl j ↦ area_free 6 made.stubs 16 x bytes.stubs here j w
          | inr j ↦ elim (in_split (made_parts 8 made.tables 8) (made_parts 13 made.got 8 ++ made_parts 14 made.dynamic 8) j) [
            | inl k ↦ area_free 8 made.tables 8 x bytes.tables (there here) k w
            | inr k ↦ elim (in_split (made_parts 13 made.got 8) (made_parts 14 made.dynamic 8) k) [
              | inl m ↦ area_free 13 made.got 8 x bytes.got (there (there here)) m w
              | inr m ↦ area_free 14 made.dynamic 8 x bytes.dynamic (there (there (there here))) m w
            ]
          ]
        ]

    no_part_at : part_on kit inputs g gaps p a ≡ None
    no_part_at =
        find_none (λ (x : LinePart). is_within (place_of p g x.body) x.size a) (every_part g gaps made) (λ x i.
        elim (cases_Bool (is_within (place_of p g x.body) x.size a)) [
          | inl e ↦ absurd (in_none x i (within_of (place_of p g x.body) x.size a e))
          | inr e ↦ e
        ])
      where
        in_none : (x : LinePart) → In x (every_part g gaps made) → Within (place_of p g x.body) x.size a → ⊥
        in_none x i w =
            elim (in_split (each g.pieces (λ n y. piece_part n y ∷ []))
            (flat_map (gap_parts gaps) classes ++ (made_parts 6 made.stubs 16 ++ (made_parts 8 made.tables 8 ++ (made_parts 13 made.got 8 ++ made_parts 14 made.dynamic 8)))) i) [
              | inl j ↦ not_piece x j w
              | inr j ↦ elim (in_split (flat_map (gap_parts gaps) classes)
                  (made_parts 6 made.stubs 16 ++ (made_parts 8 made.tables 8 ++ (made_parts 13 made.got 8 ++ made_parts 14 made.dynamic 8))) j) [
                    | inl k ↦ not_gap gaps refl x k w
                    | inr k ↦ not_made x k w
                  ]
            ]

    -- the padding there
    abbrev area_has : ℕ → Bool
    area_has n = is_in_area kit inputs g gaps p n a

    has_area : (n : ℕ) → is_within (file_place kit.kind p (area_at p n).start) ((area_at p n).end - (area_at p n).start) q ≡ area_has n
    has_area n = ap (is_within (file_place kit.kind p (area_at p n).start) ((area_at p n).end - (area_at p n).start)) (sym place) ∙ same_within kit.kind p (area_at p n).start ((area_at p n).end - (area_at p n).start) a (le_unwrapped p _ base_small) base

    -- outside text none of these areas has it
    off : (n : ℕ) → (InArea p n a → InArea p 0 a) → (c ≡ Text → ⊥) → area_has n ≡ false
    off n text other =
        elim (cases_Bool (area_has n)) [
          | inl e ↦
              let w = within_of (area_at p n).start ((area_at p n).end - (area_at p n).start) a e in
              absurd (other (one_class kit inputs g gaps order p origin laid small limit sound whole read_heads c Text a area (text (w.0, omega (arith, w.0, w.1)))))
          | inr e ↦ e
        ]

    by_class : (d : Class) → c ≡ d → (if area_has 5 then 0x90 else if area_has 4 then 0x90 else if area_has 0 then 0xcc else 0) ≡ padding_at kit inputs g gaps p d a
    by_class Text e =
        let text : InArea p 0 a = subst (λ k. InArea p (class_number k) a) e area in
        let has : area_has 0 ≡ true = within_is (area_at p 0).start ((area_at p 0).end - (area_at p 0).start) a (text.0, omega (arith, text.0, text.1)) in
        rw has (pad_text (area_has 4) (area_has 5) 0x90 0xcc)
    by_class Rodata e = let other : c ≡ Text → ⊥ = λ f. differ (sym e ∙ f) in rw (off 0 (λ i. i) other, off 4 (init_in_text a) other, off 5 (fini_in_text a) other) refl
      where
        differ : Rodata ≡ Text → ⊥
        differ e = cc
    by_class Rwdata e = let other : c ≡ Text → ⊥ = λ f. differ (sym e ∙ f) in rw (off 0 (λ i. i) other, off 4 (init_in_text a) other, off 5 (fini_in_text a) other) refl
      where
        differ : Rwdata ≡ Text → ⊥
        differ e = cc
    by_class Bss e = let never : false ≡ true = subst (λ k. is_in_file k ≡ true) e file in cc

    pads : written 0 (padding_writes kit.kind p) q ≡ padding_at kit inputs g gaps p c a
    pads = rw (has_area 0, has_area 4, has_area 5) (by_class c refl)

    at_padding : written 0 (padding_writes kit.kind p) q ≡ img q
    at_padding =
        let none = no_part_at in
        let there_is : img (file_place kit.kind p a) ≡ byte_at kit inputs g gaps p c a = at_address kit inputs g gaps order p origin laid small limit sound whole numbers c a file area in
        let byte : byte_at kit inputs g gaps p c a ≡ padding_at kit inputs g gaps p c a = rw none refl in
        pads ∙ (sym byte ∙ (sym there_is ∙ ap img place))

  -- a place of no class
  module _ (q : ℕ) (none : class_on kit inputs g gaps p q ≡ None) where
    pad_free : (n byte : ℕ) → ((a : ℕ) → InArea p n a → InArea p 0 a) → Within (area_write kit.kind p n byte).place (area_write kit.kind p n byte).count q → ⊥
    pad_free n byte text w =
        let a : ℕ = p.base + (q - origin_of kit.kind) in
        let from : p.base ≤ (area_at p n).start = le_unwrapped p _ base_small in
        let low = w.0 in
        let high = w.1 in
        let place : file_place kit.kind p a ≡ q = omega (arith, low) in
        let area = text a (omega (arith, from, low), omega (arith, from, low, high)) in
        let found : class_on kit inputs g gaps p (file_place kit.kind p a) ≡ Some Text = class_on_is kit inputs g gaps p zero_base ordered Text a refl area in
        clash (class_on kit inputs g gaps p q) none (sym (ap (class_on kit inputs g gaps p) place) ∙ found)
      where
        clash : (o : Option Class) → o ≡ None → o ≡ Some Text → ⊥
        clash None e f = cc
        clash (Some c) e f = cc

    no_padding : (w : Write) → In w (padding_writes kit.kind p) → Gives q 0 w
    no_padding w here h = absurd (pad_free 0 0xcc (λ a i. i) h)
    no_padding w (there here) h = absurd (pad_free 4 0x90 init_in_text h)
    no_padding w (there (there here)) h = absurd (pad_free 5 0x90 fini_in_text h)
    no_padding w (there (there (there i))) h = elim i [ ]

    at_none : length heads ≤ q → written 0 (padding_writes kit.kind p) q ≡ img q
    at_none behind = all_same 0 0 q (padding_writes kit.kind p) no_padding refl ∙ sym (let past : nat_lt q (length heads) ≡ false = le-ltb q (length heads) behind in rw (past, none) refl)

  both : (a b : Bool) → (a && b) ≡ true → (a ≡ true) × (b ≡ true)
  both true b e = (refl, e)
  both false b e = cc

  -- the place of no piece, gap, slot or field
  padding_there : (q : ℕ) → length heads ≤ q → IsFree q rights → IsFree q (piece_writes kit.kind inputs g p) → (o : Option Class) → class_on kit inputs g gaps p q ≡ o → written 0 (padding_writes kit.kind p) q ≡ img q
  padding_there q behind no_right no_piece None e = at_none q e behind
  padding_there q behind no_right no_piece (Some c) e =
      let r = find_in (λ c. is_in_file c && is_within (offset_for kit.kind p c) (class_size p c) q) classes c e in
      let t = both (is_in_file c) (is_within (offset_for kit.kind p c) (class_size p c) q) r.1 in
      let w = within_of (offset_for kit.kind p c) (class_size p c) q t.1 in
      let low = w.0 in
      let high = w.1 in
      let start = start_past_base p c ordered in
      let offset = offset_is kit.kind p c zero_base in
      at_padding q no_right no_piece c ((area_at p (class_number c)).start + (q - offset_for kit.kind p c)) (omega (arith, offset, start, low)) t.0
      (omega arith, omega (arith, low, high))

  -- behind the headers
  pieces_there : (q : ℕ) → length heads ≤ q → IsFree q rights → written (written 0 (padding_writes kit.kind p) q) (piece_writes kit.kind inputs g p) q ≡ img q
  pieces_there q behind free =
      let give = right_piece kit inputs g gaps order p origin laid small limit sound whole numbers q
      (λ w i. free w (in_right (gap_writes kit.kind g gaps p) (in_right (made_writes kit inputs g p) i))) in
      elim (free_or_had q (piece_writes kit.kind inputs g p)) [
        | inl none ↦ all_same (written 0 (padding_writes kit.kind p) q) (img q) q (piece_writes kit.kind inputs g p) give (padding_there q behind free none (class_on kit inputs g gaps p q) refl)
        | inr had ↦ some_same (written 0 (padding_writes kit.kind p) q) (img q) q (piece_writes kit.kind inputs g p) give had.0 had.1 had.2
      ]

  all_there : (q : ℕ) → length heads ≤ q → written (written 0 (padding_writes kit.kind p ++ piece_writes kit.kind inputs g p) q) rights q ≡ img q
  all_there q behind =
      let before = written 0 (padding_writes kit.kind p ++ piece_writes kit.kind inputs g p) q in
      elim (free_or_had q rights) [
        | inl none ↦ all_same before (img q) q rights (all_right q) (written-append 0 (padding_writes kit.kind p) (piece_writes kit.kind inputs g p) q ∙ pieces_there q behind none)
        | inr had ↦ some_same before (img q) q rights (all_right q) had.0 had.1 had.2
      ]

  -- What the writes leave at each place is the image's byte.
  pub written_image : (q : ℕ) → written 0 (writes kit inputs g gaps p) q ≡ img q
  written_image q =
      let before = written (written 0 (padding_writes kit.kind p ++ piece_writes kit.kind inputs g p) q) rights q in
      let head = head_write kit inputs g gaps p in
      six 0 (padding_writes kit.kind p) (piece_writes kit.kind inputs g p) (gap_writes kit.kind g gaps p) (made_writes kit inputs g p) (field_writes kit g p) (head ∷ []) q
      ∙ elim (cases_lt q (length heads)) [
        | inl l ↦
            let first : nat_lt q (length heads) ≡ true = lt-ltb q (length heads) l in
            let z : q - 0 ≡ q = omega arith in
            has_written before head q (omega arith, omega (arith, l)) ∙ rw (first, z) refl
        | inr l ↦ not_written before head q (inr (omega (arith, l))) ∙ all_there q l
      ]
