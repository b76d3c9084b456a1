-- Each write of an image gives the image's byte where no later write has its place.
use Rattle.std.proofs.Common.{ℕ, ◌≡◌, ◌+◌, ◌-◌, ◌^◌, ◌<◌, ◌≤◌, ◌∙◌, List, [], ◌++◌, get_or, refl, ap, sym, arith, true, inl, inr}
use Rattle.std.specs.Prelude.{Some, None, Option, All, pos, length, slice_index}
use Rattle.kl_base.specs.declared.class.Class.{Class}
use Rattle.kl_base.specs.declared.class.Class.TheVariants.{Text, Rodata, Rwdata, Bss}
use Rattle.kl_base.specs.declared.limits.TheConstants.{BASE_LIMIT, SPAN_LIMIT}
use Rattle.kl_le.specs.Bytes.{Within}
use Rattle.kl_model.specs.Areas.{class_number}
use Rattle.kl_model.specs.Carries.{InArea, InField, content, is_in_file, no_piece, padding, piece_at}
use Rattle.kl_model.specs.Image.{byte_at, image_byte}
use Rattle.kl_model.specs.Laid.{Laid, area_at, place_of, span}
use Rattle.kl_model.specs.Line.{gap_size}
use Rattle.kl_model.specs.Relocations.{width}
use Rattle.kl_model.specs.Sizes.{made_of}
use Rattle.kl_model.specs.Sound.{IsSoundGraph}
use Rattle.kl_model.specs.Tables.{made_bytes}
use Rattle.kl_model.specs.Leads.{filed_value}
use Rattle.kl_model.specs.Written.{byte_of}
use Rattle.kl_model.specs.declared.graph.Field.{Field}
use Rattle.kl_model.specs.declared.graph.Graph.{Graph}
use Rattle.kl_model.specs.declared.graph.Target.TheVariants.{Zero}
use Rattle.kl_model.specs.declared.kit.Kit.{Kit}
use Rattle.kl_model.specs.declared.kit.KitKind.TheVariants.{Library}
use Rattle.kl_model.specs.declared.object.Input.{Input}
use Rattle.kl_model.specs.declared.place.AreaAt.{AreaAt}
use Rattle.kl_model.specs.declared.place.Body.TheVariants as body
use Rattle.kl_model.specs.declared.place.Gaps.{Gaps}
use Rattle.kl_model.specs.declared.place.Placement.{Placement}
use Rattle.kl_model.proofs.ClassMemory.{InOrder, start_past_base}
use Rattle.kl_model.proofs.Covered.{In, here, there, in_each, IsWhole}
use Rattle.kl_model.proofs.ImageBytes.{byte_of_piece}
use Rattle.kl_write.proofs.FileBytes.{HeadersRead, image_there}
use Rattle.kl_write.proofs.LawBytes.{IsMadePart, are_apart, dynamic_part, gap_area, gap_at, got_part, made_area, made_at, no_field, piece_area, stubs_part, tables_part, zero_base}
use Rattle.kl_write.proofs.LawFields.{field_at, in_file, inside, is_ordered, read}
use Rattle.kl_write.proofs.Painted.{Gives, in_given, in_one, in_only}
use Rattle.kl_write.proofs.SoundLaid.{in_split}
use Rattle.kl_write.proofs.Stands.{got_class}
use Rattle.kl_write.specs.LaidKits.{HasMadeBytes}
use Rattle.kl_write.specs.Windows.{Write, same_from}
use Rattle.kl_write.specs.Writes.{field_write, field_writes, file_place, gap_write, gap_writes, made_write, made_writes, piece_write, piece_writes}

abbrev pub zero_field : Field
zero_field = record { from = record { input = 0; section = 0; index = 0 }; piece = 0; offset = 0; kind = 0; addend = pos 0; target = Zero }

module _ (kit : Kit) (inputs : List Input) (g : Graph) (gaps : Option Gaps) (order : List ℕ) (p : Placement) (origin : kit.kind ≡ Library → kit.base ≡ 0) (laid : Laid p kit g gaps order (made_of kit g))
    (small : span kit g gaps order (made_of kit g) ≤ SPAN_LIMIT) (limit : kit.base ≤ BASE_LIMIT) (sound : IsSoundGraph kit g) (whole : IsWhole g order)
    (numbers : All (λ (a : AreaAt). (a.start < 2 ^ 64) × (a.end < 2 ^ 64)) p.areas) where
  abbrev pub image : ℕ → ℕ
  image = image_byte kit inputs g gaps p

  pub heads_read : HeadersRead kit inputs g gaps p
  heads_read = read kit inputs g gaps order p origin laid small limit sound whole numbers

  pub in_order : InOrder p
  in_order = is_ordered kit inputs g gaps order p origin laid small limit sound whole numbers

  -- the byte at the place of an address of a class in the file
  pub at_address : (c : Class) (a : ℕ) → is_in_file c ≡ true → InArea p (class_number c) a → image (file_place kit.kind p a) ≡ byte_at kit inputs g gaps p c a
  at_address c a f w = image_there kit inputs g gaps p (zero_base kit inputs g gaps order p origin laid small limit sound whole heads_read) in_order heads_read.front c a f w

  past_base : (c : Class) (a : ℕ) → InArea p (class_number c) a → p.base ≤ a
  past_base c a w = let s = start_past_base p c in_order in omega (arith, s, w.0)

  -- a byte of a write that stands at an address of a class is the image's where it is the class's
  right_at : (at count b : ℕ) (c : Class) (q : ℕ) → p.base ≤ at → is_in_file c ≡ true → Within (file_place kit.kind p at) count q → InArea p (class_number c) (at + (q - file_place kit.kind p at))
      → byte_at kit inputs g gaps p c (at + (q - file_place kit.kind p at)) ≡ b → b ≡ image q
  right_at at count b c q base f w area is =
      let there_is : file_place kit.kind p (at + (q - file_place kit.kind p at)) ≡ q = omega (arith, base, w.0) in
      sym is ∙ (sym (at_address c (at + (q - file_place kit.kind p at)) f area) ∙ ap image there_is)

  -- fields
  pub right_field : (q : ℕ) (w : Write) → In w (field_writes kit g p) → Gives q (image q) w
  right_field q w i h =
      let r = in_given (field_write kit g p) 0 g.fields zero_field w i in
      let f = get_or g.fields r.0 zero_field in
      let s = sound.fields r.0 zero_field r.1 in
      let is = in_one _ w r.2 in
      let at = place_of p g (body.Piece f.piece) + f.offset in
      let here_too : Within (file_place kit.kind p at) (width f.kind) q = rw is at h in
      let j = q - file_place kit.kind p at in
      let l : j < width f.kind = omega (arith, here_too.0, here_too.1) in
      let fits = inside kit inputs g gaps order p origin laid small limit sound whole numbers r.0 zero_field r.1 in
      let k : f.offset + j < (piece_at g f.piece).size = omega (arith, fits, l) in
      let file = in_file (piece_at g f.piece).class s.class in
      let sum : at + j ≡ place_of p g (body.Piece f.piece) + (f.offset + j) = omega arith in
      let start = piece_area kit inputs g gaps order p origin laid small limit sound whole heads_read f.piece (f.offset + j) s.piece k in
      let first = piece_area kit inputs g gaps order p origin laid small limit sound whole heads_read f.piece f.offset s.piece (omega (arith, k)) in
      let byte : byte_at kit inputs g gaps p (piece_at g f.piece).class (place_of p g (body.Piece f.piece) + (f.offset + j)) ≡ w.byte (q - w.place) =
      byte_of_piece kit inputs g gaps p (are_apart kit inputs g gaps order p origin laid small limit sound whole heads_read) f.piece (f.offset + j) (piece_at g f.piece).class s.piece k
      ∙ (field_at kit inputs g gaps order p origin laid small limit sound whole numbers r.0 zero_field r.1 j l ∙ ap (λ (x : Write). x.byte (q - x.place)) (sym is)) in
      right_at at (width f.kind) (w.byte (q - w.place)) (piece_at g f.piece).class q (past_base (piece_at g f.piece).class at first) file here_too (rw sum start) (rw sum byte)

  -- made areas
  module _ (bytes : HasMadeBytes kit inputs g p) where
    right_area : (c : Class) (n size align : ℕ) → IsMadePart kit inputs g gaps order p origin laid small limit sound whole heads_read c n size align
        → length (made_bytes kit inputs g p n) ≡ size → (q : ℕ) → Gives q (image q) (made_write kit.kind p n (made_bytes kit inputs g p n))
    right_area c n size align m e q h =
        let at = (area_at p n).start in
        let low = h.0 in
        let high = h.1 in
        let l : q - file_place kit.kind p at < size = omega (arith, e, low, high) in
        let first = made_area kit inputs g gaps order p origin laid small limit sound whole heads_read c n size align m 0 (omega (arith, l)) in
        let zero_more : at + 0 ≡ at = omega arith in
        right_at at (length (made_bytes kit inputs g p n)) (slice_index (made_bytes kit inputs g p n) (q - file_place kit.kind p at)) c q
        (rw zero_more at (past_base c (at + 0) first)) m.class h (made_area kit inputs g gaps order p origin laid small limit sound whole heads_read c n size align m (q - file_place kit.kind p at) l)
        (made_at kit inputs g gaps order p origin laid small limit sound whole heads_read c n size align m (q - file_place kit.kind p at) l)

    pub right_made : (q : ℕ) (w : Write) → In w (made_writes kit inputs g p) → Gives q (image q) w
    right_made q w here = right_area Text 6 (made_of kit g).stubs 16 (stubs_part kit inputs g gaps order p origin laid small limit sound whole heads_read) bytes.stubs q
    right_made q w (there here) = right_area Rodata 8 (made_of kit g).tables 8 (tables_part kit inputs g gaps order p origin laid small limit sound whole heads_read) bytes.tables q
    right_made q w (there (there here)) =
        right_area (got_class kit.kind) 13 (made_of kit g).got 8 (got_part kit inputs g gaps order p origin laid small limit sound whole heads_read) bytes.got q
    right_made q w (there (there (there here))) = right_area Rwdata 14 (made_of kit g).dynamic 8 (dynamic_part kit inputs g gaps order p origin laid small limit sound whole heads_read) bytes.dynamic q
    right_made q w (there (there (there (there i)))) = elim i [ ]

  -- gaps
  gap_of : (z : Option Gaps) → gaps ≡ z → (q : ℕ) (w : Write) → In w (gap_writes kit.kind g z p) → Gives q (image q) w
  gap_of None e q w i h = elim i [ ]
  gap_of (Some z) e q w i h =
      elim (in_split (gap_write kit.kind g p z Text) (gap_write kit.kind g p z Rodata ++ (gap_write kit.kind g p z Rwdata ++ (gap_write kit.kind g p z Bss ++ []))) i) [
        | inl j ↦ one Text j
        | inr j ↦ elim (in_split (gap_write kit.kind g p z Rodata) (gap_write kit.kind g p z Rwdata ++ (gap_write kit.kind g p z Bss ++ [])) j) [
          | inl k ↦ one Rodata k
          | inr k ↦ elim (in_split (gap_write kit.kind g p z Rwdata) (gap_write kit.kind g p z Bss ++ []) k) [
            | inl m ↦ one Rwdata m
            | inr m ↦ elim (in_split (gap_write kit.kind g p z Bss) [] m) [ inl n ↦ one Bss n | inr n ↦ absurd (none_in n) ]
          ]
        ]
      ]
    where
      none_in : In w [] → ⊥
      none_in i = elim i [ ]

      one : (c : Class) → In w (gap_write kit.kind g p z c) → w.byte (q - w.place) ≡ image q
      one c i =
          let at = place_of p g (body.Gap c) in
          let o = in_only (is_in_file c) (same_from (file_place kit.kind p at) (gap_size z c) (padding c)) w i in
          let is = o.1 in
          let here_too : Within (file_place kit.kind p at) (gap_size z c) q = rw is at h in
          let l : q - file_place kit.kind p at < gap_size z c = omega (arith, here_too.0, here_too.1) in
          let area = gap_area kit inputs g gaps order p origin laid small limit sound whole heads_read z c (q - file_place kit.kind p at) e l in
          let first = gap_area kit inputs g gaps order p origin laid small limit sound whole heads_read z c 0 e (omega (arith, l)) in
          let zero_more : at + 0 ≡ at = omega arith in
          let base : p.base ≤ at = rw zero_more at (past_base c (at + 0) first) in
          let byte = gap_at kit inputs g gaps order p origin laid small limit sound whole heads_read z c (q - file_place kit.kind p at) e l in
          rw is (right_at at (gap_size z c) (padding c) c q base o.0 here_too area byte)

  pub right_gap : (q : ℕ) (w : Write) → In w (gap_writes kit.kind g gaps p) → Gives q (image q) w
  right_gap q w i = gap_of gaps refl q w i

  -- a piece, where no field has the place
  pub field_there : (n k : ℕ) → p.base ≤ place_of p g (body.Piece n) → InField g n k → (w : Write) × In w (field_writes kit g p) × Within w.place w.count (file_place kit.kind p (place_of p g (body.Piece n)) + k)
  field_there n k base (i, d, l, is, e) =
      let w : Write = record { place = file_place kit.kind p (place_of p g (body.Piece d.piece) + d.offset); count = width d.kind; byte = byte_of (filed_value kit p g d) } in
      let own : In w (field_write kit g p (0 + i) (get_or g.fields i d)) = rw is here in
      let low = e.1.0 in
      let high = e.1.1 in
      let same : place_of p g (body.Piece d.piece) ≡ place_of p g (body.Piece n) = ap (λ m. place_of p g (body.Piece m)) e.0 in
      (w, in_each (field_write kit g p) 0 g.fields i d w l own, (omega (arith, base, same, low), omega (arith, base, same, low, high)))

  pub right_piece : (q : ℕ) → ((w : Write) → In w (field_writes kit g p) → Within w.place w.count q → ⊥) → (w : Write) → In w (piece_writes kit.kind inputs g p) → Gives q (image q) w
  right_piece q none w i h =
      let r = in_given (piece_write kit.kind inputs g p) 0 g.pieces no_piece w i in
      let z : 0 + r.0 ≡ r.0 = omega arith in
      let x = piece_at g r.0 in
      let at = place_of p g (body.Piece r.0) in
      let o = in_only (is_in_file x.class) (record { place = file_place kit.kind p at; count = x.size; byte = content inputs x }) w (rw z at r.2) in
      let is = o.1 in
      let here_too : Within (file_place kit.kind p at) x.size q = rw is at h in
      let j = q - file_place kit.kind p at in
      let l : j < x.size = omega (arith, here_too.0, here_too.1) in
      let area = piece_area kit inputs g gaps order p origin laid small limit sound whole heads_read r.0 j r.1 l in
      let first = piece_area kit inputs g gaps order p origin laid small limit sound whole heads_read r.0 0 r.1 (omega (arith, l)) in
      let zero_more : at + 0 ≡ at = omega arith in
      let base : p.base ≤ at = rw zero_more at (past_base x.class (at + 0) first) in
      let back : file_place kit.kind p at + j ≡ q = omega (arith, here_too.0) in
      let free : InField g r.0 j → ⊥ = λ y. (let t = field_there r.0 j base y in none t.0 t.1 (rw back at t.2)) in
      let blank = no_field g r.0 j free in
      let byte : byte_at kit inputs g gaps p x.class (at + j) ≡ content inputs x j =
      byte_of_piece kit inputs g gaps p (are_apart kit inputs g gaps order p origin laid small limit sound whole heads_read) r.0 j x.class r.1 l ∙ rw blank refl in
      rw is (right_at at x.size (content inputs x j) x.class q base o.0 here_too area byte)
