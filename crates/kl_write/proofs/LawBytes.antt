-- Contents, gaps and padding of an image that is made place by place.
use Rattle.std.proofs.Common.{ℕ, ◌≡◌, ◌+◌, ◌-◌, ◌^◌, ◌<◌, ◌≤◌, ◌∙◌, List, [], ◌∷◌, ◌++◌, length, get_or, refl, ap, sym, subst, arith, nat_eq, Bool, true, false, cond, inl, inr, ◌⊎◌, ◌&&◌}
use Rattle.std.specs.Prelude.{Some, None, Option, IfSome, find, flat_map, ◌==◌, ◌||◌, nat_lt, slice_index, Any}
use Rattle.std.proofs.lemmas.Bool.{cases_lt, cases_Bool, eqb-true, le-ltb, ne_eqb}
use Rattle.kl_base.specs.declared.class.Class.{Class}
use Rattle.kl_base.specs.declared.class.Class.TheVariants.{Text, Rodata, Rwdata, Bss}
use Rattle.kl_le.specs.Bytes.{Within}
use Rattle.kl_model.specs.Areas.{class_number, same_class}
use Rattle.kl_model.specs.Carries.{Apart, Contents, HasByte, InArea, InField, InPart, Padded, content, is_in_file, no_piece, padding, permission, piece_at}
use Rattle.kl_model.specs.Image.{byte_at, field_on, image_bytes, is_nop, is_within, padding_at, part_byte, part_on}
use Rattle.kl_model.specs.Laid.{Laid, area_at, place_of, reach, span}
use Rattle.kl_model.specs.Line.{area_spread, class_line, classes, every_part, gap_parts, gap_size, made_parts, piece_part, run_spreads, spreads}
use Rattle.kl_model.specs.Lists.{each}
use Rattle.kl_model.specs.Relocations.{width}
use Rattle.kl_model.specs.Sizes.{made_of, text_from}
use Rattle.kl_model.specs.Sound.{IsSoundGraph}
use Rattle.kl_base.specs.declared.limits.TheConstants.{BASE_LIMIT, SPAN_LIMIT}
use Rattle.kl_write.proofs.AreaFound.{area_in_class}
use Rattle.kl_model.proofs.ClassMemory.{InOrder}
use Rattle.kl_model.proofs.Covered.{In, here, there, in_left, in_right, index_of, IsWhole}
use Rattle.kl_write.proofs.FileBytes.{HeadersRead, ends_before, holds_byte, holds_bss, holds_flags}
use Rattle.kl_write.proofs.Homes.{aligned-spreads}
use Rattle.kl_model.proofs.ImageBytes.{byte_of_piece, part_is, within_is}
use Rattle.kl_model.proofs.InOrder.{base-le}
use Rattle.kl_write.proofs.SoundLaid.{apart, four_classes, home, ordered, piece_home, top, within, same_classes, positive}
use Rattle.kl_write.proofs.Stands.{dynamic_in, gap_in, got_class, got_in, stubs_in, tables_in}
use Rattle.kl_model.specs.Tables.{made_bytes}
use Rattle.kl_model.specs.declared.kit.KitKind.{KitKind}
use Rattle.kl_model.specs.declared.kit.KitKind.TheVariants.{Kernel, Library}
use Rattle.kl_model.specs.declared.place.Body.TheVariants as body
use Rattle.kl_model.specs.declared.place.LinePart.{LinePart}
use Rattle.kl_model.specs.declared.place.Gaps.{Gaps}
use Rattle.kl_model.specs.declared.place.Made.{Made}
use Rattle.kl_model.specs.declared.place.Placement.{Placement}
use Rattle.kl_model.specs.declared.graph.Graph.{Graph}
use Rattle.kl_model.specs.declared.object.Input.{Input}
use Rattle.kl_model.specs.declared.kit.Kit.{Kit}

-- none is found where none passes
pub find_none : {X : Type 0} (t : X → Bool) (xs : List X) → ((x : X) → In x xs → t x ≡ false) → find t xs ≡ None
find_none t [] h = refl
find_none t (x ∷ xs) h = rw (h x here) (find_none t xs (λ y i. h y (there i)))

both : (a b : Bool) → (a && b) ≡ true → (a ≡ true) × (b ≡ true)
both true b e = (refl, e)
both false b e = cc

pub within_of : (at n x : ℕ) → is_within at n x ≡ true → Within at n x
within_of at n x e = grind arith

pub any_in : {X : Type 0} (P : X → Type 0) (xs : List X) (x : X) → In x xs → P x → Any P xs
any_in P xs x i h = let r = index_of x i in (r.0, x, r.1, r.2, h)

-- no field has the byte
pub no_field : (g : Graph) (n k : ℕ) → ¬ InField g n k → field_on g n k ≡ None
no_field g n k free =
    find_none (λ f. (f.piece == n) && is_within f.offset (width f.kind) k) g.fields (λ f i.
    elim (cases_Bool ((f.piece == n) && is_within f.offset (width f.kind) k)) [
      | inl e ↦
          let b = both _ _ e in
          absurd (free (any_in (λ f. (f.piece ≡ n) × Within f.offset (width f.kind) k) g.fields f i (eqb-true _ _ b.0, within_of f.offset (width f.kind) k b.1)))
      | inr e ↦ e
    ])

not_nop : (start end a : ℕ) → ¬ ((start ≤ a) × (a < end)) → is_within start (end - start) a ≡ false
not_nop start end a free =
    elim (cases_Bool (is_within start (end - start) a)) [
      | inl e ↦ let w = within_of start (end - start) a e in absurd (free (w.0, omega (arith, w.0, w.1)))
      | inr e ↦ e
    ]

or_left : (a b : Bool) → a ≡ true → (a || b) ≡ true
or_left true b e = refl
or_left false b e = cc

or_right : (a b : Bool) → b ≡ true → (a || b) ≡ true
or_right true b e = refl
or_right false b e = e

nothing : (b : Bool) (c : Class) → b ≡ false → cond (same_class c Text && b) 0x90 (padding c) ≡ padding c
nothing true c e = cc
nothing false Text e = refl
nothing false Rodata e = refl
nothing false Rwdata e = refl
nothing false Bss e = refl

module _ (kit : Kit) (inputs : List Input) (g : Graph) (gaps : Option Gaps) (order : List ℕ) (p : Placement) (origin : kit.kind ≡ Library → kit.base ≡ 0) (laid : Laid p kit g gaps order (made_of kit g))
    (small : span kit g gaps order (made_of kit g) ≤ SPAN_LIMIT) (limit : kit.base ≤ BASE_LIMIT) (sound : IsSoundGraph kit g) (whole : IsWhole g order)
    (read : HeadersRead kit inputs g gaps p) where
  abbrev made : Made
  made = made_of kit g

  abbrev img : List ℕ
  img = image_bytes kit inputs g gaps p

  pub zero_base : kit.kind ≡ Library → p.base ≡ 0
  zero_base e = laid.base ∙ origin e

  pub in_order_too : InOrder p
  in_order_too = ordered kit g gaps order made p laid small limit sound whole

  pub are_apart : Apart p g (every_part g gaps made)
  are_apart = apart kit g gaps order made p laid small limit sound whole

  pub stands_within : (c : Class) (x : LinePart) → In x (class_line kit g gaps order made c)
      → ((area_at p (class_number c)).start ≤ place_of p g x.body) × (place_of p g x.body + x.size ≤ (area_at p (class_number c)).end)
  stands_within = within kit g gaps order made p laid small limit sound whole

  pub byte_held : (c : Class) (a b : ℕ) → is_in_file c ≡ true → InArea p (class_number c) a → byte_at kit inputs g gaps p c a ≡ b → HasByte img a b c
  byte_held c a b f w e =
      holds_byte kit inputs g gaps p zero_base in_order_too read c a f w ∙ ap (λ x. Some (record { byte = x; flags = permission c })) e

  -- a byte of a piece has an address of its class
  pub piece_area : (n k : ℕ) → n < length g.pieces → k < (piece_at g n).size → InArea p (class_number (piece_at g n).class) (place_of p g (body.Piece n) + k)
  piece_area n k h l =
      let w = stands_within (piece_at g n).class (piece_part n (piece_at g n)) (piece_home kit g gaps order made p laid small limit sound whole n h) in
      (omega (arith, w.0), omega (arith, w.1, l))

  -- memory holds the byte of a piece in the file
  pub piece_held : (n k : ℕ) → n < length g.pieces → k < (piece_at g n).size → is_in_file (piece_at g n).class ≡ true
      → HasByte img (place_of p g (body.Piece n) + k) (part_byte kit inputs g gaps p (body.Piece n) k) (piece_at g n).class
  piece_held n k h l f =
      byte_held (piece_at g n).class (place_of p g (body.Piece n) + k) (part_byte kit inputs g gaps p (body.Piece n) k) f (piece_area n k h l)
      (byte_of_piece kit inputs g gaps p are_apart n k (piece_at g n).class h l)

  pub bss_held : (a : ℕ) → InArea p 3 a → HasByte img a 0 Bss
  bss_held a w = holds_bss kit inputs g gaps p zero_base in_order_too read a w

  -- a piece's bytes outside its fields are its input's
  piece_contents : (n k : ℕ) → n < length g.pieces → k < (piece_at g n).size → ¬ InField g n k
      → HasByte img (place_of p g (body.Piece n) + k) (content inputs (piece_at g n) k) (piece_at g n).class
  piece_contents n k h l free = go (piece_at g n).class refl
    where
      in_file : is_in_file (piece_at g n).class ≡ true → HasByte img (place_of p g (body.Piece n) + k) (content inputs (piece_at g n) k) (piece_at g n).class
      in_file f =
          let none = no_field g n k free in
          let byte : part_byte kit inputs g gaps p (body.Piece n) k ≡ content inputs (piece_at g n) k = rw none refl in
          piece_held n k h l f ∙ ap (λ b. Some (record { byte = b; flags = permission (piece_at g n).class })) byte

      in_bss : (piece_at g n).class ≡ Bss → HasByte img (place_of p g (body.Piece n) + k) (content inputs (piece_at g n) k) (piece_at g n).class
      in_bss e =
          let blank : (piece_at g n).bytes.len ≡ 0 = (sound.pieces n no_piece h).blank e in
          let none : nat_lt k 0 ≡ false = le-ltb k 0 (omega arith) in
          let zero_byte : content inputs (piece_at g n) k ≡ 0 = rw (blank, none) refl in
          let area : InArea p 3 (place_of p g (body.Piece n) + k) = subst (λ c. InArea p (class_number c) (place_of p g (body.Piece n) + k)) e (piece_area n k h l) in
          subst (λ c. HasByte img (place_of p g (body.Piece n) + k) (content inputs (piece_at g n) k) c) (sym e) (rw zero_byte (bss_held (place_of p g (body.Piece n) + k) area))

      go : (c : Class) → (piece_at g n).class ≡ c → HasByte img (place_of p g (body.Piece n) + k) (content inputs (piece_at g n) k) (piece_at g n).class
      go Text e = in_file (ap is_in_file e)
      go Rodata e = in_file (ap is_in_file e)
      go Rwdata e = in_file (ap is_in_file e)
      go Bss e = in_bss e

  -- a part that has an address is the part there
  pub part_there : (x : LinePart) (a : ℕ) → In x (every_part g gaps made) → Within (place_of p g x.body) x.size a → part_on kit inputs g gaps p a ≡ Some x
  part_there x a i w =
      let r = index_of x i in
      let w2 : Within (place_of p g (get_or (every_part g gaps made) r.0 x).body) (get_or (every_part g gaps made) r.0 x).size a =
      subst (λ (y : LinePart). Within (place_of p g y.body) y.size a) (sym r.2) w in
      part_is kit inputs g gaps p are_apart r.0 x a r.1 w2 ∙ ap Some r.2

  -- a gap holds padding
  pub gap_part : (z : Gaps) (c : Class) → gaps ≡ Some z → In (record { body = body.Gap c; size = gap_size z c; align = 16 }) (every_part g gaps made)
  gap_part z c e =
      in_right (each g.pieces (λ n x. piece_part n x ∷ []))
      (in_left (made_parts 6 made.stubs 16 ++ (made_parts 8 made.tables 8 ++ (made_parts 13 made.got 8 ++ made_parts 14 made.dynamic 8))) (rw e (four c)))
    where
      four : (c : Class) → In (record { body = body.Gap c; size = gap_size z c; align = 16 }) (flat_map (gap_parts (Some z)) classes)
      four Text = here
      four Rodata = there here
      four Rwdata = there (there here)
      four Bss = there (there (there here))

  pub gap_area : (z : Gaps) (c : Class) (k : ℕ) → gaps ≡ Some z → k < gap_size z c → InArea p (class_number c) (place_of p g (body.Gap c) + k)
  gap_area z c k e l =
      let w = stands_within c (record { body = body.Gap c; size = gap_size z c; align = 16 }) (gap_in kit g gaps order made z c e) in
      (omega (arith, w.0), omega (arith, w.1, l))

  pub gap_at : (z : Gaps) (c : Class) (k : ℕ) → gaps ≡ Some z → k < gap_size z c → byte_at kit inputs g gaps p c (place_of p g (body.Gap c) + k) ≡ padding c
  gap_at z c k e l =
      let there_is = part_there (record { body = body.Gap c; size = gap_size z c; align = 16 }) (place_of p g (body.Gap c) + k) (gap_part z c e) (omega arith, omega (arith, l)) in
      rw there_is refl

  gap_held : (z : Gaps) (c : Class) (k : ℕ) → gaps ≡ Some z → k < gap_size z c → HasByte img (place_of p g (body.Gap c) + k) (padding c) c
  gap_held z c k e l = go c l
    where
      byte : (c : Class) → k < gap_size z c → is_in_file c ≡ true → HasByte img (place_of p g (body.Gap c) + k) (padding c) c
      byte c l f = byte_held c (place_of p g (body.Gap c) + k) (padding c) f (gap_area z c k e l) (gap_at z c k e l)

      go : (c : Class) → k < gap_size z c → HasByte img (place_of p g (body.Gap c) + k) (padding c) c
      go Text l = byte Text l refl
      go Rodata l = byte Rodata l refl
      go Rwdata l = byte Rwdata l refl
      go Bss l = bss_held (place_of p g (body.Gap Bss) + k) (gap_area z Bss k e l)

  gaps_held : (z : Option Gaps) → gaps ≡ z → IfSome z (λ z. (c : Class) (k : ℕ) → k < gap_size z c → HasByte img (place_of p g (body.Gap c) + k) (padding c) c)
  gaps_held None e = tt
  gaps_held (Some z) e = λ c k l. gap_held z c k e l

  pub contents : Contents img p inputs g gaps
  contents = record {
    pieces = piece_contents;
    gap_bytes = gaps_held gaps refl;
    permissions = λ c a l h. holds_flags kit inputs g gaps p zero_base in_order_too read c a (l, h);
  }

  -- two classes have no address in common
  pub one_class : (c d : Class) (a : ℕ) → InArea p (class_number c) a → InArea p (class_number d) a → c ≡ d
  one_class c d a u v =
      elim (cases_lt (class_number c) (class_number d)) [
        | inl l ↦ absurd (omega (arith, u.1, v.0, ends_before p c d in_order_too l))
        | inr l ↦ elim (cases_lt (class_number d) (class_number c)) [
          | inl m ↦ absurd (omega (arith, v.1, u.0, ends_before p d c in_order_too m))
          | inr m ↦ same_classes c d (omega arith)
        ]
      ]

  -- no part has an address that no part of its class has
  pub no_part : (c : Class) (a : ℕ) → InArea p (class_number c) a → ¬ InPart p g (class_line kit g gaps order made c) a → part_on kit inputs g gaps p a ≡ None
  no_part c a w free =
      find_none (λ (x : LinePart). is_within (place_of p g x.body) x.size a) (every_part g gaps made) (λ x i.
      elim (cases_Bool (is_within (place_of p g x.body) x.size a)) [
        | inl e ↦
            let v = within_of (place_of p g x.body) x.size a e in
            let r = home kit g gaps order made p laid small limit sound whole x i in
            let u = stands_within r.0 x r.1 in
            let same = one_class r.0 c a (omega (arith, u.0, v.0), omega (arith, u.1, v.1)) w in
            absurd (free (any_in (λ (x : LinePart). Within (place_of p g x.body) x.size a) (class_line kit g gaps order made c) x (subst (λ k. In x (class_line kit g gaps order made k)) same r.1) v))
        | inr e ↦ e
      ])

  -- what is in no part is padding
  plain : (c : Class) (a : ℕ) → InArea p (class_number c) a → ¬ InPart p g (class_line kit g gaps order made c) a → ¬ InArea p 4 a → ¬ InArea p 5 a → HasByte img a (padding c) c
  plain c a w free init fini = go c w free
    where
      byte : (c : Class) → InArea p (class_number c) a → ¬ InPart p g (class_line kit g gaps order made c) a → is_in_file c ≡ true → HasByte img a (padding c) c
      byte c w free f =
          let none = no_part c a w free in
          let no_init = not_nop (area_at p 4).start (area_at p 4).end a init in
          let no_fini = not_nop (area_at p 5).start (area_at p 5).end a fini in
          let nop : is_nop kit inputs g gaps p a ≡ false = rw (no_init, no_fini) refl in
          let pad : padding_at kit inputs g gaps p c a ≡ padding c = nothing (is_nop kit inputs g gaps p a) c nop in
          byte_held c a (padding c) f w (rw none pad)

      go : (c : Class) → InArea p (class_number c) a → ¬ InPart p g (class_line kit g gaps order made c) a → HasByte img a (padding c) c
      go Text w free = byte Text w free refl
      go Rodata w free = byte Rodata w free refl
      go Rwdata w free = byte Rwdata w free refl
      go Bss w free = bss_held a w

  base_small : p.base < 2 ^ 64
  base_small = let b = laid.base in omega (arith, b, limit)

  -- the areas `init` and `fini` lie in text
  pub text_area : (n a : ℕ) → In (area_spread g n) (spreads kit g gaps order made Text) → InArea p n a → InArea p 0 a
  text_area n a i w =
      let stands = (four_classes kit g gaps order made p laid small limit sound whole).stands Text in
      let from = text_from kit g in
      let b = laid.base in
      let fits : reach from (class_line kit g gaps order made Text) ≤ p.base + SPAN_LIMIT = text_fits in
      area_in_class p g Text from (spreads kit g gaps order made Text) n a (area_spread g n) laid.text.areas
      (aligned-spreads kit g gaps order made (positive kit g gaps order made p laid small limit sound whole) Text) stands i refl base_small (omega (arith, b, base-le kit g)) (omega (arith, fits)) text_end w
    where
      text_end : reach (text_from kit g) (class_line kit g gaps order made Text) ≡ (area_at p 0).end
      text_end = sym ((four_classes kit g gaps order made p laid small limit sound whole).text_end)

      text_fits : reach (text_from kit g) (class_line kit g gaps order made Text) ≤ p.base + SPAN_LIMIT
      text_fits =
          let o = in_order_too in
          omega (arith, text_end, top kit g gaps order made p laid small limit sound whole, o.rodata_from, o.rodata, o.rwdata_from, o.rwdata, o.bss_from, o.bss)

  nops : (a : ℕ) → InArea p 4 a ⊎ InArea p 5 a → ¬ InPart p g (class_line kit g gaps order made Text) a → HasByte img a 0x90 Text
  nops a w free =
      let area : InArea p 0 a = elim w [
        | inl i ↦ text_area 4 a (there (in_right (run_spreads kit g order Text) here)) i
        | inr i ↦ text_area 5 a (there (in_right (run_spreads kit g order Text) (there here))) i
      ] in
      let nop : is_nop kit inputs g gaps p a ≡ true = elim w [
        | inl i ↦ or_left _ _ (within_is (area_at p 4).start ((area_at p 4).end - (area_at p 4).start) a (i.0, omega (arith, i.0, i.1)))
        | inr i ↦ or_right _ _ (within_is (area_at p 5).start ((area_at p 5).end - (area_at p 5).start) a (i.0, omega (arith, i.0, i.1)))
      ] in
      let none = no_part Text a area free in
      byte_held Text a 0x90 refl area (rw (none, nop) refl)

  pub padded : Padded img p g (class_line kit g gaps order made)
  padded = record { plain = plain; nops = nops }

  -- a made area is one part of its class, where it isn't empty
  pub record IsMadePart (c : Class) (n size align : ℕ) : Type 0 where
    pub class : is_in_file c ≡ true
    pub line : 0 < size → In (record { body = body.Area n; size = size; align = align }) (class_line kit g gaps order made c)
    pub part : 0 < size → In (record { body = body.Area n; size = size; align = align }) (every_part g gaps made)

  some_made : (n size align : ℕ) → 0 < size → In (record { body = body.Area n; size = size; align = align }) (made_parts n size align)
  some_made n size align h = let some : nat_eq size 0 ≡ false = ne_eqb size 0 (λ e. omega (arith, e, h)) in rw some here

  in_made : (x : LinePart) → In x (made_parts 6 made.stubs 16 ++ (made_parts 8 made.tables 8 ++ (made_parts 13 made.got 8 ++ made_parts 14 made.dynamic 8))) → In x (every_part g gaps made)
  in_made x i = in_right (each g.pieces (λ n x. piece_part n x ∷ [])) (in_right (flat_map (gap_parts gaps) classes) i)

  pub stubs_part : IsMadePart Text 6 made.stubs 16
  stubs_part = record {
    class = refl;
    line = λ h. stubs_in kit g gaps order made _ (some_made 6 made.stubs 16 h);
    part = λ h. in_made _ (in_left (made_parts 8 made.tables 8 ++ (made_parts 13 made.got 8 ++ made_parts 14 made.dynamic 8)) (some_made 6 made.stubs 16 h));
  }

  pub tables_part : IsMadePart Rodata 8 made.tables 8
  tables_part = record {
    class = refl;
    line = λ h. tables_in kit g gaps order made _ (some_made 8 made.tables 8 h);
    part = λ h. in_made _ (in_right (made_parts 6 made.stubs 16) (in_left (made_parts 13 made.got 8 ++ made_parts 14 made.dynamic 8) (some_made 8 made.tables 8 h)));
  }

  pub got_part : IsMadePart (got_class kit.kind) 13 made.got 8
  got_part = record {
    class = got_file kit.kind;
    line = λ h. got_in kit g gaps order made _ (some_made 13 made.got 8 h);
    part = λ h. in_made _ (in_right (made_parts 6 made.stubs 16) (in_right (made_parts 8 made.tables 8) (in_left (made_parts 14 made.dynamic 8) (some_made 13 made.got 8 h))));
  }
    where
      got_file : (k : KitKind) → is_in_file (got_class k) ≡ true
      got_file Kernel = refl
      got_file Library = refl

  pub dynamic_part : IsMadePart Rwdata 14 made.dynamic 8
  dynamic_part = record {
    class = refl;
    line = λ h. dynamic_in kit g gaps order made _ (some_made 14 made.dynamic 8 h);
    part = λ h. in_made _ (in_right (made_parts 6 made.stubs 16) (in_right (made_parts 8 made.tables 8) (in_right (made_parts 13 made.got 8) (some_made 14 made.dynamic 8 h))));
  }

  -- it holds its bytes
  module _ (c : Class) (n size align : ℕ) (m : IsMadePart c n size align) (q : ℕ) (l : q < size) where
    pub made_within : ((area_at p (class_number c)).start ≤ (area_at p n).start) × ((area_at p n).start + size ≤ (area_at p (class_number c)).end)
    made_within = stands_within c (record { body = body.Area n; size = size; align = align }) (m.line (omega (arith, l)))

    pub made_area : InArea p (class_number c) ((area_at p n).start + q)
    made_area = let w = made_within in (omega (arith, w.0), omega (arith, w.1, l))

    pub made_at : byte_at kit inputs g gaps p c ((area_at p n).start + q) ≡ slice_index (made_bytes kit inputs g p n) q
    made_at =
        let there_is =
        part_there (record { body = body.Area n; size = size; align = align }) ((area_at p n).start + q) (m.part (omega (arith, l))) (omega arith, omega (arith, l)) in
        let back : (area_at p n).start + q - (area_at p n).start ≡ q = omega arith in
        rw (there_is, back) refl

    pub made_held : HasByte img ((area_at p n).start + q) (slice_index (made_bytes kit inputs g p n) q) c
    made_held = byte_held c ((area_at p n).start + q) (slice_index (made_bytes kit inputs g p n) q) m.class made_area made_at
