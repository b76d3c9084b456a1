-- Two images that carry a graph under one placement have the same byte at each address of a class.
use Rattle.std.proofs.Common.{ℕ, ◌≡◌, ◌+◌, ◌-◌, ◌*◌, ◌/◌, ◌%◌, ◌<◌, ◌∙◌, List, [], ◌∷◌, ◌++◌, length, refl, ap, sym, subst, arith, Bool, true, false, ◌&&◌, inl, inr, ◌⊎◌}
use Rattle.std.specs.Prelude.{All, Option, Some, None, IfSome, ◌==◌, flat_map}
use Rattle.std.specs.List.{list_any}
use Rattle.std.proofs.lemmas.Bool.{cases_Bool, cases_lt, eq-eqb, eqb-true}
use Rattle.std.proofs.lemmas.List.Sorted.{list_any-IsPermutation}
use Rattle.kl_base.specs.declared.class.Class.{Class}
use Rattle.kl_base.specs.declared.class.Class.TheVariants.{Text, Rodata, Rwdata, Bss}
use Rattle.kl_le.specs.Bytes.{Within}
use Rattle.kl_model.specs.Areas.{class_number}
use Rattle.kl_model.specs.Carries.{CarriesGraph, HasByte, InArea, InField, InPart, LeadsTo, MadeHolds, Reached, SlotsHold, kernel_places, padding, piece_at}
use Rattle.kl_model.specs.Image.{is_within}
use Rattle.kl_model.specs.Laid.{area_at, place_of, span}
use Rattle.kl_model.specs.Leads.{slot_place}
use Rattle.kl_model.specs.Line.{class_line, classes, every_part, gap_parts, gap_size, made_parts, piece_part}
use Rattle.kl_model.specs.Lists.{each, only_if}
use Rattle.kl_model.specs.Memory.{byte_in, mem, num_in}
use Rattle.kl_model.specs.Orders.{IsOrder, drawn_count}
use Rattle.kl_model.specs.Relocations.{width}
use Rattle.kl_model.specs.Sizes.{made_for, made_of, page_of}
use Rattle.kl_model.specs.Slots.{slots, way}
use Rattle.kl_model.specs.Sound.{IsSoundPiece}
use Rattle.kl_model.specs.declared.graph.Field.{Field}
use Rattle.kl_model.specs.declared.graph.Graph.{Graph}
use Rattle.kl_model.specs.declared.kit.Kit.{Kit}
use Rattle.kl_model.specs.declared.kit.KitKind.TheVariants.{Kernel}
use Rattle.kl_model.specs.declared.object.Input.{Input}
use Rattle.kl_model.specs.declared.place.Body.TheVariants as body
use Rattle.kl_model.specs.declared.place.Gaps.{Gaps}
use Rattle.kl_model.specs.declared.place.LinePart.{LinePart}
use Rattle.kl_model.specs.declared.place.Made.{Made}
use Rattle.kl_model.specs.declared.place.Placement.{Placement}
use Rattle.kl_model.proofs.Covered.{In, here, there, in_flat_map}
use Rattle.kl_model.proofs.ImageBytes.{within_is}
use Rattle.kl_layout.proofs.Once.{everything_once}
use Rattle.kl_write.proofs.FileSegments.{in_classes}
use Rattle.kl_write.proofs.ImageFile.{all_in}
use Rattle.kl_write.proofs.LawBytes.{within_of}
use Rattle.kl_write.proofs.SlotWords.{any_in, in_any}
use Rattle.kl_write.proofs.SoundLaid.{in_get, in_pieces, in_split}
use Rattle.kl_unique.proofs.Fixed.{AreBytes, mem_bytes, same_num_in}
use Rattle.kl_unique.proofs.SameFields.{same_way}

both : (a b : Bool) → (a && b) ≡ true → (a ≡ true) × (b ≡ true)
both true b e = (refl, e)
both false b e = cc

pub never : (b : Bool) → b ≡ true → b ≡ false → ⊥
never true e f = cc
never false e f = cc

-- an address is in an area, or isn't
in_or_out : (p : Placement) (n a : ℕ) → InArea p n a ⊎ (¬ InArea p n a)
in_or_out p n a = elim (cases_lt a (area_at p n).start) [
  | inl l ↦ inr (λ w. absurd (omega (arith, l, w.0)))
  | inr l ↦ elim (cases_lt a (area_at p n).end) [ inl m ↦ inl (l, m) | inr m ↦ inr (λ w. absurd (omega (arith, m, w.1))) ]
]

pub in_only : {X : Type 0} (b : Bool) (z x : X) → In x (only_if b z) → x ≡ z
in_only true z x here = refl
in_only true z x (there i) = elim i [ ]
in_only false z x i = elim i [ ]

-- the byte that a memory holds
pub byte_of : (image : List ℕ) (a b : ℕ) (c : Class) → HasByte image a b c → byte_in (mem image) a ≡ b
byte_of image a b c h = rw h refl

module _ (kit : Kit) (inputs : List Input) (g : Graph) (gaps : Option Gaps) (order : List ℕ) (p : Placement) (kernel : kit.kind ≡ Kernel) (sound : All (IsSoundPiece kit g) g.pieces)
    (o : IsOrder (drawn_count g.parts) order) (img twin : List ℕ) (x : AreBytes img) (y : AreBytes twin) (one : CarriesGraph img p kit inputs g gaps order)
    (two : CarriesGraph twin p kit inputs g gaps order) where
  abbrev made : Made
  made = made_of kit g

  abbrev parts : List LinePart
  parts = every_part g gaps made

  -- the two have the same byte at an address
  abbrev pub AreAlike : ℕ → Type 0
  AreAlike a = byte_in (mem img) a ≡ byte_in (mem twin) a

  held : (a b : ℕ) (c : Class) → HasByte img a b c → HasByte twin a b c → AreAlike a
  held a b c h l = byte_of img a b c h ∙ sym (byte_of twin a b c l)

  -- fields
  reached : (image : List ℕ) → CarriesGraph image p kit inputs g gaps order → Reached Kernel image p inputs g (page_of kit g) (span kit g gaps order made)
  reached image carries = subst (λ k. Reached k image p inputs g (page_of kit g) (span kit g gaps order made)) kernel carries.reached

  leads : (image : List ℕ) → CarriesGraph image p kit inputs g gaps order → (f : Field) → In f g.fields
      → LeadsTo Kernel image p inputs g (page_of kit g) (span kit g gaps order made) f f.target
  leads image carries f i = all_in (λ h. LeadsTo Kernel image p inputs g (page_of kit g) (span kit g gaps order made) h h.target) g.fields f (reached image carries) i

  in_field : (f : Field) → In f g.fields → (j : ℕ) → j < width f.kind → AreAlike (place_of p g (body.Piece f.piece) + f.offset + j)
  in_field f i j l =
      let at = place_of p g (body.Piece f.piece) + f.offset in
      same_num_in (mem img) (mem twin) at (width f.kind) (mem_bytes img x) (mem_bytes twin y)
      (same_way (mem img) (mem twin) (mem_bytes img x) (mem_bytes twin y) (kernel_places p g) at f f.target (way f.kind f.target) refl (leads img one f i) (leads twin two f i)) j l

  -- pieces: a field has a byte of one, or none has
  abbrev on : ℕ → ℕ → Field → Bool
  on n k f = (f.piece == n) && is_within f.offset (width f.kind) k

  free : (n k : ℕ) → list_any (on n k) g.fields ≡ false → ¬ InField g n k
  free n k e w =
      let f = w.1 in
      let i : In f g.fields = subst (λ h. In h g.fields) w.3 (in_get g.fields w.0 f w.2) in
      let test : on n k f ≡ true = rw (eq-eqb f.piece n w.4.0, within_is f.offset (width f.kind) k w.4.1) refl in
      never (list_any (on n k) g.fields) (in_any (on n k) g.fields f i test) e

  in_piece : (n k : ℕ) → n < length g.pieces → k < (piece_at g n).size → AreAlike (place_of p g (body.Piece n) + k)
  in_piece n k h l = elim (cases_Bool (list_any (on n k) g.fields)) [
    | inl e ↦
        let r = any_in (on n k) g.fields e in
        let f = r.0 in
        let b = both (f.piece == n) (is_within f.offset (width f.kind) k) r.2 in
        let w = within_of f.offset (width f.kind) k b.1 in
        let own : f.piece ≡ n = eqb-true f.piece n b.0 in
        let alike = in_field f r.1 (k - f.offset) (omega (arith, w.0, w.1)) in
        let place : place_of p g (body.Piece f.piece) + f.offset + (k - f.offset) ≡ place_of p g (body.Piece n) + k = omega (arith, w.0, ap (λ m. place_of p g (body.Piece m)) own) in
        subst AreAlike place alike
    | inr e ↦ held _ _ _ (one.contents.pieces n k h l (free n k e)) (two.contents.pieces n k h l (free n k e))
  ]

  -- gaps
  in_gap : (z : Gaps) → gaps ≡ Some z → (c : Class) (k : ℕ) → k < gap_size z c → AreAlike (place_of p g (body.Gap c) + k)
  in_gap z e c k l =
      let own = subst (λ w. IfSome w (λ z. (c : Class) (k : ℕ) → k < gap_size z c → HasByte img (place_of p g (body.Gap c) + k) (padding c) c)) e one.contents.gap_bytes in
      let other = subst (λ w. IfSome w (λ z. (c : Class) (k : ℕ) → k < gap_size z c → HasByte twin (place_of p g (body.Gap c) + k) (padding c) c)) e two.contents.gap_bytes in
      held (place_of p g (body.Gap c) + k) (padding c) c (own c k l) (other c k l)

  -- slots
  slots_hold : (image : List ℕ) → CarriesGraph image p kit inputs g gaps order → SlotsHold image p g
  slots_hold image carries = subst (λ k. MadeHolds k image p kit inputs g) kernel carries.made

  in_got : (q : ℕ) → q < 8 * length (slots g) → AreAlike ((area_at p 13).start + q)
  in_got q l =
      let k = q / 8 in
      let few : k < length (slots g) = omega (arith, l) in
      let same : num_in (mem img) (slot_place p k) 8 ≡ num_in (mem twin) (slot_place p k) 8 = slots_hold img one k few ∙ sym (slots_hold twin two k few) in
      let place : slot_place p k + q % 8 ≡ (area_at p 13).start + q = omega arith in
      subst AreAlike place (same_num_in (mem img) (mem twin) (slot_place p k) 8 (mem_bytes img x) (mem_bytes twin y) same (q % 8) (omega arith))

  -- an address of a part
  at_part : (z w : LinePart) (a : ℕ) → z ≡ w → Within (place_of p g z.body) z.size a → ((k : ℕ) → k < w.size → AreAlike (place_of p g w.body + k)) → AreAlike a
  at_part z w a is within alike =
      let v : Within (place_of p g w.body) w.size a = subst (λ (u : LinePart). Within (place_of p g u.body) u.size a) is within in
      let place : place_of p g w.body + (a - place_of p g w.body) ≡ a = omega (arith, v.0) in
      subst AreAlike place (alike (a - place_of p g w.body) (omega (arith, v.0, v.1)))

  of_gap : (w : Option Gaps) → gaps ≡ w → (z : LinePart) (a : ℕ) → In z (flat_map (gap_parts w) classes) → Within (place_of p g z.body) z.size a → AreAlike a
  of_gap None e z a i v = elim i [ ]
  of_gap (Some w) e z a here v = at_part z _ a refl v (in_gap w e Text)
  of_gap (Some w) e z a (there here) v = at_part z _ a refl v (in_gap w e Rodata)
  of_gap (Some w) e z a (there (there here)) v = at_part z _ a refl v (in_gap w e Rwdata)
  of_gap (Some w) e z a (there (there (there here))) v = at_part z _ a refl v (in_gap w e Bss)
  of_gap (Some w) e z a (there (there (there (there i)))) v = elim i [ ]

  -- in a kernel only the global offset table is made
  of_made : (z : LinePart) (a : ℕ) → In z (made_parts 6 made.stubs 16 ++ (made_parts 8 made.tables 8 ++ (made_parts 13 made.got 8 ++ made_parts 14 made.dynamic 8)))
      → Within (place_of p g z.body) z.size a → AreAlike a
  of_made z a i v =
      let j = subst (λ k. In z (made_parts 6 (made_for k kit g).stubs 16
      ++ (made_parts 8 (made_for k kit g).tables 8 ++ (made_parts 13 (made_for k kit g).got 8 ++ made_parts 14 (made_for k kit g).dynamic 8)))) kernel i in
      elim (in_split (made_parts 13 (8 * length (slots g)) 8) [] j) [
        | inl m ↦ at_part z (record { body = body.Area 13; size = 8 * length (slots g); align = 8 }) a (in_only _ _ z m) v in_got
        | inr m ↦ elim m [ ]
      ]

  of_piece : (z : LinePart) (a : ℕ) → In z (each g.pieces (λ n w. piece_part n w ∷ [])) → Within (place_of p g z.body) z.size a → AreAlike a
  of_piece z a i v =
      let r = in_pieces 0 g.pieces z i in
      let same : 0 + r.0 ≡ r.0 = omega arith in
      let is : z ≡ piece_part r.0 (piece_at g r.0) = rw same at r.2 in
      at_part z (piece_part r.0 (piece_at g r.0)) a is v (λ k l. in_piece r.0 k r.1 l)

  of_part : (z : LinePart) (a : ℕ) → In z parts → Within (place_of p g z.body) z.size a → AreAlike a
  of_part z a i v =
      let areas = made_parts 6 made.stubs 16 ++ (made_parts 8 made.tables 8 ++ (made_parts 13 made.got 8 ++ made_parts 14 made.dynamic 8)) in
      elim (in_split (each g.pieces (λ n w. piece_part n w ∷ [])) (flat_map (gap_parts gaps) classes ++ areas) i) [
        | inl j ↦ of_piece z a j v
        | inr j ↦ elim (in_split (flat_map (gap_parts gaps) classes) areas j) [ inl m ↦ of_gap gaps refl z a m v | inr m ↦ of_made z a m v ]
      ]

  -- an address of no part is padding
  abbrev has : ℕ → LinePart → Bool
  has a z = is_within (place_of p g z.body) z.size a

  free_line : (a : ℕ) → list_any (has a) parts ≡ false → (c : Class) → ¬ InPart p g (class_line kit g gaps order made c) a
  free_line a none c w =
      let lines = flat_map (class_line kit g gaps order made) classes in
      let i : In w.1 (class_line kit g gaps order made c) =
      subst (λ h. In h (class_line kit g gaps order made c)) w.3 (in_get (class_line kit g gaps order made c) w.0 w.1 w.2) in
      let some = in_any (has a) lines w.1 (in_flat_map (class_line kit g gaps order made) {y = w.1} (in_classes c) i) (within_is (place_of p g w.1.body) w.1.size a w.4) in
      never (list_any (has a) lines) some (sym (list_any-IsPermutation (has a) parts lines (everything_once kit g sound order o gaps made)) ∙ none)

  of_none : (c : Class) (a : ℕ) → InArea p (class_number c) a → list_any (has a) parts ≡ false → AreAlike a
  of_none c a w none = elim (in_or_out p 4 a) [
    | inl i ↦ held a 0x90 Text (one.padded.nops a (inl i) (free_line a none Text)) (two.padded.nops a (inl i) (free_line a none Text))
    | inr init ↦ elim (in_or_out p 5 a) [
      | inl i ↦ held a 0x90 Text (one.padded.nops a (inr i) (free_line a none Text)) (two.padded.nops a (inr i) (free_line a none Text))
      | inr fini ↦ held a (padding c) c (one.padded.plain c a w (free_line a none c) init fini) (two.padded.plain c a w (free_line a none c) init fini)
    ]
  ]

  -- AN ADDRESS OF A CLASS
  pub alike : (c : Class) (a : ℕ) → InArea p (class_number c) a → AreAlike a
  alike c a w = elim (cases_Bool (list_any (has a) parts)) [
    | inl e ↦ let r = any_in (has a) parts e in of_part r.0 a r.1 (within_of (place_of p g r.0.body) r.0.size a r.2)
    | inr e ↦ of_none c a w e
  ]
