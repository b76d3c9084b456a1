-- A placement that is laid out, of a sound graph: each part stands in its class, and parts are aligned and apart.
use Rattle.std.proofs.Common.{ℕ, zero, suc, ◌≡◌, ◌+◌, ◌-◌, ◌%◌, ◌/◌, ◌^◌, ◌<◌, ◌≤◌, ◌∙◌, List, [], ◌∷◌, ◌++◌, length, get_or, refl, ap, sym, subst, arith, inl, inr, ◌⊎◌}
use Rattle.std.specs.Prelude.{Some, None, Option, flat_map, All}
use Rattle.std.proofs.lemmas.Bool.{cases_lt}
use Rattle.std.proofs.Math.Nat.{mul-mod_left, pow-succ'}
use Rattle.kl_base.specs.declared.class.Class.{Class}
use Rattle.kl_base.specs.declared.class.Class.TheVariants.{Text, Rodata, Rwdata, Bss}
use Rattle.kl_model.specs.Areas.{class_number}
use Rattle.kl_model.specs.Carries.{Apart, no_piece, piece_at}
use Rattle.kl_model.specs.Laid.{Laid, Stand, area_at, class_end, place_of, reach, span}
use Rattle.kl_model.specs.Line.{class_line, classes, every_part, gap_parts, made_parts, piece_part}
use Rattle.kl_model.specs.Lists.{each, each_from, up}
use Rattle.kl_model.specs.Sizes.{page_of, text_from}
use Rattle.kl_model.specs.Sound.{IsSoundGraph}
use Rattle.kl_base.specs.declared.limits.TheConstants.{BASE_LIMIT, SPAN_LIMIT}
use Rattle.kl_model.proofs.Carried.{parts_apart}
use Rattle.kl_model.proofs.ClassMemory.{InOrder}
use Rattle.kl_model.proofs.Covered.{In, here, there, index_of, IsWhole}
use Rattle.kl_write.proofs.FileBytes.{ends_before}
use Rattle.kl_write.proofs.Homes.{aligned-line, ClassStands, class_stands, in_class}
use Rattle.kl_model.proofs.InOrder.{Aligned, base-le, page-pos, laid_in_order, le-reach, le-up, class_is}
use Rattle.kl_write.proofs.LaidParts.{all_of_in, bodies_ascend, code}
use Rattle.kl_write.proofs.Stands.{got_class, gap_in, stubs_in, tables_in, got_in, dynamic_in, piece_in}
use Rattle.kl_model.specs.declared.place.Body.{Body}
use Rattle.kl_model.specs.declared.place.LinePart.{LinePart}
use Rattle.kl_model.specs.declared.place.Gaps.{Gaps}
use Rattle.kl_model.specs.declared.place.Made.{Made}
use Rattle.kl_model.specs.declared.place.Placement.{Placement}
use Rattle.kl_model.specs.declared.graph.Piece.{Piece}
use Rattle.kl_model.specs.declared.graph.Graph.{Graph}
use Rattle.kl_model.specs.declared.kit.Kit.{Kit}

pub in_split : {X : Type 0} {x : X} (xs ys : List X) → In x (xs ++ ys) → In x xs ⊎ In x ys
in_split [] ys i = inr i
in_split (z ∷ xs) ys here = inl here
in_split (z ∷ xs) ys (there i) = elim (in_split xs ys i) [ inl j ↦ inl (there j) | inr j ↦ inr j ]

pub in_get : {X : Type 0} (xs : List X) (k : ℕ) (d : X) → k < length xs → In (get_or xs k d) xs
in_get [] k d l = absurd (omega arith)
in_get (x ∷ xs) zero d l = here
in_get (x ∷ xs) (suc k) d l = there (in_get xs k d (omega (arith, l)))

-- a piece among the parts
pub in_pieces : (k : ℕ) (xs : List Piece) (x : LinePart) → In x (each_from k (λ n y. piece_part n y ∷ []) xs)
    → (i : ℕ) × (i < length xs) × (x ≡ piece_part (k + i) (get_or xs i no_piece))
in_pieces k [] x i = elim i [ ]
in_pieces k (y ∷ ys) x here = (0, omega arith, (let z : k + 0 ≡ k = omega arith in rw z refl))
in_pieces k (y ∷ ys) x (there i) =
    let r = in_pieces (suc k) ys x i in
    let l = r.1 in
    (suc r.0, omega arith, (let z : k + suc r.0 ≡ suc k + r.0 = omega arith in rw z r.2))

pub same_classes : (a b : Class) → class_number a ≡ class_number b → a ≡ b
same_classes Text Text e = refl
same_classes Text Rodata e = absurd (omega (arith, e))
same_classes Text Rwdata e = absurd (omega (arith, e))
same_classes Text Bss e = absurd (omega (arith, e))
same_classes Rodata Text e = absurd (omega (arith, e))
same_classes Rodata Rodata e = refl
same_classes Rodata Rwdata e = absurd (omega (arith, e))
same_classes Rodata Bss e = absurd (omega (arith, e))
same_classes Rwdata Text e = absurd (omega (arith, e))
same_classes Rwdata Rodata e = absurd (omega (arith, e))
same_classes Rwdata Rwdata e = refl
same_classes Rwdata Bss e = absurd (omega (arith, e))
same_classes Bss Text e = absurd (omega (arith, e))
same_classes Bss Rodata e = absurd (omega (arith, e))
same_classes Bss Rwdata e = absurd (omega (arith, e))
same_classes Bss Bss e = refl

two_pos : (k : ℕ) → 0 < 2 ^ k
two_pos zero = omega arith
two_pos (suc k) = rw (pow-succ' 2 k) (omega (arith, two_pos k))

aligned_in : (at : Body → ℕ) (from : ℕ) (xs : List LinePart) (x : LinePart) → Stand at from xs → In x xs → at x.body % x.align ≡ 0
aligned_in at from [] x s i = elim i [ ]
aligned_in at from (y ∷ ys) x s here = ap (λ n. n % x.align) s.0 ∙ mul-mod_left ((from + x.align - 1) / x.align) x.align
aligned_in at from (y ∷ ys) x s (there i) = aligned_in at (at y.body + y.size) ys x s.1 i

-- the four classes
pub record FourClasses (kit : Kit) (g : Graph) (gaps : Option Gaps) (order : List ℕ) (made : Made) (p : Placement) : Type 0 where
  pub stands : (c : Class) → ClassStands p g (class_line kit g gaps order made c) c
  pub top : (area_at p 3).end ≤ p.base + SPAN_LIMIT
  pub text_first : text_from kit g ≤ (area_at p 0).start
  pub text_end : (area_at p 0).end ≡ reach (text_from kit g) (class_line kit g gaps order made Text)
  pub rodata_end : (area_at p 1).end ≡ reach (up (class_end p Text) (page_of kit g)) (class_line kit g gaps order made Rodata)
  pub rwdata_end : (area_at p 2).end ≡ reach (up (class_end p Rodata) (page_of kit g)) (class_line kit g gaps order made Rwdata)

module _ (kit : Kit) (g : Graph) (gaps : Option Gaps) (order : List ℕ) (made : Made) (p : Placement) (laid : Laid p kit g gaps order made)
    (small : span kit g gaps order made ≤ SPAN_LIMIT) (limit : kit.base ≤ BASE_LIMIT) (sound : IsSoundGraph kit g) (whole : IsWhole g order) where
  pub positive : All (λ x. 0 < x.align) g.pieces
  positive k d l = let a = (sound.pieces k d l).align in omega (arith, a.2, two_pos a.0)

  pub aligned : (c : Class) → Aligned (class_line kit g gaps order made c)
  aligned c = aligned-line kit g gaps order made positive c

  pub ordered : InOrder p
  ordered = laid_in_order p kit g gaps order made laid small limit aligned

  pub four_classes : FourClasses kit g gaps order made p
  four_classes =
      let a = aligned in
      let l = laid in
      let base = l.base in
      let n = page_of kit g in
      let pos : 0 < n = page-pos kit g in
      let from = text_from kit g in
      let past : kit.base ≤ from = base-le kit g in
      let t = reach from (class_line kit g gaps order made Text) in
      let r = reach (up t n) (class_line kit g gaps order made Rodata) in
      let w = reach (up r n) (class_line kit g gaps order made Rwdata) in
      let z = reach (up w n) (class_line kit g gaps order made Bss) in
      let lt : from ≤ t = le-reach from (class_line kit g gaps order made Text) (a Text) in
      let lr : up t n ≤ r = le-reach (up t n) (class_line kit g gaps order made Rodata) (a Rodata) in
      let lw : up r n ≤ w = le-reach (up r n) (class_line kit g gaps order made Rwdata) (a Rwdata) in
      let lz : up w n ≤ z = le-reach (up w n) (class_line kit g gaps order made Bss) (a Bss) in
      let ut : t ≤ up t n = le-up t n pos in
      let ur : r ≤ up r n = le-up r n pos in
      let uw : w ≤ up w n = le-up w n pos in
      let fits : z ≤ kit.base + SPAN_LIMIT = omega (arith, small) in
      let text = class_is p kit g gaps order made Text from l.text (a Text) (omega arith) (omega arith) (omega arith) in
      let rodata_laid = rw text.ends at l.rodata in
      let rodata = class_is p kit g gaps order made Rodata (up t n) rodata_laid (a Rodata) (omega arith) (omega arith) (omega arith) in
      let rwdata_laid = rw rodata.ends at l.rwdata in
      let rwdata = class_is p kit g gaps order made Rwdata (up r n) rwdata_laid (a Rwdata) (omega arith) (omega arith) (omega arith) in
      let bss_laid = rw rwdata.ends at l.bss in
      let bss = class_is p kit g gaps order made Bss (up w n) bss_laid (a Bss) (omega arith) (omega arith) (omega arith) in
      let at_text = class_stands p kit g gaps order made Text from l.text (a Text) (omega arith) (omega arith) (omega arith) in
      let at_rodata = class_stands p kit g gaps order made Rodata (up t n) rodata_laid (a Rodata) (omega arith) (omega arith) (omega arith) in
      let at_rwdata = class_stands p kit g gaps order made Rwdata (up r n) rwdata_laid (a Rwdata) (omega arith) (omega arith) (omega arith) in
      let at_bss = class_stands p kit g gaps order made Bss (up w n) bss_laid (a Bss) (omega arith) (omega arith) (omega arith) in
      record {
        stands = λ c. pick at_text at_rodata at_rwdata at_bss c;
        top = omega (arith, bss.ends, fits, base);
        text_first = text.start;
        text_end = text.ends;
        rodata_end = rodata.ends ∙ ap (λ m. reach (up m n) (class_line kit g gaps order made Rodata)) (sym text.ends);
        rwdata_end = rwdata.ends ∙ ap (λ m. reach (up m n) (class_line kit g gaps order made Rwdata)) (sym rodata.ends);
      }
    where
      pick : ClassStands p g (class_line kit g gaps order made Text) Text → ClassStands p g (class_line kit g gaps order made Rodata) Rodata
          → ClassStands p g (class_line kit g gaps order made Rwdata) Rwdata → ClassStands p g (class_line kit g gaps order made Bss) Bss
          → (c : Class) → ClassStands p g (class_line kit g gaps order made c) c
      pick t r w b Text = t
      pick t r w b Rodata = r
      pick t r w b Rwdata = w
      pick t r w b Bss = b

  pub top : (area_at p 3).end ≤ p.base + SPAN_LIMIT
  top = four_classes.top

  -- what stands in the line of a class stands in the class
  pub within : (c : Class) (x : LinePart) → In x (class_line kit g gaps order made c)
      → ((area_at p (class_number c)).start ≤ place_of p g x.body) × (place_of p g x.body + x.size ≤ (area_at p (class_number c)).end)
  within c x i = in_class p g (class_line kit g gaps order made c) c (aligned c) (four_classes.stands c) x i

  -- the class of each part
  pub piece_home : (n : ℕ) → n < length g.pieces → In (piece_part n (piece_at g n)) (class_line kit g gaps order made (piece_at g n).class)
  piece_home n h = piece_in kit g gaps order made whole n h (sound.pieces n no_piece h)

  gap_home : (z : Option Gaps) → gaps ≡ z → (x : LinePart) → In x (flat_map (gap_parts z) classes) → (c : Class) × In x (class_line kit g gaps order made c)
  gap_home None e x i = elim i [ ]
  gap_home (Some z) e x here = (Text, gap_in kit g gaps order made z Text e)
  gap_home (Some z) e x (there here) = (Rodata, gap_in kit g gaps order made z Rodata e)
  gap_home (Some z) e x (there (there here)) = (Rwdata, gap_in kit g gaps order made z Rwdata e)
  gap_home (Some z) e x (there (there (there here))) = (Bss, gap_in kit g gaps order made z Bss e)
  gap_home (Some z) e x (there (there (there (there i)))) = elim i [ ]

  made_home : (x : LinePart) → In x (made_parts 6 made.stubs 16 ++ (made_parts 8 made.tables 8 ++ (made_parts 13 made.got 8 ++ made_parts 14 made.dynamic 8)))
      → (c : Class) × In x (class_line kit g gaps order made c)
  made_home x i =
      elim (in_split (made_parts 6 made.stubs 16) (made_parts 8 made.tables 8 ++ (made_parts 13 made.got 8 ++ made_parts 14 made.dynamic 8)) i) [
        | inl j ↦ (Text, stubs_in kit g gaps order made x j)
        | inr j ↦ elim (in_split (made_parts 8 made.tables 8) (made_parts 13 made.got 8 ++ made_parts 14 made.dynamic 8) j) [
          | inl k ↦ (Rodata, tables_in kit g gaps order made x k)
          | inr k ↦ elim (in_split (made_parts 13 made.got 8) (made_parts 14 made.dynamic 8) k) [
            | inl m ↦ (got_class kit.kind, got_in kit g gaps order made x m)
            | inr m ↦ (Rwdata, dynamic_in kit g gaps order made x m)
          ]
        ]
      ]

  pub home : (x : LinePart) → In x (every_part g gaps made) → (c : Class) × In x (class_line kit g gaps order made c)
  home x i =
      elim (in_split (each g.pieces (λ n y. piece_part n y ∷ []))
      (flat_map (gap_parts gaps) classes ++ (made_parts 6 made.stubs 16 ++ (made_parts 8 made.tables 8 ++ (made_parts 13 made.got 8 ++ made_parts 14 made.dynamic 8)))) i) [
        | inl j ↦
            let r = in_pieces 0 g.pieces x j in
            let z : 0 + r.0 ≡ r.0 = omega arith in
            let is : x ≡ piece_part r.0 (piece_at g r.0) = rw z at r.2 in
            ((piece_at g r.0).class, subst (λ y. In y (class_line kit g gaps order made (piece_at g r.0).class)) (sym is) (piece_home r.0 r.1))
        | inr j ↦ elim (in_split (flat_map (gap_parts gaps) classes)
            (made_parts 6 made.stubs 16 ++ (made_parts 8 made.tables 8 ++ (made_parts 13 made.got 8 ++ made_parts 14 made.dynamic 8))) j) [
              | inl k ↦ gap_home gaps refl x k
              | inr k ↦ made_home x k
            ]
      ]

  -- two parts of one line
  same_line : (c d : Class) (x y : LinePart) → c ≡ d → In x (class_line kit g gaps order made c) → In y (class_line kit g gaps order made d) → code (length g.pieces) x.body < code (length g.pieces) y.body
      → (place_of p g x.body + x.size ≤ place_of p g y.body) ⊎ (place_of p g y.body + y.size ≤ place_of p g x.body)
  same_line c d x y e i j less =
      let xs = class_line kit g gaps order made c in
      let here_too : In y xs = subst (λ k. In y (class_line kit g gaps order made k)) (sym e) j in
      let stands = four_classes.stands c in
      let a = index_of x i in
      let b = index_of x here_too in
      let pairs = parts_apart (place_of p g) stands.from xs (aligned c) stands.stand in
      elim (cases_lt a.0 b.0) [
        | inl l ↦ inl (rw (a.2, b.2) at (pairs a.0 b.0 x l b.1))
        | inr l ↦ elim (cases_lt b.0 a.0) [
          | inl m ↦ inr (rw (b.2, a.2) at (pairs b.0 a.0 x m a.1))
          | inr m ↦
              let same : a.0 ≡ b.0 = omega arith in
              let is : x ≡ y = sym a.2 ∙ (ap (λ k. get_or xs k x) same ∙ b.2) in
              absurd (omega (arith, less, ap (λ (k : LinePart). code (length g.pieces) k.body) is))
        ]
      ]

  pub two_apart : (x y : LinePart) → In x (every_part g gaps made) → In y (every_part g gaps made) → code (length g.pieces) x.body < code (length g.pieces) y.body
      → (place_of p g x.body + x.size ≤ place_of p g y.body) ⊎ (place_of p g y.body + y.size ≤ place_of p g x.body)
  two_apart x y i j less =
      let a = home x i in
      let b = home y j in
      let u = within a.0 x a.1 in
      let v = within b.0 y b.1 in
      elim (cases_lt (class_number a.0) (class_number b.0)) [
        | inl l ↦ inl (omega (arith, u.1, v.0, ends_before p a.0 b.0 ordered l))
        | inr l ↦ elim (cases_lt (class_number b.0) (class_number a.0)) [
          | inl m ↦ inr (omega (arith, v.1, u.0, ends_before p b.0 a.0 ordered m))
          | inr m ↦ same_line a.0 b.0 x y (same_classes a.0 b.0 (omega arith)) a.1 b.1 less
        ]
      ]

  -- parts are aligned and apart
  pub apart : Apart p g (every_part g gaps made)
  apart = record {
    aligned = all_of_in (λ x. place_of p g x.body % x.align ≡ 0) (every_part g gaps made)
        (λ x i. let a = home x i in let s = four_classes.stands a.0 in aligned_in (place_of p g) s.from (class_line kit g gaps order made a.0) x s.stand a.1);
    apart = λ i j d h l. two_apart (get_or (every_part g gaps made) i d) (get_or (every_part g gaps made) j d)
        (in_get (every_part g gaps made) i d (omega (arith, h, l))) (in_get (every_part g gaps made) j d l) (bodies_ascend g gaps made i j d h l);
  }
