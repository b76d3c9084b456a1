-- Where the parts of a sound graph stand in a placement that is laid out: each in its class, and no two share a byte.
use Rattle.std.proofs.Common.{ℕ, suc, ◌≡◌, ◌+◌, ◌^◌, ◌<◌, ◌≤◌, ◌∙◌, List, [], ◌∷◌, ◌++◌, ap, arith, Bool, true, false, not}
use Rattle.std.specs.Prelude.{Some, None, Option, flat_map, slice_index, ◌==◌, All}
use Rattle.kl_base.specs.declared.class.Class.{Class}
use Rattle.kl_base.specs.declared.class.Class.TheVariants.{Text, Rodata, Rwdata, Bss}
use Rattle.kl_model.specs.Areas.{class_number, same_class}
use Rattle.kl_model.specs.Laid.{ClassLaid, Stand, area_at, end_of, place_of, reach, start_of}
use Rattle.kl_model.specs.Line.{Spread, class_line, gap_parts, got_spread, inputs_in, last_spreads, made_parts, of_input, piece_part, piece_parts, run_spreads, sequence, spreads}
use Rattle.kl_model.specs.Lists.{each_from, only_if}
use Rattle.kl_model.proofs.Carried.{part_within}
use Rattle.kl_model.proofs.Covered.{In, here, there, index_of}
use Rattle.kl_model.proofs.InOrder.{Aligned, areas-stand, area_is, end-reach, le-start}
use Rattle.kl_model.specs.declared.object.Part.TheVariants.{Head, Drawn, Tail}
use Rattle.kl_model.specs.declared.place.Body.TheVariants as body
use Rattle.kl_model.specs.declared.place.LinePart.{LinePart}
use Rattle.kl_model.specs.declared.place.Gaps.{Gaps}
use Rattle.kl_model.specs.declared.place.Made.{Made}
use Rattle.kl_model.specs.declared.place.Placement.{Placement}
use Rattle.kl_model.specs.declared.graph.Piece.{Piece}
use Rattle.kl_model.specs.declared.graph.Graph.{Graph}
use Rattle.kl_model.specs.declared.kit.KitKind.{KitKind}
use Rattle.kl_model.specs.declared.kit.KitKind.TheVariants.{Kernel, Library}
use Rattle.kl_model.specs.declared.kit.Run.{Run}
use Rattle.kl_model.specs.declared.kit.Kit.{Kit}

-- all parts of a line have an alignment
aligned-append : (xs ys : List LinePart) → Aligned xs → Aligned ys → Aligned (xs ++ ys)
aligned-append [] ys a b = b
aligned-append (x ∷ xs) ys a b = (a.0, aligned-append xs ys a.1 b)

aligned-flat : {X : Type 0} (f : X → List LinePart) (xs : List X) → ((x : X) → Aligned (f x)) → Aligned (flat_map f xs)
aligned-flat f [] h = tt
aligned-flat f (x ∷ xs) h = aligned-append (f x) (flat_map f xs) (h x) (aligned-flat f xs h)

aligned-only : (b : Bool) (x : LinePart) → 0 < x.align → Aligned (only_if b x)
aligned-only true x h = (h, tt)
aligned-only false x h = tt

aligned-pieces : (n : ℕ) (test : Piece → Bool) (xs : List Piece) → All (λ x. 0 < x.align) xs → Aligned (each_from n (λ k x. only_if (test x) (piece_part k x)) xs)
aligned-pieces n test [] h = tt
aligned-pieces n test (x ∷ xs) h =
    aligned-append (only_if (test x) (piece_part n x)) (each_from (suc n) (λ k x. only_if (test x) (piece_part k x)) xs)
    (aligned-only (test x) (piece_part n x) (h 0 x (omega arith))) (aligned-pieces (suc n) test xs (λ k d l. h (suc k) d (omega (arith, l))))

-- spreads whose parts have an alignment
abbrev pub AllAligned : List Spread → Type 0
AllAligned [] = Unit {0}
AllAligned (s ∷ ss) = Aligned s.parts × AllAligned ss

pub all-aligned : (ss : List Spread) → AllAligned ss → Aligned (flat_map (λ s. s.parts) ss)
all-aligned [] a = tt
all-aligned (s ∷ ss) a = aligned-append s.parts (flat_map (λ s. s.parts) ss) a.0 (all-aligned ss a.1)

all-append : (ss ts : List Spread) → AllAligned ss → AllAligned ts → AllAligned (ss ++ ts)
all-append [] ts a b = b
all-append (s ∷ ss) ts a b = (a.0, all-append ss ts a.1 b)

all-only : (b : Bool) (s : Spread) → Aligned s.parts → AllAligned (only_if b s)
all-only true s a = (a, tt)
all-only false s a = tt

module _ (kit : Kit) (g : Graph) (gaps : Option Gaps) (order : List ℕ) (made : Made) (pieces : All (λ x. 0 < x.align) g.pieces) where
  aligned-parts : (test : Piece → Bool) → Aligned (piece_parts g test)
  aligned-parts test = aligned-pieces 0 test g.pieces pieces

  aligned-sequence : (between : List LinePart) (f : ℕ → List LinePart) → Aligned between → ((n : ℕ) → Aligned (f n)) → Aligned (sequence g order between f)
  aligned-sequence between f a h =
      aligned-append (flat_map f (inputs_in g Head)) (between ++ (flat_map (λ d. f (slice_index (inputs_in g Drawn) d)) order ++ flat_map f (inputs_in g Tail)))
      (aligned-flat f (inputs_in g Head) h)
      (aligned-append between (flat_map (λ d. f (slice_index (inputs_in g Drawn) d)) order ++ flat_map f (inputs_in g Tail)) a
      (aligned-append (flat_map (λ d. f (slice_index (inputs_in g Drawn) d)) order) (flat_map f (inputs_in g Tail))
      (aligned-flat (λ d. f (slice_index (inputs_in g Drawn) d)) order (λ d. h (slice_index (inputs_in g Drawn) d))) (aligned-flat f (inputs_in g Tail) h)))

  aligned-gap : (z : Option Gaps) (c : Class) → Aligned (gap_parts z c)
  aligned-gap None c = tt
  aligned-gap (Some z) c = (omega arith, tt)

  aligned-input : (c : Class) (a i : ℕ) → Aligned (of_input g c a i)
  aligned-input c a i = aligned-parts _

  aligned-runs : (n : ℕ) (rs : List Run) (c : Class)
      → AllAligned (each_from n (λ k r. only_if (same_class r.class c) (record { area = Some (15 + k); parts = sequence g order [] (of_input g c (15 + k)) })) rs)
  aligned-runs n [] c = tt
  aligned-runs n (r ∷ rs) c =
      all-append (only_if (same_class r.class c) (record { area = Some (15 + n); parts = sequence g order [] (of_input g c (15 + n)) }))
      (each_from (suc n) (λ k r. only_if (same_class r.class c) (record { area = Some (15 + k); parts = sequence g order [] (of_input g c (15 + k)) })) rs)
      (all-only (same_class r.class c) (record { area = Some (15 + n); parts = sequence g order [] (of_input g c (15 + n)) })
      (aligned-sequence [] (of_input g c (15 + n)) tt (aligned-input c (15 + n))))
      (aligned-runs (suc n) rs c)

  aligned-made : (n size align : ℕ) → 0 < align → Aligned (made_parts n size align)
  aligned-made n size align h = aligned-only (not (size == 0)) (record { body = body.Area n; size = size; align = align }) h

  aligned-got : (k : KitKind) (c : Class) → AllAligned (got_spread k made c)
  aligned-got Kernel Text = tt
  aligned-got Kernel Rodata = (aligned-made 13 made.got 8 (omega arith), tt)
  aligned-got Kernel Rwdata = tt
  aligned-got Kernel Bss = tt
  aligned-got Library Text = tt
  aligned-got Library Rodata = tt
  aligned-got Library Rwdata = (aligned-made 13 made.got 8 (omega arith), tt)
  aligned-got Library Bss = tt

  aligned-last : (c : Class) → AllAligned (last_spreads kit.kind g made c)
  aligned-last Text = (aligned-parts _, (aligned-parts _, (aligned-made 6 made.stubs 16 (omega arith), tt)))
  aligned-last Rodata = (aligned-parts _, (aligned-made 8 made.tables 8 (omega arith), aligned-got kit.kind Rodata))
  aligned-last Rwdata =
      (aligned-parts _, (aligned-parts _, (aligned-parts _, (aligned-parts _, all-append (got_spread kit.kind made Rwdata) _ (aligned-got kit.kind Rwdata) (aligned-made 14 made.dynamic 8 (omega arith), tt)))))
  aligned-last Bss = (aligned-parts _, tt)

  pub aligned-spreads : (c : Class) → AllAligned (spreads kit g gaps order made c)
  aligned-spreads c = (
    aligned-sequence (gap_parts gaps c) (of_input g c (class_number c)) (aligned-gap gaps c) (aligned-input c (class_number c)),
    all-append (run_spreads kit g order c) (last_spreads kit.kind g made c) (aligned-runs 0 kit.runs c) (aligned-last c),
  )

  pub aligned-line : (c : Class) → Aligned (class_line kit g gaps order made c)
  aligned-line c = all-aligned (spreads kit g gaps order made c) (aligned-spreads c)

-- the parts of a class stand in a row from its start to its end
pub record ClassStands (p : Placement) (g : Graph) (parts : List LinePart) (c : Class) : Type 0 where
  pub from : ℕ
  pub stand : Stand (place_of p g) from parts
  pub start : (area_at p (class_number c)).start ≡ start_of (place_of p g) from parts
  pub end : (area_at p (class_number c)).end ≡ reach from parts

pub class_stands : (p : Placement) (kit : Kit) (g : Graph) (gaps : Option Gaps) (order : List ℕ) (made : Made) (c : Class) (from : ℕ) → ClassLaid p kit g gaps order made c from
    → Aligned (class_line kit g gaps order made c) → p.base < 2 ^ 64 → p.base ≤ from → reach from (class_line kit g gaps order made c) < p.base + 2 ^ 64
    → ClassStands p g (class_line kit g gaps order made c) c
class_stands p kit g gaps order made c from l a b f h =
    let stand = areas-stand p (place_of p g) from (spreads kit g gaps order made c) l.areas in
    let s = le-start (place_of p g) from (class_line kit g gaps order made c) a stand in
    let e = end-reach (place_of p g) from (class_line kit g gaps order made c) stand in
    let both = area_is p (class_number c) (start_of (place_of p g) from (class_line kit g gaps order made c)) (end_of (place_of p g) from (class_line kit g gaps order made c)) l.class b
    (omega (arith, s.0, f)) (omega (arith, s.1, e)) (omega (arith, e, h)) in
    record { from = from; stand = stand; start = both.0; end = both.1 ∙ e }

-- what stands in a line stands in its class
pub in_class : (p : Placement) (g : Graph) (parts : List LinePart) (c : Class) → Aligned parts → ClassStands p g parts c → (x : LinePart) → In x parts
    → ((area_at p (class_number c)).start ≤ place_of p g x.body) × (place_of p g x.body + x.size ≤ (area_at p (class_number c)).end)
in_class p g parts c a s x i = go parts a s.stand s.start s.end i
  where
    go : (xs : List LinePart) → Aligned xs → Stand (place_of p g) s.from xs → (area_at p (class_number c)).start ≡ start_of (place_of p g) s.from xs
        → (area_at p (class_number c)).end ≡ reach s.from xs → In x xs
        → ((area_at p (class_number c)).start ≤ place_of p g x.body) × (place_of p g x.body + x.size ≤ (area_at p (class_number c)).end)
    go [] a t b e i = elim i [ ]
    go (y ∷ ys) a t b e here = (omega (arith, b), (let w = part_within (place_of p g) s.from (x ∷ ys) a t 0 x (omega arith) in omega (arith, e, w.1)))
    go (y ∷ ys) a t b e (there i) =
        let r = index_of x i in
        let w = part_within (place_of p g) (place_of p g y.body + y.size) ys a.1 t.1 r.0 x r.1 in
        let same = ap (λ n. reach (n + y.size) ys) t.0 in
        let is = ap (λ (z : LinePart). place_of p g z.body) r.2 in
        let size = ap (λ (z : LinePart). z.size) r.2 in
        (omega (arith, b, w.0, is), omega (arith, e, w.1, same, is, size))
