-- A placement whose parts are at their stops, and whose classes and areas have their extents, is laid out.
use Rattle.std.proofs.Common.{ℕ, ◌≡◌, ◌+◌, ◌%◌, ◌^◌, ◌≤◌, ◌∙◌, ◌⊎◌, List, [], ◌∷◌, ◌++◌, length, get_or, refl, ap, sym, subst, arith, Bool, true, false, not, inl, inr, ◌&&◌}
use Rattle.std.specs.Prelude.{IfSome, Option, Some, None, flat_map, slice_get, ◌==◌}
use Rattle.std.specs.List.{AllByRecursion}
use Rattle.kl_base.specs.declared.class.Class.{Class}
use Rattle.kl_base.specs.declared.class.Class.TheVariants.{Text, Rodata, Rwdata, Bss}
use Rattle.kl_base.specs.declared.limits.TheConstants.{BASE_LIMIT, SPAN_LIMIT}
use Rattle.kl_model.specs.Areas.{class_number, same_class}
use Rattle.std.proofs.lemmas.Bool.{eqb-true}
use Rattle.kl_model.specs.Laid.{AreasStand, ClassLaid, IsArea, Laid, Stand, end_of, place_of, reach, span, start_of, unwrapped, no_area}
use Rattle.kl_model.specs.Line.{Spread, area_spread, class_line, gap_parts, got_spread, inputs_in, is_common_id, is_of_input, last_spreads, made_spread, of_input, piece_part, piece_parts, run_spreads, sequence, spreads}
use Rattle.kl_model.specs.Lists.{only_if, up}
use Rattle.kl_model.specs.Placed.{class_from, extent, first_stop, same_body, stop_of}
use Rattle.kl_model.specs.declared.graph.Graph.{Graph}
use Rattle.kl_model.specs.declared.graph.Piece.{Piece}
use Rattle.kl_model.specs.declared.kit.Kit.{Kit}
use Rattle.kl_model.specs.declared.kit.KitKind.{KitKind}
use Rattle.kl_model.specs.declared.kit.KitKind.TheVariants.{Kernel, Library}
use Rattle.kl_model.specs.declared.kit.Run.{Run}
use Rattle.kl_model.specs.declared.place.AreaAt.{AreaAt}
use Rattle.kl_model.specs.declared.place.Body.{Body}
use Rattle.kl_model.specs.declared.place.Body.TheVariants as body
use Rattle.kl_model.specs.declared.place.Gaps.{Gaps}
use Rattle.kl_model.specs.declared.place.LinePart.{LinePart}
use Rattle.kl_model.specs.declared.place.Made.{Made}
use Rattle.kl_model.specs.declared.place.Placement.{Placement}
use Rattle.kl_model.proofs.Addresses.{unwrapped-mod}
use Rattle.kl_model.proofs.InOrder.{Aligned, end-reach, get_found}
use Rattle.kl_model.specs.declared.object.Part.TheVariants.{Head}
use Rattle.kl_layout.specs.Once.{AreOnce, later_inputs}
use Rattle.kl_layout.specs.Stops.{AreExtents}
use Rattle.kl_layout.proofs.ClassEnds.{all_laid, past, within}
use Rattle.kl_layout.proofs.Enumerated.{all_append, all_joined, passing_holds}
use Rattle.kl_layout.proofs.LayMore.{stop_append_none}
use Rattle.kl_layout.proofs.ByInput.{sequence_split}
use Rattle.kl_layout.proofs.Standing.{body_from_same, stand_at_stops, start_is, stop_here, stop_further, stop_within}

-- which bodies are no areas
abbrev pub IsStored : Body → Type 0
IsStored (body.Piece n) = Unit {0}
IsStored (body.Gap c) = Unit {0}
IsStored (body.Area n) = ⊥

abbrev AreStored : List LinePart → Type 0
AreStored xs = AllByRecursion (λ x. IsStored x.body) xs

-- a spread has no made area, or is one
abbrev pub IsHome : Spread → Type 0
IsHome s = AreStored s.parts ⊎ ((n : ℕ) × (size : ℕ) × (align : ℕ) × (s ≡ record { area = Some n; parts = record { body = body.Area n; size = size; align = align } ∷ [] }))

pieces_stored : (g : Graph) (test : Piece → Bool) → AreStored (piece_parts g test)
pieces_stored g test = passing_holds piece_part test (λ x. IsStored x.body) 0 g.pieces (λ k d l t. tt)

sequence_stored : (g : Graph) (order : List ℕ) (between : List LinePart) (c : Class) (n : ℕ) → AreStored between → AreStored (sequence g order between (of_input g c n))
sequence_stored g order between c n h =
    let f = of_input g c n in
    let each = λ (is : List ℕ). all_joined (λ (x : LinePart). IsStored x.body) f (λ i. pieces_stored g (λ x. is_of_input i x.id && (same_class x.class c && (x.area == n)))) is in
    subst AreStored (sym (sequence_split g order between f))
    (all_append (λ x. IsStored x.body) (flat_map f (inputs_in g Head)) (between ++ flat_map f (later_inputs g order)) (each (inputs_in g Head))
    (all_append (λ x. IsStored x.body) between (flat_map f (later_inputs g order)) h (each (later_inputs g order))))

gap_stored : (gaps : Option Gaps) (c : Class) → AreStored (gap_parts gaps c)
gap_stored None c = tt
gap_stored (Some z) c = (tt, tt)

made_home : (n size align : ℕ) → IsHome (made_spread n size align)
made_home n size align = go (not (size == 0))
  where
    go : (b : Bool) → IsHome (record { area = Some n; parts = only_if b (record { body = body.Area n; size = size; align = align }) })
    go true = inr (n, size, align, refl)
    go false = inl tt

got_home : (kind : KitKind) (made : Made) (c : Class) → AllByRecursion IsHome (got_spread kind made c)
got_home Kernel made Text = tt
got_home Kernel made Rodata = (made_home 13 made.got 8, tt)
got_home Kernel made Rwdata = tt
got_home Kernel made Bss = tt
got_home Library made Text = tt
got_home Library made Rodata = tt
got_home Library made Rwdata = (made_home 13 made.got 8, tt)
got_home Library made Bss = tt

area_home : (g : Graph) (n : ℕ) → IsHome (area_spread g n)
area_home g n = inl (pieces_stored g (λ x. x.area == n))

last_home : (kind : KitKind) (g : Graph) (made : Made) (c : Class) → AllByRecursion IsHome (last_spreads kind g made c)
last_home kind g made Text = (area_home g 4, (area_home g 5, (made_home 6 made.stubs 16, tt)))
last_home kind g made Rodata = (area_home g 7, (made_home 8 made.tables 8, got_home kind made Rodata))
last_home kind g made Rwdata =
    (area_home g 9, (area_home g 10, (area_home g 11, (area_home g 12, all_append IsHome (got_spread kind made Rwdata) _ (got_home kind made Rwdata) (made_home 14 made.dynamic 8, tt)))))
last_home kind g made Bss = (inl (pieces_stored g (λ x. is_common_id x.id)), tt)

pub spreads_home : (kit : Kit) (g : Graph) (gaps : Option Gaps) (order : List ℕ) (made : Made) (c : Class) → AllByRecursion IsHome (spreads kit g gaps order made c)
spreads_home kit g gaps order made c = (
  inl (sequence_stored g order (gap_parts gaps c) c (class_number c) (gap_stored gaps c)),
  all_append IsHome (run_spreads kit g order c) (last_spreads kit.kind g made c)
      (passing_holds (λ k (r : Run). record { area = Some (15 + k); parts = sequence g order [] (of_input g c (15 + k)) }) (λ r. same_class r.class c) IsHome 0 kit.runs
      (λ k d l t. inl (sequence_stored g order [] c (15 + (0 + k)) tt)))
      (last_home kit.kind g made c),
)

-- no made area stands among pieces and gaps
no_area_stop : (n from : ℕ) (xs : List LinePart) → AreStored xs → stop_of (body.Area n) from xs ≡ None
no_area_stop n from [] a = refl
no_area_stop n from (y ∷ ys) a = go (no_area_stop n (up from y.align + y.size) ys a.1) (same_body (body.Area n) y.body) refl
  where
    go : stop_of (body.Area n) (up from y.align + y.size) ys ≡ None → (t : Bool) → same_body (body.Area n) y.body ≡ t → stop_of (body.Area n) from (y ∷ ys) ≡ None
    go more true t = let same = body_from_same (body.Area n) y.body t in absurd (subst IsStored (sym same) a.0)
    go more false t = stop_further (body.Area n) from y ys t ∙ more

-- an area that stands among spreads starts at its stop
pub area_starts : (areas : List AreaAt) (n from s : ℕ) (ss : List Spread) → AllByRecursion IsHome ss → AreExtents areas from ss → stop_of (body.Area n) from (flat_map (λ x. x.parts) ss) ≡ Some s
    → (get_or areas n no_area).start ≡ s % 2 ^ 64
area_starts areas n from s [] homes extents e = cc
area_starts areas n from s (x ∷ ss) homes extents e =
    let more = λ (f : stop_of (body.Area n) (reach from x.parts) (flat_map (λ x. x.parts) ss) ≡ Some s). area_starts areas n (reach from x.parts) s ss homes.1 extents.1 f in
    elim homes.0 [
      | inl stored ↦ more (sym (stop_append_none (body.Area n) from x.parts (flat_map (λ x. x.parts) ss) (no_area_stop n from x.parts stored)) ∙ e)
      | inr m ↦ made more m.0 m.1 m.2 m.3 (same_body (body.Area n) (body.Area m.0)) refl
    ]
  where
    made : (stop_of (body.Area n) (reach from x.parts) (flat_map (λ x. x.parts) ss) ≡ Some s → (get_or areas n no_area).start ≡ s % 2 ^ 64) → (m size align : ℕ) → x ≡ record { area = Some m; parts = record { body = body.Area m; size = size; align = align } ∷ [] }
        → (t : Bool) → same_body (body.Area n) (body.Area m) ≡ t → (get_or areas n no_area).start ≡ s % 2 ^ 64
    made more m size align is true t =
        let part : LinePart = record { body = body.Area m; size = size; align = align } in
        let same : n ≡ m = eqb-true n m t in
        let stop : stop_of (body.Area n) from (flat_map (λ x. x.parts) (x ∷ ss)) ≡ Some (up from align) =
        ap (λ (y : Spread). stop_of (body.Area n) from (flat_map (λ x. x.parts) (y ∷ ss))) is ∙ stop_here (body.Area n) from part (flat_map (λ x. x.parts) ss) t in
        let first : Some (up from align) ≡ Some s = sym stop ∙ e in
        let at : up from align ≡ s = cc in
        let extent_is : IfSome x.area (λ k. slice_get areas k ≡ Some (extent from x.parts)) = extents.0 in
        let known : slice_get areas m ≡ Some (extent from (part ∷ [])) = rw is at extent_is in
        ap (λ k. (get_or areas k no_area).start) same ∙ (ap (λ (a : AreaAt). a.start) (get_found areas m (extent from (part ∷ [])) known) ∙ ap (λ k. k % 2 ^ 64) at)
    made more m size align is false t =
        let part : LinePart = record { body = body.Area m; size = size; align = align } in
        let stop : stop_of (body.Area n) from (flat_map (λ x. x.parts) (x ∷ ss)) ≡ stop_of (body.Area n) (reach from x.parts) (flat_map (λ x. x.parts) ss) =
        rw is (stop_further (body.Area n) from part (flat_map (λ x. x.parts) ss) t) in
        more (sym stop ∙ e)

-- spreads whose parts stand, and whose areas have their extents, stand
stand_left : (at : Body → ℕ) (from : ℕ) (xs ys : List LinePart) → Stand at from (xs ++ ys) → Stand at from xs × Stand at (end_of at from xs) ys
stand_left at from [] ys s = (tt, s)
stand_left at from (x ∷ xs) ys s = let r = stand_left at (at x.body + x.size) xs ys s.1 in ((s.0, r.0), r.1)

pub areas_stand : (p : Placement) (at : Body → ℕ) (from : ℕ) (ss : List Spread) → Stand at from (flat_map (λ x. x.parts) ss) → AreExtents p.areas from ss → AreasStand p at from ss
areas_stand p at from [] s e = tt
areas_stand p at from (x ∷ ss) s e =
    let r = stand_left at from x.parts (flat_map (λ x. x.parts) ss) s in
    let stop = end-reach at from x.parts r.0 in
    let start = start_is at from x.parts r.0 in
    (r.0, own r.0 stop start x.area e.0, areas_stand p at (end_of at from x.parts) ss r.1 (rw stop e.1))
  where
    own : Stand at from x.parts → end_of at from x.parts ≡ reach from x.parts → start_of at from x.parts ≡ first_stop from x.parts → (o : Option ℕ)
        → IfSome o (λ n. slice_get p.areas n ≡ Some (extent from x.parts)) → IfSome o (λ n. IsArea p n (start_of at from x.parts) (end_of at from x.parts))
    own s stop start None h = tt
    own s stop start (Some n) h = rw (stop, start) h

module _ (kit : Kit) (g : Graph) (gaps : Option Gaps) (order : List ℕ) (made : Made) (limit : kit.base ≤ BASE_LIMIT) (small : span kit g gaps order made ≤ SPAN_LIMIT)
    (aligned : (c : Class) → Aligned (class_line kit g gaps order made c)) (once : (c : Class) → AreOnce (class_line kit g gaps order made c))
    (p : Placement) (base : p.base ≡ kit.base) (count : length p.areas ≡ 15 + length kit.runs)
    (stored : (c : Class) (b : Body) (n : ℕ) → IsStored b → stop_of b (class_from kit g gaps order made c) (class_line kit g gaps order made c) ≡ Some n
    → place_of p g b ≡ unwrapped p (n % 2 ^ 64))
    (extents : (c : Class) → AreExtents p.areas (class_from kit g gaps order made c) (spreads kit g gaps order made c))
    (classes : (c : Class) → slice_get p.areas (class_number c) ≡ Some (extent (class_from kit g gaps order made c) (class_line kit g gaps order made c))) where
  abbrev from : Class → ℕ
  from c = class_from kit g gaps order made c

  abbrev line : Class → List LinePart
  line c = class_line kit g gaps order made c

  at_stop : (c : Class) (b : Body) (n : ℕ) → stop_of b (from c) (line c) ≡ Some n → place_of p g b ≡ n
  at_stop c b n e =
      let w = stop_within b (from c) (line c) n (aligned c) e in
      kept b e
      ∙ unwrapped-mod p n (omega (arith, base, limit)) (omega (arith, base, w.0, past kit g gaps order made limit small aligned c))
      (omega (arith, base, limit, w.1, within kit g gaps order made limit small aligned c))
    where
      kept : (b : Body) → stop_of b (from c) (line c) ≡ Some n → place_of p g b ≡ unwrapped p (n % 2 ^ 64)
      kept (body.Piece m) e = stored c (body.Piece m) n tt e
      kept (body.Gap k) e = stored c (body.Gap k) n tt e
      kept (body.Area m) e =
          ap (unwrapped p) (area_starts p.areas m (from c) n (spreads kit g gaps order made c) (spreads_home kit g gaps order made c) (extents c) e)

  stands : (c : Class) → Stand (place_of p g) (from c) (line c)
  stands c = stand_at_stops (place_of p g) (from c) (line c) (once c) (at_stop c)

  laid_there : (c : Class) → ClassLaid p kit g gaps order made c (from c)
  laid_there c =
      let stop = end-reach (place_of p g) (from c) (line c) (stands c) in
      let start = start_is (place_of p g) (from c) (line c) (stands c) in
      record {
        areas = areas_stand p (place_of p g) (from c) (spreads kit g gaps order made c) (stands c) (extents c);
        class = rw (stop, start) (classes c);
      }

  pub laid : Laid p kit g gaps order made
  laid = all_laid kit g gaps order made limit small aligned p base laid_there count
