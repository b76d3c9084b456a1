-- The computed placement: where the span is small its pieces and its areas stand within it.
use Rattle.std.proofs.Common.{ℕ, zero, suc, ◌≡◌, ◌+◌, ◌%◌, ◌^◌, ◌<◌, ◌≤◌, ◌∙◌, List, [], ◌∷◌, ◌++◌, length, get_or, refl, ap, sym, arith, Bool, true, false}
use Rattle.std.specs.Prelude.{Option, Some, None, flat_map, slice_get, unwrap_or, ◌==◌}
use Rattle.std.specs.Option.{option_map_or}
use Rattle.std.proofs.lemmas.List.{get_or_append_left}
use Rattle.kl_base.specs.declared.class.Class.{Class}
use Rattle.kl_base.specs.declared.class.Class.TheVariants.{Text, Rodata, Rwdata, Bss}
use Rattle.kl_base.specs.declared.limits.TheConstants.{BASE_LIMIT, SPAN_LIMIT}
use Rattle.kl_model.specs.Carries.{no_piece}
use Rattle.kl_model.specs.Laid.{place_of, reach, span, unwrapped, no_placed}
use Rattle.kl_model.specs.Line.{Spread, class_line, piece_part, spreads}
use Rattle.kl_model.specs.Lists.{each, up}
use Rattle.kl_model.specs.Orders.{IsOrder, drawn_count}
use Rattle.kl_model.specs.Placed.{area_extent, class_extent, class_from, extent, extent_of, first_stop, placed, placed_gaps, spread_extent, stop_in}
use Rattle.kl_model.specs.Sound.{IsSoundGraph}
use Rattle.kl_model.specs.declared.graph.Graph.{Graph}
use Rattle.kl_model.specs.declared.graph.Piece.{Piece}
use Rattle.kl_model.specs.declared.kit.Kit.{Kit}
use Rattle.kl_model.specs.declared.place.AreaAt.{AreaAt}
use Rattle.kl_model.specs.declared.place.Body.TheVariants as body
use Rattle.kl_model.specs.declared.place.Gaps.{Gaps}
use Rattle.kl_model.specs.declared.place.LinePart.{LinePart}
use Rattle.kl_model.specs.declared.place.Made.{Made}
use Rattle.kl_model.specs.declared.place.Placed.{Placed}
use Rattle.kl_model.specs.declared.place.Placement.{Placement}
use Rattle.kl_model.proofs.Addresses.{unwrapped-mod}
use Rattle.kl_model.proofs.InOrder.{Aligned, le-reach, le-up}
use Rattle.kl_layout.proofs.ClassEnds.{past, within}
use Rattle.kl_layout.proofs.LayMore.{reach_append}
use Rattle.kl_layout.proofs.LineParts.{line_aligned}
use Rattle.kl_layout.proofs.OneEach.{piece_stands}
use Rattle.kl_layout.proofs.OnlyPlaced.{Somewhere, any_extent, each_at, each_count, get_each, low_somewhere, run_somewhere, stop_there}
use Rattle.kl_layout.proofs.Standing.{stop_within}

-- an area that is kept modulo 2^64 starts and ends within the span
pub record IsWithin (base : ℕ) (x : AreaAt) : Type 0 where
  pub start : ℕ
  pub stop : ℕ
  pub is : x ≡ record { start = start % 2 ^ 64; end = stop % 2 ^ 64 }
  pub starts : base ≤ start
  pub ordered : start ≤ stop
  pub stops : stop ≤ base + SPAN_LIMIT

aligned_left : (xs ys : List LinePart) → Aligned (xs ++ ys) → Aligned xs
aligned_left [] ys a = tt
aligned_left (x ∷ xs) ys a = (a.0, aligned_left xs ys a.1)

aligned_right : (xs ys : List LinePart) → Aligned (xs ++ ys) → Aligned ys
aligned_right [] ys a = a
aligned_right (x ∷ xs) ys a = aligned_right xs ys a.1

first_within : (from : ℕ) (xs : List LinePart) → Aligned xs → (from ≤ first_stop from xs) × (first_stop from xs ≤ reach from xs)
first_within from [] a = (omega arith, omega arith)
first_within from (x ∷ xs) a = (le-up from x.align a.0, omega (arith, le-reach (up from x.align + x.size) xs a.1))

module _ (base : ℕ) where
  extent_within : (from : ℕ) (xs : List LinePart) → Aligned xs → base ≤ from → reach from xs ≤ base + SPAN_LIMIT
      → IsWithin base (extent from xs)
  extent_within from xs a l h =
      let f = first_within from xs a in
      record {
        start = first_stop from xs;
        stop = reach from xs;
        is = refl;
        starts = omega (arith, f.0, l);
        ordered = f.1;
        stops = h;
      }

  abbrev parts_of : List Spread → List LinePart
  parts_of ss = flat_map (λ s. s.parts) ss

  found_within : (n from : ℕ) (ss : List Spread) (e : AreaAt) → Aligned (parts_of ss) → base ≤ from
      → reach from (parts_of ss) ≤ base + SPAN_LIMIT → extent_of n from ss ≡ Some e → IsWithin base e
  found_within n from [] e a l h f = cc
  found_within n from (s ∷ ss) e a l h f =
      go (found_within n (reach from s.parts) ss e others (omega (arith, l, le-reach from s.parts own)) (omega (arith, h, joined)))
      (option_map_or (λ m. m == n) s.area false) refl
    where
      own : Aligned s.parts
      own = aligned_left s.parts (parts_of ss) a

      others : Aligned (parts_of ss)
      others = aligned_right s.parts (parts_of ss) a

      joined : reach from (s.parts ++ parts_of ss) ≡ reach (reach from s.parts) (parts_of ss)
      joined = reach_append from s.parts (parts_of ss)

      go : (extent_of n (reach from s.parts) ss ≡ Some e → IsWithin base e) → (t : Bool) → option_map_or (λ m. m == n) s.area false ≡ t
          → IsWithin base e
      go more false t = more (rw t at f)
      go more true t =
          let some : Some (extent from s.parts) ≡ Some e = rw t at f in
          let here : extent from s.parts ≡ e = cc in
          rw (← here) (extent_within from s.parts own l (omega (arith, h, joined, le-reach (reach from s.parts) (parts_of ss) others)))

module _ (kit : Kit) (g : Graph) (gaps : Option Gaps) (order : List ℕ) (made : Made) (limit : kit.base ≤ BASE_LIMIT)
    (sound : IsSoundGraph kit g) (o : IsOrder (drawn_count g.parts) order) (small : span kit g gaps order made ≤ SPAN_LIMIT) where
  abbrev p : Placement
  p = placed kit g gaps order made

  abbrev from : Class → ℕ
  from c = class_from kit g gaps order made c

  abbrev line : Class → List LinePart
  line c = class_line kit g gaps order made c

  aligned : (c : Class) → Aligned (line c)
  aligned c = line_aligned kit g gaps order made sound o c

  starts : (c : Class) → kit.base ≤ from c
  starts c = past kit g gaps order made limit small aligned c

  stops : (c : Class) → reach (from c) (line c) ≤ kit.base + SPAN_LIMIT
  stops c = within kit g gaps order made limit small aligned c

  -- pieces
  abbrev one_piece : ℕ → Piece → Placed
  one_piece m x = record { id = x.id; address = stop_in kit g gaps order made x.class (body.Piece m); size = x.size }

  abbrev all_pieces : List Placed
  all_pieces = each g.pieces (λ m x. one_piece m x ∷ [])

  many : length all_pieces ≡ length g.pieces
  many = each_count one_piece 0 g.pieces

  piece_address : (n : ℕ) → n < length g.pieces
      → (get_or p.pieces n no_placed).address ≡ stop_in kit g gaps order made (get_or g.pieces n no_piece).class (body.Piece n)
  piece_address n l =
      let here : 0 + n ≡ n = omega arith in
      let left = get_or_append_left all_pieces (placed_gaps kit g gaps order made gaps) no_placed n (omega (arith, l, many)) in
      let item = each_at one_piece 0 g.pieces n no_placed no_piece l in
      ap (λ (q : Placed). q.address) (left ∙ item) ∙ rw here refl

  pub piece_within : (n : ℕ) → n < length g.pieces
      → (kit.base ≤ place_of p g (body.Piece n)) × (place_of p g (body.Piece n) ≤ kit.base + SPAN_LIMIT)
  piece_within n l =
      let x = get_or g.pieces n no_piece in
      let stands = piece_stands kit g sound.pieces order o gaps made n no_piece l in
      let stop = stop_there (piece_part n x) (line x.class) (from x.class) stands in
      let between = stop_within (body.Piece n) (from x.class) (line x.class) stop.0 (aligned x.class) stop.1 in
      let low : kit.base ≤ stop.0 = omega (arith, between.0, starts x.class) in
      let high : stop.0 ≤ kit.base + SPAN_LIMIT = omega (arith, between.1, stops x.class) in
      let at : place_of p g (body.Piece n) ≡ stop.0 =
      ap (unwrapped p) (piece_address n l ∙ ap (λ q. unwrap_or q 0 % 2 ^ 64) stop.1)
      ∙ unwrapped-mod p stop.0 (omega (arith, limit)) low (omega (arith, high)) in
      (omega (arith, at, low), omega (arith, at, high))

  -- areas
  class_within : (c : Class) → IsWithin kit.base (class_extent kit g gaps order made c)
  class_within c = extent_within kit.base (from c) (line c) (aligned c) (starts c) (stops c)

  abbrev own_extent : ℕ → Class → Option AreaAt
  own_extent n c = spread_extent kit g gaps order made n c

  own_within : (n : ℕ) (c : Class) (e : AreaAt) → own_extent n c ≡ Some e → IsWithin kit.base e
  own_within n c e f = found_within kit.base n (from c) (spreads kit g gaps order made c) e (aligned c) (starts c) (stops c) f

  not_all : (n : ℕ) (c : Class) (e : AreaAt) → own_extent n c ≡ Some e → own_extent n Text ≡ None → own_extent n Rodata ≡ None
      → own_extent n Rwdata ≡ None → own_extent n Bss ≡ None → ⊥
  not_all n Text e f t r w z = let bad : Some e ≡ None = sym f ∙ t in cc
  not_all n Rodata e f t r w z = let bad : Some e ≡ None = sym f ∙ r in cc
  not_all n Rwdata e f t r w z = let bad : Some e ≡ None = sym f ∙ w in cc
  not_all n Bss e f t r w z = let bad : Some e ≡ None = sym f ∙ z in cc

  area_within : (n : ℕ) → Somewhere kit g gaps order made n → IsWithin kit.base (area_extent kit g gaps order made n)
  area_within n s = go (own_extent n Text) (own_extent n Rodata) (own_extent n Rwdata) (own_extent n Bss) refl refl refl refl
    where
      go : (t r w z : Option AreaAt) → own_extent n Text ≡ t → own_extent n Rodata ≡ r → own_extent n Rwdata ≡ w → own_extent n Bss ≡ z
          → IsWithin kit.base (area_extent kit g gaps order made n)
      go (Some e) r w z et er ew ez = rw et (own_within n Text e et)
      go None (Some e) w z et er ew ez = rw (et, er) (own_within n Rodata e er)
      go None None (Some e) z et er ew ez = rw (et, er, ew) (own_within n Rwdata e ew)
      go None None None (Some e) et er ew ez = rw (et, er, ew, ez) (own_within n Bss e ez)
      go None None None None et er ew ez =
          let r = any_extent n (from s.0) (spreads kit g gaps order made s.0) s.1 in absurd (not_all n s.0 r.0 r.1 et er ew ez)

  abbrev HasWithin : ℕ → Type 0
  HasWithin n = (x : AreaAt) × (slice_get p.areas n ≡ Some x) × IsWithin kit.base x

  low_within : (n : ℕ) → 4 ≤ n → n < 15 → slice_get p.areas n ≡ Some (area_extent kit g gaps order made n) → HasWithin n
  low_within n h l is = (area_extent kit g gaps order made n, is, area_within n (low_somewhere kit g gaps order made n h l))

  -- each area is there, and starts and ends within the span
  pub each_within : (n : ℕ) → n < 15 + length kit.runs → HasWithin n
  each_within zero h = (class_extent kit g gaps order made Text, refl, class_within Text)
  each_within (suc zero) h = (class_extent kit g gaps order made Rodata, refl, class_within Rodata)
  each_within (suc (suc zero)) h = (class_extent kit g gaps order made Rwdata, refl, class_within Rwdata)
  each_within (suc (suc (suc zero))) h = (class_extent kit g gaps order made Bss, refl, class_within Bss)
  each_within (suc (suc (suc (suc zero)))) h = low_within 4 (omega arith) (omega arith) refl
  each_within (suc (suc (suc (suc (suc zero))))) h = low_within 5 (omega arith) (omega arith) refl
  each_within (suc (suc (suc (suc (suc (suc zero)))))) h = low_within 6 (omega arith) (omega arith) refl
  each_within (suc (suc (suc (suc (suc (suc (suc zero))))))) h = low_within 7 (omega arith) (omega arith) refl
  each_within (suc (suc (suc (suc (suc (suc (suc (suc zero)))))))) h = low_within 8 (omega arith) (omega arith) refl
  each_within (suc (suc (suc (suc (suc (suc (suc (suc (suc zero))))))))) h = low_within 9 (omega arith) (omega arith) refl
  each_within (suc (suc (suc (suc (suc (suc (suc (suc (suc (suc zero)))))))))) h = low_within 10 (omega arith) (omega arith) refl
  each_within (suc (suc (suc (suc (suc (suc (suc (suc (suc (suc (suc zero))))))))))) h = low_within 11 (omega arith) (omega arith) refl
  each_within (suc (suc (suc (suc (suc (suc (suc (suc (suc (suc (suc (suc zero)))))))))))) h = low_within 12 (omega arith) (omega arith) refl
  each_within (suc (suc (suc (suc (suc (suc (suc (suc (suc (suc (suc (suc (suc zero))))))))))))) h = low_within 13 (omega arith) (omega arith) refl
  each_within (suc (suc (suc (suc (suc (suc (suc (suc (suc (suc (suc (suc (suc (suc zero)))))))))))))) h = low_within 14 (omega arith) (omega arith) refl
  each_within (suc (suc (suc (suc (suc (suc (suc (suc (suc (suc (suc (suc (suc (suc (suc k))))))))))))))) h =
      let below : k < length kit.runs = omega (arith, h) in
      let is : slice_get p.areas (suc (suc (suc (suc (suc (suc (suc (suc (suc (suc (suc (suc (suc (suc (suc k)))))))))))))))
      ≡ Some (area_extent kit g gaps order made (15 + k)) =
      get_each (area_extent kit g gaps order made) 15 kit.runs k below in
      (area_extent kit g gaps order made (15 + k), is, area_within (15 + k) (run_somewhere kit g gaps order made k below))
