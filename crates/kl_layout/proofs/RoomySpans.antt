-- How far the parts of an image reach at most, and that the span of a roomy kit is within the limit under every order and with any gaps.
use Rattle.std.proofs.Common.{ℕ, suc, ◌≡◌, ◌+◌, ◌-◌, ◌*◌, ◌≤◌, List, [], ◌∷◌, ◌++◌, length, refl, arith, max}
use Rattle.std.specs.Prelude.{All, IfSome, Option, Some, None, flat_map, fold, sum_by}
use Rattle.std.proofs.lemmas.List.Sums.{sum_by-append, sum_by-cons}
use Rattle.std.proofs.lemmas.Nat.{div-add-mod'}
use Rattle.kl_base.specs.declared.class.Class.TheVariants.{Text, Rodata, Rwdata, Bss}
use Rattle.kl_base.specs.declared.limits.TheConstants.{ALIGN_LIMIT, GAP_ROOM, PAGE, SPAN_LIMIT}
use Rattle.kl_model.specs.Laid.{reach, span}
use Rattle.kl_model.specs.Line.{class_line, classes, every_part, gap_parts, made_parts, piece_part}
use Rattle.kl_model.specs.Lists.{each, each_from, up}
use Rattle.kl_model.specs.Orders.{IsOrder, drawn_count}
use Rattle.kl_model.specs.Placed.{bss_from, rodata_from, rwdata_from}
use Rattle.kl_model.specs.Roomy.{room_taken}
use Rattle.kl_model.specs.Sizes.{made_for, made_of, page_for, page_of, text_from, text_from_for}
use Rattle.kl_model.specs.Slots.{slots, stubs}
use Rattle.kl_model.specs.Sound.{IsSoundGraph}
use Rattle.kl_model.specs.declared.graph.Graph.{Graph}
use Rattle.kl_model.specs.declared.graph.Piece.{Piece}
use Rattle.kl_model.specs.declared.kit.Kit.{Kit}
use Rattle.kl_model.specs.declared.kit.KitKind.{KitKind}
use Rattle.kl_model.specs.declared.kit.KitKind.TheVariants.{Kernel, Library}
use Rattle.kl_model.specs.declared.place.Gaps.{Gaps}
use Rattle.kl_model.specs.declared.place.LinePart.{LinePart}
use Rattle.kl_model.specs.declared.place.Made.{Made}
use Rattle.kl_model.specs.Fit.{AreGaps}
use Rattle.kl_layout.specs.Stops.{room}
use Rattle.kl_layout.proofs.LineParts.{one_room, step_small}
use Rattle.kl_layout.proofs.OneEach.{lines_sum}

-- rounding up adds no more than what is rounded to
pub up-le : (a n : ℕ) → up a n ≤ a + n
up-le a n = let split = div-add-mod' (a + n - 1) n in omega (arith, split)

-- parts reach no further than the bytes that they take
pub reach-le : (from : ℕ) (xs : List LinePart) → reach from xs ≤ from + room xs
reach-le from [] = omega arith
reach-le from (x ∷ xs) =
    omega (arith, up-le from x.align, reach-le (up from x.align + x.size) xs, sum_by-cons (λ (y : LinePart). y.size + y.align) x xs)

-- how many bytes pieces and gaps take at most
pieces_sum : (n : ℕ) (xs : List Piece) → room (each_from n (λ m x. piece_part m x ∷ []) xs) ≡ sum_by (λ x. x.size + x.align) xs
pieces_sum n [] = refl
pieces_sum n (x ∷ xs) =
    let own = sum_by-cons (λ (y : LinePart). y.size + y.align) (piece_part n x) (each_from (suc n) (λ m x. piece_part m x ∷ []) xs) in
    let as_piece = sum_by-cons (λ (y : Piece). y.size + y.align) x xs in
    omega (arith, own, as_piece, pieces_sum (suc n) xs)

gaps_take : (gaps : Option Gaps) → IfSome gaps AreGaps → room (flat_map (gap_parts gaps) classes) ≤ GAP_ROOM + 64
gaps_take None h = omega arith
gaps_take (Some z) h = omega (arith, h.text.1, h.text.2, h.rodata.1, h.rodata.2, h.rwdata.1, h.rwdata.2, h.bss.1, h.bss.2)

-- a page is no more than the greatest alignment
greatest : (n : ℕ) (xs : List Piece) → n ≤ ALIGN_LIMIT → All (λ x. x.align ≤ ALIGN_LIMIT) xs
    → fold (λ n x. max n x.align) n xs ≤ ALIGN_LIMIT
greatest n [] h small = h
greatest n (x ∷ xs) h small =
    greatest (max n x.align) xs (omega (arith, h, small 0 x (omega arith))) (λ k d l. small (suc k) d (omega (arith, l)))

module _ (kit : Kit) (g : Graph) (sound : IsSoundGraph kit g) where
  pub page_small : page_of kit g ≤ ALIGN_LIMIT
  page_small = go kit.kind
    where
      go : (k : KitKind) → page_for k g ≤ ALIGN_LIMIT
      go Kernel = omega arith
      go Library = greatest PAGE g.pieces (omega arith) (λ k d l. step_small _ (sound.pieces k d l).align)

  text_near : text_from kit g ≤ kit.base + page_of kit g
  text_near = go kit.kind
    where
      go : (k : KitKind) → text_from_for k kit.base g ≤ kit.base + page_for k g
      go Kernel = omega arith
      go Library = omega arith

  made_take : ((made_of kit g).stubs ≤ 16 * length (stubs g)) × ((made_of kit g).got ≤ 8 * length (slots g))
  made_take = go kit.kind
    where
      go : (k : KitKind) → ((made_for k kit g).stubs ≤ 16 * length (stubs g)) × ((made_for k kit g).got ≤ 8 * length (slots g))
      go Kernel = (omega arith, omega arith)
      go Library = (omega arith, omega arith)

  module _ (gaps : Option Gaps) (small_gaps : IfSome gaps AreGaps) where
    abbrev made : Made
    made = made_of kit g

    -- what all parts take
    every_room : room (every_part g gaps made) + 4 * ALIGN_LIMIT ≤ room_taken kit g
    every_room =
        let f = λ (x : LinePart). x.size + x.align in
        let a = each g.pieces (λ n x. piece_part n x ∷ []) in
        let b = flat_map (gap_parts gaps) classes in
        let s = made_parts 6 made.stubs 16 in
        let t = made_parts 8 made.tables 8 in
        let q = made_parts 13 made.got 8 in
        let d = made_parts 14 made.dynamic 8 in
        omega (
          arith,
          sum_by-append f a (b ++ (s ++ (t ++ (q ++ d)))),
          sum_by-append f b (s ++ (t ++ (q ++ d))),
          sum_by-append f s (t ++ (q ++ d)),
          sum_by-append f t (q ++ d),
          sum_by-append f q d,
          pieces_sum 0 g.pieces,
          gaps_take gaps small_gaps,
          one_room 6 made.stubs 16,
          one_room 8 made.tables 8,
          one_room 13 made.got 8,
          one_room 14 made.dynamic 8,
          made_take.0,
          made_take.1,
        )

    -- THE SPAN
    module _ (order : List ℕ) (o : IsOrder (drawn_count g.parts) order) where
      pub span_taken : span kit g gaps order made ≤ room_taken kit g
      span_taken =
          let line = class_line kit g gaps order made in
          let page = page_of kit g in
          let rodata = rodata_from kit g gaps order made in
          let rwdata = rwdata_from kit g gaps order made in
          let bss = bss_from kit g gaps order made in
          let text_end = reach (text_from kit g) (line Text) in
          let rodata_end = reach rodata (line Rodata) in
          let rwdata_end = reach rwdata (line Rwdata) in
          let all = lines_sum kit g sound.pieces order o gaps made (λ x. x.size + x.align) in
          let end : reach bss (line Bss) ≤ text_from kit g + 3 * page + room (every_part g gaps made) =
          omega (
            arith,
            all,
            reach-le (text_from kit g) (line Text),
            up-le text_end page,
            reach-le rodata (line Rodata),
            up-le rodata_end page,
            reach-le rwdata (line Rwdata),
            up-le rwdata_end page,
            reach-le bss (line Bss),
          ) in
          omega (arith, end, text_near, page_small, every_room)

      -- a roomy kit's span is within the limit
      pub roomy_span : room_taken kit g ≤ SPAN_LIMIT → span kit g gaps order made ≤ SPAN_LIMIT
      roomy_span small = omega (arith, small, span_taken)
