-- What the parts of the lines of a sound graph are, and how many bytes they take at most.
use Rattle.std.proofs.Common.{ℕ, suc, ◌≡◌, ◌+◌, ◌*◌, ◌^◌, ◌<◌, ◌≤◌, ◌∙◌, List, [], ◌∷◌, ◌++◌, length, get_or, refl, sym, subst, arith, Bool, true, false, not, length-append}
use Rattle.std.specs.Prelude.{All, IfSome, IsSome, Option, Some, None, flat_map, ◌==◌}
use Rattle.std.specs.List.{AllByRecursion}
use Rattle.std.proofs.lemmas.List.{get_or_append_left, get_or-append-add}
use Rattle.std.proofs.lemmas.List.Elements.{All-from_recursion}
use Rattle.std.proofs.lemmas.List.Sums.{sum_by-append, sum_by-cons}
use Rattle.std.proofs.lemmas.List.Sorted.{sum_by-IsPermutation}
use Rattle.std.proofs.lemmas.Nat.{pow_pos}
use Rattle.kl_base.specs.declared.class.Class.{Class}
use Rattle.kl_base.specs.declared.class.Class.TheVariants.{Text, Rodata, Rwdata, Bss}
use Rattle.kl_base.specs.declared.limits.TheConstants.{SIZE_LIMIT, ALIGN_LIMIT}
use Rattle.kl_model.specs.Line.{class_line, classes, every_part, gap_parts, made_parts, piece_part}
use Rattle.kl_model.specs.Lists.{each, each_from, only_if, up}
use Rattle.kl_model.specs.Orders.{IsOrder, drawn_count}
use Rattle.kl_model.specs.Placed.{same_body, stop_of}
use Rattle.kl_model.specs.Sound.{IsSoundGraph, IsSoundPiece}
use Rattle.kl_model.specs.declared.graph.Graph.{Graph}
use Rattle.kl_model.specs.declared.graph.Piece.{Piece}
use Rattle.kl_model.specs.declared.kit.Kit.{Kit}
use Rattle.kl_model.specs.declared.place.Body.{Body}
use Rattle.kl_model.specs.declared.place.Body.TheVariants as body
use Rattle.kl_model.specs.declared.place.Gaps.{Gaps}
use Rattle.kl_model.specs.declared.place.LinePart.{LinePart}
use Rattle.kl_model.specs.declared.place.Made.{Made}
use Rattle.kl_model.proofs.InOrder.{Aligned}
use Rattle.kl_model.specs.Fit.{AreGaps}
use Rattle.kl_layout.specs.Spans.{AreSmall}
use Rattle.kl_layout.specs.Stops.{IsBody, IsPart, IsStep, room}
use Rattle.kl_layout.proofs.Enumerated.{all_append, passing_holds}
use Rattle.kl_layout.proofs.Once.{everything_once}
use Rattle.kl_layout.proofs.OneEach.{stands_part}
use Rattle.kl_layout.proofs.Rounding.{power_small}
use Rattle.kl_layout.proofs.Standing.{body_from_same, stop_further}

module _ {X : Type 0} (P : X → Type 0) where
  pub all_left : (xs ys : List X) → All P (xs ++ ys) → All P xs
  all_left xs ys h k d l = subst P (get_or_append_left xs ys d k l) (h k d (omega (arith, l, length-append xs ys)))

  pub all_right : (xs ys : List X) → All P (xs ++ ys) → All P ys
  all_right xs ys h k d l = subst P (get_or-append-add xs ys k d) (h (length xs + k) d (omega (arith, l, length-append xs ys)))

  pub by_recursion : (xs : List X) → All P xs → AllByRecursion P xs
  by_recursion [] h = tt
  by_recursion (x ∷ xs) h = (h 0 x (omega arith), by_recursion xs (λ k d l. h (suc k) d (omega (arith, l))))

  -- what holds of the four lines holds of each
  pub all_of_class : (f : Class → List X) → All P (flat_map f classes) → (c : Class) → All P (f c)
  all_of_class f h Text = all_left (f Text) (f Rodata ++ (f Rwdata ++ (f Bss ++ []))) h
  all_of_class f h Rodata = all_left (f Rodata) (f Rwdata ++ (f Bss ++ [])) (all_right (f Text) (f Rodata ++ (f Rwdata ++ (f Bss ++ []))) h)
  all_of_class f h Rwdata =
      all_left (f Rwdata) (f Bss ++ []) (all_right (f Rodata) (f Rwdata ++ (f Bss ++ [])) (all_right (f Text) (f Rodata ++ (f Rwdata ++ (f Bss ++ []))) h))
  all_of_class f h Bss =
      all_left (f Bss) [] (all_right (f Rwdata) (f Bss ++ [])
      (all_right (f Rodata) (f Rwdata ++ (f Bss ++ [])) (all_right (f Text) (f Rodata ++ (f Rwdata ++ (f Bss ++ []))) h)))

-- a body that has a stop among parts is one of theirs
pub stop_holds : (Q : Body → Type 0) (b : Body) (from : ℕ) (xs : List LinePart) (n : ℕ) → AllByRecursion (λ x. Q x.body) xs → stop_of b from xs ≡ Some n → Q b
stop_holds Q b from [] n a e = cc
stop_holds Q b from (x ∷ xs) n a e = go (λ f. stop_holds Q b (up from x.align + x.size) xs n a.1 f) (same_body b x.body) refl
  where
    go : (stop_of b (up from x.align + x.size) xs ≡ Some n → Q b) → (t : Bool) → same_body b x.body ≡ t → Q b
    go more true t = subst Q (sym (body_from_same b x.body t)) a.0
    go more false t = more (sym (stop_further b from x xs t) ∙ e)

pub step_pos : (n : ℕ) → IsStep n → 0 < n
step_pos n s = omega (arith, s.2, pow_pos s.0)

pub step_small : (n : ℕ) → IsStep n → n ≤ ALIGN_LIMIT
step_small n s = omega (arith, s.2, power_small s.0 s.1)

pub aligned_of : (xs : List LinePart) → All (λ x. IsStep x.align) xs → Aligned xs
aligned_of [] h = tt
aligned_of (x ∷ xs) h = (step_pos x.align (h 0 x (omega arith)), aligned_of xs (λ k d l. h (suc k) d (omega (arith, l))))

step_16 : IsStep 16
step_16 = (4, omega arith, refl)

step_8 : IsStep 8
step_8 = (3, omega arith, refl)

maybe_holds : (P : LinePart → Type 0) (b : Bool) (x : LinePart) → P x → AllByRecursion P (only_if b x)
maybe_holds P true x h = (h, tt)
maybe_holds P false x h = tt

module _ (g : Graph) (gaps : Option Gaps) where
  -- a piece of the graph, a gap where there are gaps, or an area that isn't a run
  abbrev pub IsThere : Body → Type 0
  IsThere (body.Piece n) = n < length g.pieces
  IsThere (body.Gap c) = IsSome gaps
  IsThere (body.Area n) = n < 15

  pub record IsLinePart (x : LinePart) : Type 0 where
    pub there : IsThere x.body
    pub align : IsStep x.align

  pub there_known : (b : Body) → IsThere b → IsBody (19 + length g.pieces) b
  there_known (body.Piece n) h = omega (arith, h)
  there_known (body.Gap c) h = omega arith
  there_known (body.Area n) h = (h, omega arith)

  gaps_there : AllByRecursion IsLinePart (flat_map (gap_parts gaps) classes)
  gaps_there = go gaps refl
    where
      go : (z : Option Gaps) → gaps ≡ z → AllByRecursion IsLinePart (flat_map (gap_parts z) classes)
      go None e = tt
      go (Some z) e =
          let one : IsSome gaps = rw e refl in (
            record { there = one; align = step_16 },
            (record { there = one; align = step_16 }, (record { there = one; align = step_16 }, (record { there = one; align = step_16 }, tt))),
          )

  made_there : (made : Made)
      → AllByRecursion IsLinePart (made_parts 6 made.stubs 16 ++ (made_parts 8 made.tables 8 ++ (made_parts 13 made.got 8 ++ made_parts 14 made.dynamic 8)))
  made_there made =
      all_append IsLinePart (made_parts 6 made.stubs 16) _ (maybe_holds IsLinePart (not (made.stubs == 0)) _ (record { there = omega arith; align = step_16 }))
      (all_append IsLinePart (made_parts 8 made.tables 8) _ (maybe_holds IsLinePart (not (made.tables == 0)) _ (record { there = omega arith; align = step_8 }))
      (all_append IsLinePart (made_parts 13 made.got 8) _ (maybe_holds IsLinePart (not (made.got == 0)) _ (record { there = omega arith; align = step_8 }))
      (maybe_holds IsLinePart (not (made.dynamic == 0)) _ (record { there = omega arith; align = step_8 }))))

  pub every_there : (kit : Kit) (made : Made) → IsSoundGraph kit g → AllByRecursion IsLinePart (every_part g gaps made)
  every_there kit made sound =
      all_append IsLinePart (each g.pieces (λ n x. piece_part n x ∷ [])) _
      (passing_holds piece_part (λ x. true) IsLinePart 0 g.pieces (λ k d l t. record { there = omega (arith, l); align = (sound.pieces k d l).align }))
      (all_append IsLinePart (flat_map (gap_parts gaps) classes) _ gaps_there (made_there made))

-- how many bytes pieces take at most
pieces_room : (kit : Kit) (g : Graph) (n : ℕ) (xs : List Piece) → All (IsSoundPiece kit g) xs
    → room (each_from n (λ m x. piece_part m x ∷ []) xs) ≤ length xs * (SIZE_LIMIT + ALIGN_LIMIT)
pieces_room kit g n [] h = omega arith
pieces_room kit g n (x ∷ xs) h =
    let s = h 0 x (omega arith) in
    omega (
      arith,
      s.size,
      step_small x.align s.align,
      sum_by-cons (λ (y : LinePart). y.size + y.align) (piece_part n x) (each_from (suc n) (λ m x. piece_part m x ∷ []) xs),
      pieces_room kit g (suc n) xs (λ k d l. h (suc k) d (omega (arith, l))),
    )

gaps_room : (gaps : Option Gaps) → IfSome gaps AreGaps → room (flat_map (gap_parts gaps) classes) ≤ 2097152
gaps_room None h = omega arith
gaps_room (Some z) h = omega (arith, h.text.1, h.text.2, h.rodata.1, h.rodata.2, h.rwdata.1, h.rwdata.2, h.bss.1, h.bss.2)

pub one_room : (n size align : ℕ) → room (made_parts n size align) ≤ size + align
one_room n size align = go (not (size == 0))
  where
    go : (b : Bool) → room (only_if b (record { body = body.Area n; size = size; align = align })) ≤ size + align
    go true = omega arith
    go false = omega arith

module _ (kit : Kit) (g : Graph) (gaps : Option Gaps) (order : List ℕ) (made : Made) (sound : IsSoundGraph kit g) (o : IsOrder (drawn_count g.parts) order) where
  pub line_parts : (c : Class) → All (IsLinePart g gaps) (class_line kit g gaps order made c)
  line_parts =
      all_of_class (IsLinePart g gaps) (class_line kit g gaps order made)
      (stands_part kit g sound.pieces order o gaps made (IsLinePart g gaps) (All-from_recursion (IsLinePart g gaps) (every_part g gaps made) (every_there g gaps kit made sound)))

  pub line_steps : (c : Class) → All (λ x. IsStep x.align) (class_line kit g gaps order made c)
  line_steps c k d l = (line_parts c k d l).align

  pub line_aligned : (c : Class) → Aligned (class_line kit g gaps order made c)
  line_aligned c = aligned_of (class_line kit g gaps order made c) (line_steps c)

  pub line_known : (c : Class) → All (IsPart (19 + length g.pieces)) (class_line kit g gaps order made c)
  line_known c k d l = let p = line_parts c k d l in record { known = there_known g gaps (get_or (class_line kit g gaps order made c) k d).body p.there; align = p.align }

  pub lines_room : IfSome gaps AreGaps → AreSmall made → room (flat_map (class_line kit g gaps order made) classes) < 2 ^ 62
  lines_room small_gaps small =
      let f = λ (x : LinePart). x.size + x.align in
      let all = sum_by-IsPermutation f (every_part g gaps made) (flat_map (class_line kit g gaps order made) classes) (everything_once kit g sound.pieces order o gaps made) in
      let a = each g.pieces (λ n x. piece_part n x ∷ []) in
      let b = flat_map (gap_parts gaps) classes in
      let s = made_parts 6 made.stubs 16 in
      let t = made_parts 8 made.tables 8 in
      let q = made_parts 13 made.got 8 in
      let d = made_parts 14 made.dynamic 8 in
      omega (
        arith,
        all,
        sum_by-append f a (b ++ (s ++ (t ++ (q ++ d)))),
        sum_by-append f b (s ++ (t ++ (q ++ d))),
        sum_by-append f s (t ++ (q ++ d)),
        sum_by-append f t (q ++ d),
        sum_by-append f q d,
        pieces_room kit g 0 g.pieces sound.pieces,
        sound.piece_count,
        gaps_room gaps small_gaps,
        one_room 6 made.stubs 16,
        one_room 8 made.tables 8,
        one_room 13 made.got 8,
        one_room 14 made.dynamic 8,
        small.stubs,
        small.tables,
        small.got,
        small.dynamic,
      )
