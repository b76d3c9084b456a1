-- What follows from "every part stands once": each part stands, none twice, and sums over parts.
use Rattle.std.proofs.Common.{ℕ, zero, suc, ◌≡◌, ◌≢◌, ◌+◌, ◌<◌, List, [], ◌∷◌, ◌++◌, length, get_or, refl, ap, arith, Bool, true, false, not, eq-eqb}
use Rattle.std.specs.Prelude.{flat_map, Contains, All, sum_by, ◌==◌, Option, Some, None}
use Rattle.std.specs.List.{AllByRecursion, IsDistinct}
use Rattle.std.proofs.lemmas.Bool.{ne_eqb}
use Rattle.std.proofs.lemmas.List.{append-nil}
use Rattle.std.proofs.lemmas.List.Elements.{Contains-append_left, Contains-append_right}
use Rattle.std.proofs.lemmas.List.Sums.{sum_by-append}
use Rattle.std.proofs.lemmas.List.Sorted.{Contains-permutation, All-permutation, sum_by-IsPermutation}
use Rattle.std.proofs.lemmas.Map.Keys.{IsDistinct-IsPermutation}
use Rattle.kl_base.specs.declared.class.Class.{Class}
use Rattle.kl_base.specs.declared.class.Class.TheVariants.{Text, Rodata, Rwdata, Bss}
use Rattle.kl_model.specs.Lists.{each, each_from, only_if}
use Rattle.kl_model.specs.Areas.{same_class, class_number}
use Rattle.kl_model.specs.Orders.{drawn_count, IsOrder}
use Rattle.kl_model.specs.Line.{classes, piece_part, piece_parts, gap_parts, gap_size, made_parts, class_line, every_part}
use Rattle.kl_model.specs.Placed.{same_body}
use Rattle.kl_model.specs.declared.graph.Piece.{Piece}
use Rattle.kl_model.specs.declared.graph.Graph.{Graph}
use Rattle.kl_model.specs.declared.kit.Kit.{Kit}
use Rattle.kl_model.specs.declared.place.Body.{Body}
use Rattle.kl_model.specs.declared.place.Body.TheVariants as body
use Rattle.kl_model.specs.declared.place.Gaps.{Gaps}
use Rattle.kl_model.specs.declared.place.Made.{Made}
use Rattle.kl_model.specs.declared.place.LinePart.{LinePart}
use Rattle.kl_model.specs.Sound.{IsSoundPiece}
use Rattle.kl_layout.specs.Once.{AreOnce}
use Rattle.kl_layout.proofs.Sequences.{flip_numbers}
use Rattle.kl_layout.proofs.Enumerated.{all_append, passing_holds, distinct_append, distinct_passing}
use Rattle.kl_layout.proofs.ClassesLaid.{line_once}
use Rattle.kl_layout.proofs.Once.{class_line_once, everything_once}

flips : (x y : LinePart) → same_body x.body y.body ≡ same_body y.body x.body
flips x y = go x.body y.body
  where
    go : (a b : Body) → same_body a b ≡ same_body b a
    go (body.Piece n) (body.Piece m) = flip_numbers n m
    go (body.Piece n) (body.Gap c) = refl
    go (body.Piece n) (body.Area m) = refl
    go (body.Gap c) (body.Piece m) = refl
    go (body.Gap c) (body.Gap d) = flip_numbers (class_number c) (class_number d)
    go (body.Gap c) (body.Area m) = refl
    go (body.Area n) (body.Piece m) = refl
    go (body.Area n) (body.Gap d) = refl
    go (body.Area n) (body.Area m) = flip_numbers n m

abbrev number_of : Body → ℕ
number_of (body.Piece n) = n
number_of (body.Gap c) = class_number c
number_of (body.Area n) = n

apart : (a b : Body) → number_of a ≢ number_of b → same_body a b ≡ false
apart (body.Piece n) (body.Piece m) h = ne_eqb n m h
apart (body.Piece n) (body.Gap c) h = refl
apart (body.Piece n) (body.Area m) h = refl
apart (body.Gap c) (body.Piece m) h = refl
apart (body.Gap c) (body.Gap d) h = ne_eqb (class_number c) (class_number d) h
apart (body.Gap c) (body.Area m) h = refl
apart (body.Area n) (body.Piece m) h = refl
apart (body.Area n) (body.Gap d) h = refl
apart (body.Area n) (body.Area m) h = ne_eqb n m h

abbrev same_part : LinePart → LinePart → Bool
same_part x y = same_body x.body y.body

maybe_all : {X : Type 0} (P : X → Type 0) (b : Bool) (x : X) → P x → AllByRecursion P (only_if b x)
maybe_all P true x h = (h, tt)
maybe_all P false x h = tt

maybe_once : (b : Bool) (x : LinePart) → IsDistinct same_part (only_if b x)
unfolding IsDistinct
maybe_once true x = (tt, tt)
maybe_once false x = tt

gaps_hold : (P : LinePart → Type 0) → ((c : Class) (n : ℕ) → P (record { body = body.Gap c; size = n; align = 16 })) → (gaps : Option Gaps)
    → AllByRecursion P (flat_map (gap_parts gaps) classes)
gaps_hold P h None = tt
gaps_hold P h (Some z) = (h Text z.text, (h Rodata z.rodata, (h Rwdata z.rwdata, (h Bss z.bss, tt))))

gaps_once : (gaps : Option Gaps) → IsDistinct same_part (flat_map (gap_parts gaps) classes)
unfolding IsDistinct
gaps_once None = tt
gaps_once (Some z) = ((refl, (refl, (refl, tt))), ((refl, (refl, tt)), ((refl, tt), (tt, tt))))

abbrev made_all : Made → List LinePart
made_all made = made_parts 6 made.stubs 16 ++ (made_parts 8 made.tables 8 ++ (made_parts 13 made.got 8 ++ made_parts 14 made.dynamic 8))

made_hold : (P : LinePart → Type 0) → ((n size align : ℕ) → P (record { body = body.Area n; size = size; align = align })) → (made : Made) → AllByRecursion P (made_all made)
made_hold P h made =
    all_append P (made_parts 6 made.stubs 16) _ (maybe_all P (not (made.stubs == 0)) _ (h 6 _ _))
    (all_append P (made_parts 8 made.tables 8) _ (maybe_all P (not (made.tables == 0)) _ (h 8 _ _))
    (all_append P (made_parts 13 made.got 8) _ (maybe_all P (not (made.got == 0)) _ (h 13 _ _)) (maybe_all P (not (made.dynamic == 0)) _ (h 14 _ _))))

made_once : (made : Made) → IsDistinct same_part (made_all made)
made_once made =
    let a = not (made.stubs == 0) in
    let b = not (made.tables == 0) in
    let c = not (made.got == 0) in
    let d = not (made.dynamic == 0) in
    distinct_append same_part (made_parts 6 made.stubs 16) _ (maybe_once a _)
    (distinct_append same_part (made_parts 8 made.tables 8) _ (maybe_once b _)
    (distinct_append same_part (made_parts 13 made.got 8) _ (maybe_once c _) (maybe_once d _)
    (maybe_all _ c _ (maybe_all _ d _ refl)))
    (maybe_all _ b _ (all_append _ (made_parts 13 made.got 8) _ (maybe_all _ c _ refl) (maybe_all _ d _ refl))))
    (maybe_all _ a _ (all_append _ (made_parts 8 made.tables 8) _ (maybe_all _ b _ refl) (all_append _ (made_parts 13 made.got 8) _ (maybe_all _ c _ refl) (maybe_all _ d _ refl))))

-- no part of a graph is there twice
pub every_once : (g : Graph) (gaps : Option Gaps) (made : Made) → AreOnce (every_part g gaps made)
every_once g gaps made =
    distinct_append same_part (each g.pieces (λ n x. piece_part n x ∷ [])) (flat_map (gap_parts gaps) classes ++ made_all made)
    (distinct_passing same_part (λ x. number_of x.body) (λ x y h. apart x.body y.body h) piece_part (λ m x. refl) (λ x. true) 0 g.pieces)
    (distinct_append same_part (flat_map (gap_parts gaps) classes) (made_all made) (gaps_once gaps) (made_once made)
    (gaps_hold _ (λ c n. made_hold _ (λ m s a. refl) made) gaps))
    (passing_holds piece_part (λ x. true) (λ x. AllByRecursion (λ y. same_part x y ≡ false) (flat_map (gap_parts gaps) classes ++ made_all made)) 0 g.pieces
    (λ k d l t. all_append _ (flat_map (gap_parts gaps) classes) (made_all made) (gaps_hold _ (λ c n. refl) gaps) (made_hold _ (λ m s a. refl) made)))

has_piece : (f : ℕ → Piece → LinePart) (t : Piece → Bool) (n : ℕ) (xs : List Piece) (k : ℕ) (d : Piece) → k < length xs → t (get_or xs k d) ≡ true
    → Contains (each_from n (λ m x. only_if (t x) (f m x)) xs) (f (n + k) (get_or xs k d))
has_piece f t n [] k d l h = absurd (omega arith)
has_piece f t n (x ∷ xs) zero d l h = let e : n + zero ≡ n = omega arith in rw (h, e) (zero, omega arith, refl)
has_piece f t n (x ∷ xs) (suc k) d l h =
    let e : n + suc k ≡ suc n + k = omega arith in
    rw e (Contains-append_right (only_if (t x) (f n x)) _ _ (has_piece f t (suc n) xs k d (omega (arith, l)) h))

module _ (kit : Kit) (g : Graph) (sound : All (IsSoundPiece kit g) g.pieces) (order : List ℕ) (o : IsOrder (drawn_count g.parts) order) (gaps : Option Gaps) (made : Made) where
  abbrev lines : List LinePart
  lines = flat_map (class_line kit g gaps order made) classes

  -- each part stands
  pub part_stands : (x : LinePart) → Contains (every_part g gaps made) x → Contains (flat_map (class_line kit g gaps order made) classes) x
  part_stands x h = Contains-permutation (every_part g gaps made) lines x (everything_once kit g sound order o gaps made) h

  -- a piece, a gap and a made area stand in the line of their class
  pub piece_stands : (n : ℕ) (d : Piece) → n < length g.pieces → Contains (class_line kit g gaps order made (get_or g.pieces n d).class) (piece_part n (get_or g.pieces n d))
  piece_stands n d l =
      let c = (get_or g.pieces n d).class in
      let here : 0 + n ≡ n = omega arith in
      let there = has_piece piece_part (λ x. same_class x.class c) 0 g.pieces n d l (eq-eqb (class_number c) (class_number c) refl) in
      Contains-permutation _ _ _ (class_line_once kit g sound order o gaps made c)
      (Contains-append_left (piece_parts g (λ x. same_class x.class c)) _ _ (rw here at there))

  pub gap_stands : (z : Gaps) (c : Class) → gaps ≡ Some z → Contains (class_line kit g gaps order made c) (record { body = body.Gap c; size = gap_size z c; align = 16 })
  gap_stands z c e =
      let part : LinePart = record { body = body.Gap c; size = gap_size z c; align = 16 } in
      let here : Contains (gap_parts gaps c) part = rw e (0, omega arith, refl) in
      Contains-permutation _ _ part (class_line_once kit g sound order o gaps made c)
      (Contains-append_right (piece_parts g (λ x. same_class x.class c)) _ part (Contains-append_left (gap_parts gaps c) _ part here))

  -- what stands is a part, and what holds of all parts holds of what stands
  pub stands_part : (P : LinePart → Type 0) → All P (every_part g gaps made) → All P (flat_map (class_line kit g gaps order made) classes)
  stands_part P h = All-permutation P (every_part g gaps made) lines (everything_once kit g sound order o gaps made) h

  -- none stands twice
  pub lines_once : AreOnce (flat_map (class_line kit g gaps order made) classes)
  lines_once = IsDistinct-IsPermutation same_part flips (every_part g gaps made) lines (everything_once kit g sound order o gaps made) (every_once g gaps made)

  pub class_once : (c : Class) → AreOnce (class_line kit g gaps order made c)
  class_once c = line_once (class_line kit g gaps order made) lines_once c

  -- a sum over all lines is that over all parts
  pub lines_sum : (f : LinePart → ℕ)
      → sum_by f (class_line kit g gaps order made Text) + (sum_by f (class_line kit g gaps order made Rodata) + (sum_by f (class_line kit g gaps order made Rwdata) + sum_by f (class_line kit g gaps order made Bss)))
      ≡ sum_by f (every_part g gaps made)
  lines_sum f =
      let l = class_line kit g gaps order made in
      let all = sum_by-IsPermutation f (every_part g gaps made) lines (everything_once kit g sound order o gaps made) in
      let last : sum_by f (l Bss ++ []) ≡ sum_by f (l Bss) = ap (sum_by f) (append-nil (l Bss)) in
      omega (arith, all, last, sum_by-append f (l Text) (l Rodata ++ (l Rwdata ++ (l Bss ++ []))), sum_by-append f (l Rodata) (l Rwdata ++ (l Bss ++ [])), sum_by-append f (l Rwdata) (l Bss ++ []))
