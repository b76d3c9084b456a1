-- Every part of a sound graph stands in the line of its class, and parts that stand so share no byte.
use Rattle.std.proofs.Common.{eq-eqb, ℕ, suc, ◌≡◌, ◌+◌, ◌<◌, ◌⊎◌, List, [], ◌∷◌, ◌++◌, length, get_or, refl, arith, true, inl, inr, ◌&&◌}
use Rattle.std.proofs.lemmas.Bool.{cases_Bool, eqb-true}
use Rattle.std.specs.Prelude.{Some, None, Option, flat_map, slice_index, ◌==◌}
use Rattle.kl_base.specs.declared.class.Class.{Class}
use Rattle.kl_base.specs.declared.class.Class.TheVariants.{Text, Rodata, Rwdata, Bss}
use Rattle.kl_model.specs.Areas.{class_number, named_areas, same_class}
use Rattle.kl_model.specs.Carries.{no_piece}
use Rattle.kl_model.specs.Line.{Spread, area_spread, class_line, gap_parts, gap_size, got_spread, inputs_in, is_common_id, is_of_input, last_spreads, made_parts, made_spread, of_input, ordinary, piece_part, piece_parts, run_spreads, sequence, spreads}
use Rattle.kl_model.specs.Lists.{each_from, number_in, only_if}
use Rattle.kl_model.specs.Sound.{HasOrigin, IsSoundPiece, class_areas, run_areas}
use Rattle.kl_model.proofs.Covered.{In, here, there, in_left, in_right, in_flat_map, in_each, in_sequence, in_piece_parts, part_of, IsWhole, in_line}
use Rattle.kl_model.specs.declared.object.Part.TheVariants.{Head, Drawn, Tail}
use Rattle.kl_model.specs.declared.place.Body.TheVariants as body
use Rattle.kl_model.specs.declared.place.LinePart.{LinePart}
use Rattle.kl_model.specs.declared.place.Gaps.{Gaps}
use Rattle.kl_model.specs.declared.place.Made.{Made}
use Rattle.kl_model.specs.declared.graph.PieceId.{PieceId}
use Rattle.kl_model.specs.declared.graph.PieceId.TheVariants as id
use Rattle.kl_model.specs.declared.graph.Piece.{Piece}
use Rattle.kl_model.specs.declared.graph.Graph.{Graph}
use Rattle.kl_model.specs.declared.kit.KitKind.{KitKind}
use Rattle.kl_model.specs.declared.kit.KitKind.TheVariants.{Kernel, Library}
use Rattle.kl_model.specs.declared.kit.Run.{Run}
use Rattle.kl_model.specs.declared.kit.Kit.{Kit}
use Rattle.kl_model.specs.declared.area.TheConstants as area

same_number : (n : ℕ) → (n == n) ≡ true
same_number n = eq-eqb n n refl

-- WHERE A PIECE'S AREA IS
in_tail : {X : Type 0} (x y : X) (ys : List X) → In x (y ∷ ys) → (x ≡ y) ⊎ In x ys
in_tail x y ys here = inl refl
in_tail x y ys (there i) = inr i

in_split : {X : Type 0} {x : X} (xs ys : List X) → In x (xs ++ ys) → In x xs ⊎ In x ys
in_split [] ys i = inr i
in_split (z ∷ xs) ys here = inl here
in_split (z ∷ xs) ys (there i) = elim (in_split xs ys i) [ inl j ↦ inl (there j) | inr j ↦ inr j ]

in_numbers : (ns : List ℕ) (n : ℕ) → number_in ns n ≡ true → In n ns
in_numbers [] n e = cc
in_numbers (m ∷ ns) n e =
    elim (cases_Bool (m == n)) [
      | inl s ↦ (let is = eqb-true m n s in rw is here)
      | inr s ↦ there (in_numbers ns n (rw s at e))
    ]

-- an area that a section's name or type gives
abbrev IsNamedArea : Class → ℕ → Type 0
IsNamedArea Text a = (a ≡ area.INIT) ⊎ (a ≡ area.FINI)
IsNamedArea Rodata a = a ≡ area.EH_FRAME
IsNamedArea Rwdata a = (a ≡ area.CTORS) ⊎ ((a ≡ area.DTORS) ⊎ ((a ≡ area.INIT_ARRAY) ⊎ (a ≡ area.FINI_ARRAY)))
IsNamedArea Bss a = ⊥

none_in : {X : Type 0} (x : X) → In x [] → ⊥
none_in x i = elim i [ ]

named_is : (c : Class) (a : ℕ) → In a (named_areas c) → IsNamedArea c a
named_is Text a i =
    elim (in_tail a area.INIT (area.FINI ∷ []) i) [
      | inl e ↦ inl e
      | inr j ↦ elim (in_tail a area.FINI [] j) [ inl e ↦ inr e | inr k ↦ absurd (none_in a k) ]
    ]
named_is Rodata a i = elim (in_tail a area.EH_FRAME [] i) [ inl e ↦ e | inr k ↦ absurd (none_in a k) ]
named_is Rwdata a i =
    elim (in_tail a area.CTORS (area.DTORS ∷ area.INIT_ARRAY ∷ area.FINI_ARRAY ∷ []) i) [
      | inl e ↦ inl e
      | inr j ↦ elim (in_tail a area.DTORS (area.INIT_ARRAY ∷ area.FINI_ARRAY ∷ []) j) [
        | inl e ↦ inr (inl e)
        | inr k ↦ elim (in_tail a area.INIT_ARRAY (area.FINI_ARRAY ∷ []) k) [
          | inl e ↦ inr (inr (inl e))
          | inr l ↦ elim (in_tail a area.FINI_ARRAY [] l) [ inl e ↦ inr (inr (inr e)) | inr m ↦ absurd (none_in a m) ]
        ]
      ]
    ]
named_is Bss a i = none_in a i

abbrev no_run : Run
no_run = record { section = []; class = Text; start = []; end = []; line = 0 }

-- that of a run of a class
record IsRunArea (kit : Kit) (c : Class) (a : ℕ) : Type 0 where
  pub run : ℕ
  pub known : run < length kit.runs
  pub number : a ≡ area.FIRST_RUN + run
  pub class : same_class (get_or kit.runs run no_run).class c ≡ true

run_of : (c : Class) (a k : ℕ) (rs : List Run) → In a (each_from k (λ k r. only_if (same_class r.class c) (area.FIRST_RUN + k)) rs)
    → (i : ℕ) × (i < length rs) × (a ≡ area.FIRST_RUN + (k + i)) × (same_class (get_or rs i no_run).class c ≡ true)
run_of c a k [] i = absurd (none_in a i)
run_of c a k (r ∷ rs) i =
    elim (in_split (only_if (same_class r.class c) (area.FIRST_RUN + k)) (each_from (suc k) (λ k r. only_if (same_class r.class c) (area.FIRST_RUN + k)) rs) i) [
      | inl j ↦ elim (cases_Bool (same_class r.class c)) [
        | inl e ↦ elim (in_tail a (area.FIRST_RUN + k) [] (rw e at j)) [
          | inl n ↦ (0, omega arith, (let z : k + 0 ≡ k = omega arith in rw z n), e)
          | inr m ↦ absurd (none_in a m)
        ]
        | inr e ↦ absurd (none_in a (rw e at j))
      ]
      | inr j ↦
          let more = run_of c a (suc k) rs j in
          let l = more.1 in
          (suc more.0, omega arith, (let z : k + suc more.0 ≡ suc k + more.0 = omega arith in rw z more.2), more.3)
    ]

run_is : (kit : Kit) (c : Class) (a : ℕ) → In a (run_areas kit c) → IsRunArea kit c a
run_is kit c a i = let r = run_of c a 0 kit.runs i in record { run = r.0; known = r.1; number = (let z : 0 + r.0 ≡ r.0 = omega arith in rw z at r.2); class = r.3 }

area_of : (kit : Kit) (c : Class) (a : ℕ) → number_in (class_areas kit c) a ≡ true → (a ≡ class_number c) ⊎ (IsNamedArea c a ⊎ IsRunArea kit c a)
area_of kit c a e =
    elim (in_tail a (class_number c) (run_areas kit c ++ named_areas c) (in_numbers (class_areas kit c) a e)) [
      | inl n ↦ inl n
      | inr i ↦ elim (in_split (run_areas kit c) (named_areas c) i) [ inl j ↦ inr (inr (run_is kit c a j)) | inr j ↦ inr (inl (named_is c a j)) ]
    ]

-- the class of the global offset table
abbrev pub got_class : KitKind → Class
got_class Kernel = Rodata
got_class Library = Rwdata

module _ (kit : Kit) (g : Graph) (gaps : Option Gaps) (order : List ℕ) (made : Made) where
  -- what a spread of a class has stands in the line of the class
  in_spread : (c : Class) (s : Spread) (y : LinePart) → In s (spreads kit g gaps order made c) → In y s.parts → In y (class_line kit g gaps order made c)
  in_spread c s y i j = in_flat_map (λ x. x.parts) i j

  in_last : (c : Class) (s : Spread) → In s (last_spreads kit.kind g made c) → In s (spreads kit g gaps order made c)
  in_last c s i = there (in_right (run_spreads kit g order c) i)

  -- the gap
  pub gap_in : (z : Gaps) (c : Class) → gaps ≡ Some z → In (record { body = body.Gap c; size = gap_size z c; align = 16 }) (class_line kit g gaps order made c)
  gap_in z c e =
      let between : In (record { body = body.Gap c; size = gap_size z c; align = 16 }) (gap_parts gaps c) = rw e here in
      in_spread c (ordinary g gaps order c) (record { body = body.Gap c; size = gap_size z c; align = 16 }) here
      (in_right (flat_map (of_input g c (class_number c)) (inputs_in g Head)) (in_left (flat_map (λ d. of_input g c (class_number c) (slice_index (inputs_in g Drawn) d)) order ++ flat_map (of_input g c (class_number c)) (inputs_in g Tail)) between))

  -- the made areas
  pub stubs_in : (y : LinePart) → In y (made_parts 6 made.stubs 16) → In y (class_line kit g gaps order made Text)
  stubs_in y i = in_spread Text (made_spread 6 made.stubs 16) y (in_last Text (made_spread 6 made.stubs 16) (there (there here))) i

  pub tables_in : (y : LinePart) → In y (made_parts 8 made.tables 8) → In y (class_line kit g gaps order made Rodata)
  tables_in y i = in_spread Rodata (made_spread 8 made.tables 8) y (in_last Rodata (made_spread 8 made.tables 8) (there here)) i

  pub dynamic_in : (y : LinePart) → In y (made_parts 14 made.dynamic 8) → In y (class_line kit g gaps order made Rwdata)
  dynamic_in y i =
      in_spread Rwdata (made_spread 14 made.dynamic 8) y
      (in_last Rwdata (made_spread 14 made.dynamic 8) (there (there (there (there (in_right (got_spread kit.kind made Rwdata) here)))))) i

  got_last : (k : KitKind) → In (made_spread 13 made.got 8) (last_spreads k g made (got_class k))
  got_last Kernel = there (there here)
  got_last Library = there (there (there (there here)))

  pub got_in : (y : LinePart) → In y (made_parts 13 made.got 8) → In y (class_line kit g gaps order made (got_class kit.kind))
  got_in y i = in_spread (got_class kit.kind) (made_spread 13 made.got 8) y (in_last (got_class kit.kind) (made_spread 13 made.got 8) (got_last kit.kind)) i

  -- a piece of an area, of a run, and a common
  area_last : (c : Class) (a : ℕ) → IsNamedArea c a → In (area_spread g a) (last_spreads kit.kind g made c)
  area_last Text a (inl e) = rw e here
  area_last Text a (inr e) = rw e (there here)
  area_last Rodata a e = rw e here
  area_last Rwdata a (inl e) = rw e here
  area_last Rwdata a (inr (inl e)) = rw e (there here)
  area_last Rwdata a (inr (inr (inl e))) = rw e (there (there here))
  area_last Rwdata a (inr (inr (inr e))) = rw e (there (there (there here)))
  area_last Bss a e = absurd e

  module _ (whole : IsWhole g order) (n : ℕ) (h : n < length g.pieces) where
    abbrev x : Piece
    x = get_or g.pieces n no_piece

    in_area : IsNamedArea x.class x.area → In (part_of g n x) (class_line kit g gaps order made x.class)
    in_area e =
        in_spread x.class (area_spread g x.area) (part_of g n x) (in_last x.class (area_spread g x.area) (area_last x.class x.area e))
        (in_piece_parts g (λ y. y.area == x.area) n no_piece h (same_number x.area))

    in_common : (k : ℕ) → x.id ≡ id.Common k → x.class ≡ Bss → In (part_of g n x) (class_line kit g gaps order made x.class)
    in_common k e c =
        rw c (in_spread Bss (record { area = None; parts = piece_parts g (λ y. is_common_id y.id) }) (part_of g n x)
        (in_last Bss (record { area = None; parts = piece_parts g (λ y. is_common_id y.id) }) here)
        (in_piece_parts g (λ y. is_common_id y.id) n no_piece h (rw e refl)))

    in_run : (i s : ℕ) → x.id ≡ id.Section i s → i < length g.parts → IsRunArea kit x.class x.area → In (part_of g n x) (class_line kit g gaps order made x.class)
    in_run i s e l r =
        let c = x.class in
        let spread : Spread = record { area = Some (15 + r.run); parts = sequence g order [] (of_input g c (15 + r.run)) } in
        let test : is_of_input i x.id && (same_class x.class c && (x.area == 15 + r.run)) ≡ true = rw (e, r.number, same_number i, same_number (class_number c), same_number (15 + r.run)) refl in
        in_spread c spread (part_of g n x)
        (there (in_left (last_spreads kit.kind g made c) (in_each (λ k y. only_if (same_class y.class c) (record { area = Some (15 + k); parts = sequence g order [] (of_input g c (15 + k)) }))
        0 kit.runs r.run no_run spread r.known
        (let z : 0 + r.run ≡ r.run = omega arith in let k = r.class in rw (z, k) here))))
        (in_sequence g order [] (of_input g c (15 + r.run)) (part_of g n x) i whole l
        (in_piece_parts g (λ y. is_of_input i y.id && (same_class y.class c && (y.area == 15 + r.run))) n no_piece h test))

    -- every piece stands in the line of its class
    piece_in_by : (k : PieceId) → x.id ≡ k → HasOrigin (length g.parts) x k → (x.area ≡ class_number x.class) ⊎ (IsNamedArea x.class x.area ⊎ IsRunArea kit x.class x.area)
        → In (part_of g n x) (class_line kit g gaps order made x.class)
    piece_in_by (id.Section i s) e l (inl a) = in_line kit g gaps order made n i s no_piece h e a l whole
    piece_in_by (id.Section i s) e l (inr (inl a)) = in_area a
    piece_in_by (id.Section i s) e l (inr (inr r)) = in_run i s e l r
    piece_in_by (id.Common k) e o a = in_common k e o.0
    piece_in_by (id.Gap c) e o a = absurd o

    pub piece_in : IsSoundPiece kit g x → In (piece_part n x) (class_line kit g gaps order made x.class)
    unfolding part_of
    piece_in s = piece_in_by x.id refl s.origin (area_of kit x.class x.area s.area)
