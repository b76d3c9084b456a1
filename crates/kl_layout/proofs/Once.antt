-- Every part of an image stands once: a class's line is its pieces, its gap and its made areas, in another order.
use Rattle.std.proofs.Common.{ℕ, suc, ◌≡◌, ◌+◌, ◌<◌, ◌∙◌, List, [], ◌∷◌, ◌++◌, length, get_or, refl, ap, sym, subst, append_assoc, arith, Bool, true, false, not, ◌&&◌, inl, inr, eq-eqb}
use Rattle.std.specs.Prelude.{flat_map, All, IsPermutation, ◌==◌, cond, nat_lt, Option, Some}
use Rattle.std.proofs.lemmas.Bool.{cases_Bool, eqb-true, lt-ltb, ne_eqb, ltb-true}
use Rattle.std.proofs.lemmas.List.{append-nil}
use Rattle.std.proofs.lemmas.List.Concat.{flat_map-append}
use Rattle.std.proofs.lemmas.List.Sorted.{IsPermutation-refl, IsPermutation-sym, IsPermutation-trans, IsPermutation-append, IsPermutation-append_comm, IsPermutation-append_left, IsPermutation-append_right}
use Rattle.kl_base.specs.declared.class.Class.{Class}
use Rattle.kl_base.specs.declared.class.Class.TheVariants.{Text, Rodata, Rwdata, Bss}
use Rattle.kl_model.specs.Lists.{each, each_from, only_if, number_in}
use Rattle.kl_model.specs.Areas.{same_class, class_number, named_areas}
use Rattle.kl_model.specs.Orders.{drawn_count, IsOrder}
use Rattle.kl_model.specs.Line.{classes, Spread, piece_part, piece_parts, is_of_input, is_common_id, inputs_in, sequence, gap_parts, ordinary, of_input, run_spreads, got_spread, last_spreads, made_parts, class_line, every_part}
use Rattle.kl_model.specs.declared.object.Part.TheVariants.{Head}
use Rattle.kl_model.specs.declared.graph.PieceId.{PieceId}
use Rattle.kl_model.specs.declared.graph.PieceId.TheVariants as id
use Rattle.kl_model.specs.declared.graph.Piece.{Piece}
use Rattle.kl_model.specs.declared.graph.Graph.{Graph}
use Rattle.kl_model.specs.declared.kit.KitKind.{KitKind}
use Rattle.kl_model.specs.declared.kit.KitKind.TheVariants.{Kernel, Library}
use Rattle.kl_model.specs.declared.kit.Kit.{Kit}
use Rattle.kl_model.specs.declared.kit.Run.{Run}
use Rattle.kl_model.specs.declared.place.Gaps.{Gaps}
use Rattle.kl_model.specs.declared.place.Made.{Made}
use Rattle.kl_model.specs.declared.place.LinePart.{LinePart}
use Rattle.kl_layout.proofs.Grouped.{passing-both, passing-keys}
use Rattle.kl_model.specs.Sound.{HasOrigin, IsSoundPiece, class_areas, run_areas}
use Rattle.kl_layout.specs.Once.{input_sequence, is_known_id, made_got, class_made}
use Rattle.kl_layout.proofs.Sequences.{sequence_joined, flip_numbers}
use Rattle.kl_layout.proofs.Shuffled.{alike, forward, gathered, joined-same, joined-shuffled, joined-both, all_of, passing-members, keys-members}
use Rattle.kl_layout.proofs.Inputs.{sequence_has, sequence_apart}
use Rattle.kl_layout.proofs.Areas.{areas_apart, area_of_class, low_class}

-- where a piece comes from
pub from_known : (n : ℕ) (x : Piece) (d : PieceId) → HasOrigin n x d → is_known_id n d ≡ true
from_known n x (id.Section i s) h = lt-ltb i n h
from_known n x (id.Common k) h = refl
from_known n x (id.Gap c) h = absurd h

pub common_area : (n : ℕ) (x : Piece) (d : PieceId) → HasOrigin n x d → is_common_id d ≡ true → x.area ≡ 3
common_area n x (id.Section i s) h e = cc
common_area n x (id.Common k) h e = h.1
common_area n x (id.Gap c) h e = absurd h

abbrev id_input : PieceId → ℕ
id_input (id.Section i s) = i
id_input (id.Common n) = 0
id_input (id.Gap c) = 0

abbrev number_class : ℕ → Class
number_class n = cond (n == 0) Text (cond (n == 1) Rodata (cond (n == 2) Rwdata Bss))

class_numbered : (c : Class) → number_class (class_number c) ≡ c
class_numbered Text = refl
class_numbered Rodata = refl
class_numbered Rwdata = refl
class_numbered Bss = refl

pub class_is : (a b : Class) → class_number a ≡ class_number b → a ≡ b
class_is a b e = sym (class_numbered a) ∙ (ap number_class e ∙ class_numbered b)

class_known : (c : Class) → number_in (0 ∷ 1 ∷ 2 ∷ 3 ∷ []) (class_number c) ≡ true
class_known Text = refl
class_known Rodata = refl
class_known Rwdata = refl
class_known Bss = refl

-- of two tests that an item passes
not_common : (a b c : Bool) → (a && (b && not c)) ≡ true → c ≡ false
not_common true true false e = refl
not_common true true true e = cc
not_common true false c e = cc
not_common false b c e = cc

-- an item of an input, or none
from_input : (n i : ℕ) (d : PieceId) (a b : Bool) → is_known_id n d ≡ true
    → ((a && (b && not (is_common_id d))) && (id_input d == i)) ≡ (is_of_input i d && (a && b))
from_input n i (id.Section j s) a b h = go a b (j == i) (i == j) (flip_numbers j i)
  where
    go : (a b p q : Bool) → p ≡ q → ((a && (b && true)) && p) ≡ (q && (a && b))
    go true true true true e = refl
    go true true false false e = refl
    go true true true false e = e
    go true true false true e = e
    go true false p true e = refl
    go true false p false e = refl
    go false b p true e = refl
    go false b p false e = refl
from_input n i (id.Common k) true true h = refl
from_input n i (id.Common k) true false h = refl
from_input n i (id.Common k) false b h = refl
from_input n i (id.Gap c) a b h = cc

known_input : (n : ℕ) (ns : List ℕ) (d : PieceId) → ((i : ℕ) → nat_lt i n ≡ true → number_in ns i ≡ true) → is_known_id n d ≡ true → is_common_id d ≡ false
    → number_in ns (id_input d) ≡ true
known_input n ns (id.Section i s) has known other = has i known
known_input n ns (id.Common k) has known other = cc
known_input n ns (id.Gap c) has known other = cc

module _ (kit : Kit) (g : Graph) (sound : All (IsSoundPiece kit g) g.pieces) (order : List ℕ) (o : IsOrder (drawn_count g.parts) order) where
  -- the pieces of a class; of them those of an area, and those that aren't commons
  abbrev pub class_pieces : Class → List LinePart
  class_pieces c = piece_parts g (λ x. same_class x.class c)

  abbrev area_pieces : Class → ℕ → List LinePart
  area_pieces c k = piece_parts g (λ x. same_class x.class c && (x.area == k))

  abbrev own_pieces : Class → ℕ → List LinePart
  own_pieces c k = piece_parts g (λ x. same_class x.class c && ((x.area == k) && not (is_common_id x.id)))

  -- what stands by the sequence of the inputs
  by_input : (c : Class) (k : ℕ) (between : List LinePart) → IsPermutation (between ++ own_pieces c k) (sequence g order between (of_input g c k))
  by_input c k between =
      let f = of_input g c k in
      let t = λ (x : Piece). same_class x.class c && ((x.area == k) && not (is_common_id x.id)) in
      let groups = keys-members piece_part (λ (x : Piece). id_input x.id) (input_sequence g order) t 0 g.pieces (sequence_apart g order o)
      (λ n d l h. let s = sound n d l in
      known_input (length g.parts) (input_sequence g order) (get_or g.pieces n d).id
      (λ i e. sequence_has g order o i (ltb-true i (length g.parts) e)) (from_known (length g.parts) (get_or g.pieces n d) (get_or g.pieces n d).id s.origin) (not_common _ _ _ h)) in
      let same = joined-same (λ i. piece_parts g (λ x. t x && (id_input x.id == i))) f (input_sequence g order)
      (all_of _ (λ i. passing-members piece_part (λ x. t x && (id_input x.id == i))
      (λ x. is_of_input i x.id && (same_class x.class c && (x.area == k))) 0 g.pieces
      (λ n d l. from_input (length g.parts) i (get_or g.pieces n d).id _ _ (from_known (length g.parts) (get_or g.pieces n d) (get_or g.pieces n d).id (sound n d l).origin))) (input_sequence g order)) in
      let joined : IsPermutation (own_pieces c k) (sequence g order [] f) =
      subst (λ (l : List LinePart). IsPermutation (own_pieces c k) l) (same ∙ sym (sequence_joined g order f)) groups in
      IsPermutation-trans _ _ _ (IsPermutation-append_right between (own_pieces c k) (sequence g order [] f) joined)
      (forward between (flat_map f (inputs_in g Head)) _)

  -- by area
  by_area : (c : Class) → IsPermutation (class_pieces c) (flat_map (area_pieces c) (class_areas kit c))
  by_area c =
      keys-members piece_part (λ (x : Piece). x.area) (class_areas kit c) (λ x. same_class x.class c) 0 g.pieces (areas_apart c kit)
      (λ n d l h. let e : (get_or g.pieces n d).class ≡ c = class_is _ _ (eqb-true _ _ h) in
      subst (λ b. number_in (class_areas kit b) (get_or g.pieces n d).area ≡ true) e (sound n d l).area)

  -- the pieces of an area that has a name are of its class
  named_pieces : (c : Class) (k : ℕ) → k < 15 → low_class k ≡ class_number c → area_pieces c k ≡ piece_parts g (λ x. x.area == k)
  named_pieces c k low own = passing-members piece_part (λ x. same_class x.class c && (x.area == k)) (λ x. x.area == k) 0 g.pieces
      (λ n d l. go (get_or g.pieces n d) (sound n d l))
    where
      go : (x : Piece) → IsSoundPiece kit g x → (same_class x.class c && (x.area == k)) ≡ (x.area == k)
      go x s = elim (cases_Bool (x.area == k)) [
        | inr a ↦ elim (cases_Bool (same_class x.class c)) [ inl b ↦ rw (a, b) refl | inr b ↦ rw (a, b) refl ]
        | inl a ↦
            let there : number_in (class_areas kit x.class) k ≡ true = subst (λ (m : ℕ). number_in (class_areas kit x.class) m ≡ true) (eqb-true x.area k a) s.area in
            let same : same_class x.class c ≡ true = eq-eqb _ _ (sym (area_of_class x.class kit k low there) ∙ own) in
            rw (a, same) refl
      ]

  -- no common is in another area than 3
  without_commons : (c : Class) (k : ℕ) → (3 == k) ≡ false → area_pieces c k ≡ own_pieces c k
  without_commons c k other = passing-members piece_part (λ x. same_class x.class c && (x.area == k))
      (λ x. same_class x.class c && ((x.area == k) && not (is_common_id x.id))) 0 g.pieces (λ n d l. go (get_or g.pieces n d) (sound n d l))
    where
      go : (x : Piece) → IsSoundPiece kit g x → (same_class x.class c && (x.area == k)) ≡ (same_class x.class c && ((x.area == k) && not (is_common_id x.id)))
      go x s = elim (cases_Bool (is_common_id x.id)) [
        | inl a ↦ (let e = common_area (length g.parts) x x.id s.origin a in let no : (x.area == k) ≡ false = rw e other in rw (a, no) refl)
        | inr a ↦ elim (cases_Bool (x.area == k)) [ inl b ↦ rw (a, b) refl | inr b ↦ rw (a, b) refl ]
      ]

  -- the runs of a class
  runs_are : (c : Class) (n : ℕ) (rs : List Run)
      → IsPermutation (flat_map (area_pieces c) (each_from n (λ k (r : Run). only_if (same_class r.class c) (15 + k)) rs))
      (flat_map (λ (s : Spread). s.parts)
      (each_from n (λ k (r : Run). only_if (same_class r.class c) (record { area = Some (15 + k); parts = sequence g order [] (of_input g c (15 + k)) })) rs))
  runs_are c n [] = IsPermutation-refl []
  runs_are c n (r ∷ rs) =
      let rest = runs_are c (suc n) rs in
      let other : (3 == (15 + n)) ≡ false = ne_eqb 3 (15 + n) (λ e. absurd (omega (arith, e))) in
      elim (cases_Bool (same_class r.class c)) [
        | inl a ↦ rw a (IsPermutation-append _ _ _ _ (subst (λ (l : List LinePart). IsPermutation l (sequence g order [] (of_input g c (15 + n)))) (sym (without_commons c (15 + n) other)) (by_input c (15 + n) [])) rest)
        | inr a ↦ rw a rest
      ]

  -- the commons
  abbrev pub commons : Class → List LinePart
  commons Bss = piece_parts g (λ x. is_common_id x.id)
  commons _ = []

  own_areas : (c : Class) → IsPermutation (area_pieces c (class_number c)) (own_pieces c (class_number c) ++ commons c)
  own_areas Text = alike _ _ (without_commons Text 0 refl ∙ sym (append-nil _))
  own_areas Rodata = alike _ _ (without_commons Rodata 1 refl ∙ sym (append-nil _))
  own_areas Rwdata = alike _ _ (without_commons Rwdata 2 refl ∙ sym (append-nil _))
  own_areas Bss =
      let both = passing-both piece_part (λ (x : Piece). same_class x.class Bss && (x.area == 3)) (λ x. is_common_id x.id) 0 g.pieces in
      let is_common = passing-members piece_part (λ (x : Piece). (same_class x.class Bss && (x.area == 3)) && is_common_id x.id) (λ x. is_common_id x.id) 0 g.pieces
      (λ n d l. is_bss (get_or g.pieces n d) (sound n d l)) in
      let no_common = passing-members piece_part (λ (x : Piece). (same_class x.class Bss && (x.area == 3)) && not (is_common_id x.id))
      (λ x. same_class x.class Bss && ((x.area == 3) && not (is_common_id x.id))) 0 g.pieces
      (λ n d l. associated (same_class (get_or g.pieces n d).class Bss) ((get_or g.pieces n d).area == 3) (not (is_common_id (get_or g.pieces n d).id))) in
      IsPermutation-trans _ _ _
      (subst (λ (l : List LinePart). IsPermutation (area_pieces Bss 3) (l ++ own_pieces Bss 3)) is_common
      (subst (λ (l : List LinePart). IsPermutation (area_pieces Bss 3) (piece_parts g (λ x. (same_class x.class Bss && (x.area == 3)) && is_common_id x.id) ++ l)) no_common both))
      (IsPermutation-append_comm (commons Bss) (own_pieces Bss 3))
    where
      associated : (a b c : Bool) → ((a && b) && c) ≡ (a && (b && c))
      associated true b c = refl
      associated false b c = refl

      is_bss : (x : Piece) → IsSoundPiece kit g x → ((same_class x.class Bss && (x.area == 3)) && is_common_id x.id) ≡ is_common_id x.id
      is_bss x s = elim (cases_Bool (is_common_id x.id)) [
        | inr a ↦ elim (cases_Bool (same_class x.class Bss && (x.area == 3))) [ inl b ↦ rw (a, b) refl | inr b ↦ rw (a, b) refl ]
        | inl a ↦
            let e = common_area (length g.parts) x x.id s.origin a in
            let there : number_in (class_areas kit x.class) 3 ≡ true = subst (λ (m : ℕ). number_in (class_areas kit x.class) m ≡ true) e s.area in
            let class : class_number x.class ≡ 3 = sym (area_of_class x.class kit 3 (omega arith) there) in
            let one : same_class x.class Bss ≡ true = eq-eqb _ _ class in
            let two : (x.area == 3) ≡ true = eq-eqb _ _ e in
            rw (a, one, two) refl
      ]

  -- what stands behind the runs
  pub last_are : (kind : KitKind) (made : Made) (c : Class)
      → flat_map (λ (s : Spread). s.parts) (last_spreads kind g made c) ≡ commons c ++ (flat_map (area_pieces c) (named_areas c) ++ class_made kind made c)
  last_are kind made Text =
      rw (named_pieces Text 4 (omega arith) refl, named_pieces Text 5 (omega arith) refl)
      (ap (λ (l : List LinePart). piece_parts g (λ x. x.area == 4) ++ (piece_parts g (λ x. x.area == 5) ++ l)) (append-nil (class_made kind made Text))
      ∙ sym (two (piece_parts g (λ x. x.area == 4)) (piece_parts g (λ x. x.area == 5)) (class_made kind made Text)))
    where
      two : (a b l : List LinePart) → (a ++ (b ++ [])) ++ l ≡ a ++ (b ++ l)
      two a b l = append_assoc a (b ++ []) l ∙ ap (λ (m : List LinePart). a ++ (m ++ l)) (append-nil b)
  last_are kind made Rodata =
      rw (named_pieces Rodata 7 (omega arith) refl)
      (ap (λ (l : List LinePart). piece_parts g (λ x. x.area == 7) ++ (made_parts 8 made.tables 8 ++ l)) (got kind)
      ∙ ap (λ (l : List LinePart). l ++ class_made kind made Rodata) (sym (append-nil (piece_parts g (λ x. x.area == 7)))))
    where
      got : (k : KitKind) → flat_map (λ (s : Spread). s.parts) (got_spread k made Rodata) ≡ made_got k made Rodata
      got Kernel = append-nil (made_parts 13 made.got 8)
      got Library = refl
  last_are kind made Rwdata =
      rw (named_pieces Rwdata 9 (omega arith) refl, named_pieces Rwdata 10 (omega arith) refl, named_pieces Rwdata 11 (omega arith) refl, named_pieces Rwdata 12 (omega arith) refl)
      (let a = piece_parts g (λ x. x.area == 9) in
      let b = piece_parts g (λ x. x.area == 10) in
      let c = piece_parts g (λ x. x.area == 11) in
      let d = piece_parts g (λ x. x.area == 12) in
      ap (λ (l : List LinePart). a ++ (b ++ (c ++ (d ++ l)))) (got kind) ∙ sym (four a b c d (class_made kind made Rwdata)))
    where
      four : (a b c d l : List LinePart) → (a ++ (b ++ (c ++ (d ++ [])))) ++ l ≡ a ++ (b ++ (c ++ (d ++ l)))
      four a b c d l = append_assoc a (b ++ (c ++ (d ++ []))) l
          ∙ (ap (λ (m : List LinePart). a ++ m) (append_assoc b (c ++ (d ++ [])) l)
          ∙ (ap (λ (m : List LinePart). a ++ (b ++ m)) (append_assoc c (d ++ []) l) ∙ ap (λ (m : List LinePart). a ++ (b ++ (c ++ (m ++ l)))) (append-nil d)))

      got : (k : KitKind) → flat_map (λ (s : Spread). s.parts) (got_spread k made Rwdata ++ record { area = Some 14; parts = made_parts 14 made.dynamic 8 } ∷ []) ≡ class_made k made Rwdata
      got Kernel = append-nil (made_parts 14 made.dynamic 8)
      got Library = ap (λ (l : List LinePart). made_parts 13 made.got 8 ++ l) (append-nil (made_parts 14 made.dynamic 8))
  last_are kind made Bss = refl

  -- the named areas of a class in the graph's order
  named_ordered : (c : Class) → flat_map (area_pieces c) (named_areas c) ≡ flat_map (λ n. piece_parts g (λ x. x.area == n)) (named_areas c)
  named_ordered Text = rw (named_pieces Text 4 (omega arith) refl, named_pieces Text 5 (omega arith) refl) refl
  named_ordered Rodata = rw (named_pieces Rodata 7 (omega arith) refl) refl
  named_ordered Rwdata =
      rw (named_pieces Rwdata 9 (omega arith) refl, named_pieces Rwdata 10 (omega arith) refl, named_pieces Rwdata 11 (omega arith) refl, named_pieces Rwdata 12 (omega arith) refl) refl
  named_ordered Bss = refl

  -- A class's line: what stands by the sequence with its gap, the runs, the commons, the named areas, the made areas.
  pub line_joined : (gaps : Option Gaps) (made : Made) (c : Class)
      → class_line kit g gaps order made c
      ≡ (ordinary g gaps order c).parts
      ++ (flat_map (λ (s : Spread). s.parts) (run_spreads kit g order c)
      ++ (commons c ++ (flat_map (λ n. piece_parts g (λ x. x.area == n)) (named_areas c) ++ class_made kit.kind made c)))
  line_joined gaps made c =
      let runs = flat_map (λ (s : Spread). s.parts) (run_spreads kit g order c) in
      ap (λ (l : List LinePart). (ordinary g gaps order c).parts ++ l)
      (flat_map-append (λ (s : Spread). s.parts) (run_spreads kit g order c) (last_spreads kit.kind g made c)
      ∙ (ap (λ (l : List LinePart). runs ++ l) (last_are kit.kind made c)
      ∙ ap (λ (l : List LinePart). runs ++ (commons c ++ (l ++ class_made kit.kind made c))) (named_ordered c)))

  -- A class's line is its pieces, its gap and its made areas, in another order.
  pub class_line_once : (gaps : Option Gaps) (made : Made) (c : Class)
      → IsPermutation (class_pieces c ++ (gap_parts gaps c ++ class_made kit.kind made c)) (class_line kit g gaps order made c)
  class_line_once gaps made c =
      let n = own_pieces c (class_number c) in
      let e = commons c in
      let r = flat_map (area_pieces c) (run_areas kit c) in
      let m = flat_map (area_pieces c) (named_areas c) in
      let z = gap_parts gaps c in
      let d = class_made kit.kind made c in
      let l = flat_map (λ (s : Spread). s.parts) (last_spreads kit.kind g made c) in
      let runs = flat_map (λ (s : Spread). s.parts) (run_spreads kit g order c) in
      let groups : IsPermutation (class_pieces c) (area_pieces c (class_number c) ++ (r ++ m)) =
      subst (λ (x : List LinePart). IsPermutation (class_pieces c) (area_pieces c (class_number c) ++ x)) (flat_map-append (area_pieces c) (run_areas kit c) (named_areas c)) (by_area c) in
      let named : IsPermutation (class_pieces c) ((n ++ e) ++ (r ++ m)) =
      IsPermutation-trans _ _ _ groups (IsPermutation-append_left (r ++ m) (area_pieces c (class_number c)) (n ++ e) (own_areas c)) in
      let all : IsPermutation (class_pieces c ++ (z ++ d)) ((z ++ n) ++ (r ++ (e ++ (m ++ d)))) =
      IsPermutation-trans _ _ _ (IsPermutation-append_left (z ++ d) (class_pieces c) ((n ++ e) ++ (r ++ m)) named) (gathered n e r m z d) in
      let behind : e ++ (m ++ d) ≡ l = sym (last_are kit.kind made c) in
      let known : IsPermutation (class_pieces c ++ (z ++ d)) ((z ++ n) ++ (r ++ l)) =
      subst (λ (x : List LinePart). IsPermutation (class_pieces c ++ (z ++ d)) ((z ++ n) ++ (r ++ x))) behind all in
      let stands : IsPermutation ((z ++ n) ++ (r ++ l)) (sequence g order z (of_input g c (class_number c)) ++ (runs ++ l)) =
      IsPermutation-append (z ++ n) (sequence g order z (of_input g c (class_number c))) (r ++ l) (runs ++ l) (by_input c (class_number c) z)
      (IsPermutation-append_left l r runs (runs_are c 0 kit.runs)) in
      subst (λ (x : List LinePart). IsPermutation (class_pieces c ++ (z ++ d)) (sequence g order z (of_input g c (class_number c)) ++ x))
      (sym (flat_map-append (λ (s : Spread). s.parts) (run_spreads kit g order c) (last_spreads kit.kind g made c)))
      (IsPermutation-trans _ _ _ known stands)

  -- all made areas
  made_are : (kind : KitKind) (made : Made)
      → made_parts 6 made.stubs 16 ++ (made_parts 8 made.tables 8 ++ (made_parts 13 made.got 8 ++ made_parts 14 made.dynamic 8)) ≡ flat_map (class_made kind made) classes
  made_are Kernel made =
      let a = made_parts 6 made.stubs 16 in let b = made_parts 8 made.tables 8 in let c = made_parts 13 made.got 8 in let d = made_parts 14 made.dynamic 8 in
      ap (λ (l : List LinePart). a ++ (b ++ (c ++ l))) (sym (append-nil d)) ∙ ap (λ (l : List LinePart). a ++ l) (sym (append_assoc b c (d ++ [])))
  made_are Library made =
      let a = made_parts 6 made.stubs 16 in let b = made_parts 8 made.tables 8 in let c = made_parts 13 made.got 8 in let d = made_parts 14 made.dynamic 8 in
      ap (λ (l : List LinePart). a ++ (b ++ l)) (sym (append-nil (c ++ d))) ∙ ap (λ (l : List LinePart). a ++ (l ++ ((c ++ d) ++ []))) (sym (append-nil b))

  -- Every piece, every gap and every made area stands once.
  pub everything_once : (gaps : Option Gaps) (made : Made) → IsPermutation (every_part g gaps made) (flat_map (class_line kit g gaps order made) classes)
  everything_once gaps made =
      let pieces = each g.pieces (λ n x. piece_part n x ∷ []) in
      let gap = gap_parts gaps in
      let areas = class_made kit.kind made in
      let by_class : IsPermutation pieces (flat_map class_pieces classes) =
      passing-keys piece_part (λ (x : Piece). class_number x.class) (0 ∷ 1 ∷ 2 ∷ 3 ∷ []) (λ x. true) 0 g.pieces (refl, (refl, (refl, (refl, tt)))) (λ x e. class_known x.class) in
      let one : IsPermutation (every_part g gaps made) (flat_map class_pieces classes ++ (flat_map gap classes ++ flat_map areas classes)) =
      subst (λ (l : List LinePart). IsPermutation (every_part g gaps made) (flat_map class_pieces classes ++ (flat_map gap classes ++ l))) (made_are kit.kind made)
      (IsPermutation-append_left _ pieces (flat_map class_pieces classes) by_class) in
      let two : IsPermutation (flat_map class_pieces classes ++ (flat_map gap classes ++ flat_map areas classes)) (flat_map (λ c. class_pieces c ++ (gap c ++ areas c)) classes) =
      IsPermutation-sym _ _ (IsPermutation-trans _ _ _ (joined-both class_pieces (λ c. gap c ++ areas c) classes)
      (IsPermutation-append_right (flat_map class_pieces classes) _ _ (joined-both gap areas classes))) in
      IsPermutation-trans _ _ _ one (IsPermutation-trans _ _ _ two
      (joined-shuffled (λ c. class_pieces c ++ (gap c ++ areas c)) (class_line kit g gaps order made) classes (all_of _ (class_line_once gaps made) classes)))
