-- The pieces of numbers by area: what they are where the numbers are those of inputs in turn, and that a class's line wants them.
use Rattle.std.proofs.Common.{ℕ, zero, suc, ◌≡◌, ◌+◌, ◌<◌, ◌∙◌, List, [], ◌∷◌, ◌++◌, length, get_or, refl, ap, sym, subst, arith, Bool, true, false, ◌&&◌, inl, inr}
use Rattle.std.specs.Prelude.{flat_map, ◌==◌, All, slice_index}
use Rattle.std.proofs.lemmas.Bool.{cases_Bool, eqb-true}
use Rattle.std.proofs.lemmas.List.{get_or_default}
use Rattle.std.proofs.lemmas.List.Concat.{flat_map-append}
use Rattle.std.proofs.lemmas.List.Folds.{flat_map-map}
use Rattle.kl_base.specs.declared.class.Class.{Class}
use Rattle.kl_model.specs.Areas.{same_class}
use Rattle.kl_model.specs.Lists.{each_from, only_if}
use Rattle.kl_model.specs.Carries.{no_piece}
use Rattle.kl_model.specs.Line.{piece_part, piece_parts, is_of_input, of_input, inputs_in, sequence}
use Rattle.kl_model.specs.Sound.{IsSoundPiece}
use Rattle.kl_model.specs.declared.object.Part.TheVariants.{Head, Drawn, Tail}
use Rattle.kl_model.specs.declared.graph.Piece.{Piece}
use Rattle.kl_model.specs.declared.graph.Graph.{Graph}
use Rattle.kl_model.specs.declared.kit.Kit.{Kit}
use Rattle.kl_model.specs.declared.place.LinePart.{LinePart}
use Rattle.kl_model.proofs.Each.{each-all, all-only_if}
use Rattle.kl_layout.specs.Once.{later_inputs}
use Rattle.kl_layout.specs.Spreads.{is_by_input, numbered_part, numbered_parts, numbers_of, parts_of_inputs, piece_numbers}
use Rattle.kl_layout.proofs.Shuffled.{all_of, joined-same, passing-members}

module _ (g : Graph) where
  numbered_from : (n : ℕ) (t : Piece → Bool) (k : ℕ) (xs : List Piece) → ((j : ℕ) (d : Piece) → j < length xs → get_or g.pieces (k + j) no_piece ≡ get_or xs j d)
      → flat_map (numbered_part g n) (each_from k (λ m x. only_if (t x) m) xs) ≡ each_from k (λ m x. only_if (t x && (x.area == n)) (piece_part m x)) xs
  numbered_from n t k [] at = refl
  numbered_from n t k (x ∷ xs) at =
      let here : k + zero ≡ k = omega arith in
      let first : get_or g.pieces k no_piece ≡ x = rw here at (at zero x (omega arith)) in
      let rest = numbered_from n t (suc k) xs (λ j d l. let next : k + suc j ≡ suc k + j = omega arith in rw next at (at (suc j) d (omega (arith, l)))) in
      elim (cases_Bool (t x)) [
        | inl a ↦ rw (a, first) (ap (λ l. only_if (x.area == n) (piece_part k x) ++ l) rest)
        | inr a ↦ rw a rest
      ]

  -- of the numbers that pass a test
  numbered_passing : (n : ℕ) (t : Piece → Bool) → numbered_parts g n (piece_numbers g t) ≡ piece_parts g (λ x. t x && (x.area == n))
  numbered_passing n t = numbered_from n t 0 g.pieces (λ j d l. let here : 0 + j ≡ j = omega arith in rw here (get_or_default g.pieces j no_piece d l))

  -- the pieces of an input in an area, where they stand by the sequence
  abbrev pub sequence_parts : ℕ → ℕ → List LinePart
  sequence_parts n i = piece_parts g (λ x. (is_of_input i x.id && is_by_input x.area) && (x.area == n))

  -- of the numbers of inputs in turn
  pub inputs_joined : (n : ℕ) (is : List ℕ) → parts_of_inputs g n is ≡ flat_map (sequence_parts n) is
  inputs_joined n [] = refl
  inputs_joined n (i ∷ is) =
      flat_map-append (numbered_part g n) (numbers_of g i) (flat_map (numbers_of g) is)
      ∙ rw (numbered_passing n (λ x. is_of_input i x.id && is_by_input x.area), inputs_joined n is) refl

  -- they are numbers of pieces
  pub numbers_known : (i : ℕ) → All (λ m. m < length g.pieces) (numbers_of g i)
  numbers_known i = each-all (λ m. m < length g.pieces) 0 (λ m (x : Piece). only_if (is_of_input i x.id && is_by_input x.area) m) g.pieces
      (λ k d l. all-only_if (λ m. m < length g.pieces) (is_of_input i (get_or g.pieces k d).id && is_by_input (get_or g.pieces k d).area) (0 + k) (λ t. omega (arith, l)))

  -- what stands by the sequence, from the head inputs and those behind
  pub sequence_split : (order : List ℕ) (between : List LinePart) (f : ℕ → List LinePart)
      → sequence g order between f ≡ flat_map f (inputs_in g Head) ++ (between ++ flat_map f (later_inputs g order))
  sequence_split order between f =
      ap (λ (l : List LinePart). flat_map f (inputs_in g Head) ++ (between ++ l))
      (sym (flat_map-append f _ (inputs_in g Tail)
      ∙ ap (λ (l : List LinePart). l ++ flat_map f (inputs_in g Tail)) (flat_map-map f (slice_index (inputs_in g Drawn)) order)))

module _ (kit : Kit) (g : Graph) (sound : All (IsSoundPiece kit g) g.pieces) where
  -- an area whose pieces are of one class, and stand by the sequence
  pub of_area : (c : Class) (n : ℕ) → is_by_input n ≡ true → ((x : Piece) → IsSoundPiece kit g x → x.area ≡ n → same_class x.class c ≡ true) → (is : List ℕ)
      → parts_of_inputs g n is ≡ flat_map (of_input g c n) is
  of_area c n t own is = inputs_joined g n is ∙ joined-same (sequence_parts g n) (of_input g c n) is (all_of _ same is)
    where
      go : (i : ℕ) (x : Piece) → IsSoundPiece kit g x → ((is_of_input i x.id && is_by_input x.area) && (x.area == n)) ≡ (is_of_input i x.id && (same_class x.class c && (x.area == n)))
      go i x s = elim (cases_Bool (x.area == n)) [
        | inr a ↦ rw a (both (is_of_input i x.id) (is_by_input x.area) (same_class x.class c))
        | inl a ↦
            let e = eqb-true x.area n a in
            let b = own x s e in
            let by : is_by_input x.area ≡ true = subst (λ (m : ℕ). is_by_input m ≡ true) (sym e) t in
            rw (a, b, by) (one (is_of_input i x.id))
      ]
        where
          both : (p q r : Bool) → ((p && q) && false) ≡ (p && (r && false))
          both true true true = refl
          both true true false = refl
          both true false true = refl
          both true false false = refl
          both false q r = refl

          one : (p : Bool) → ((p && true) && true) ≡ (p && (true && true))
          one true = refl
          one false = refl

      same : (i : ℕ) → sequence_parts g n i ≡ of_input g c n i
      same i = passing-members piece_part (λ x. (is_of_input i x.id && is_by_input x.area) && (x.area == n)) (λ x. is_of_input i x.id && (same_class x.class c && (x.area == n))) 0 g.pieces
          (λ m d l. go i (get_or g.pieces m d) (sound m d l))

  -- an area that no piece has that stands by the sequence
  pub of_no_area : (n : ℕ) → ((x : Piece) → IsSoundPiece kit g x → is_by_input x.area ≡ true → (x.area == n) ≡ false) → (is : List ℕ) → parts_of_inputs g n is ≡ []
  of_no_area n none is = inputs_joined g n is ∙ all_none is
    where
      fails : (i : ℕ) (x : Piece) → IsSoundPiece kit g x → ((is_of_input i x.id && is_by_input x.area) && (x.area == n)) ≡ false
      fails i x s = elim (cases_Bool (is_by_input x.area)) [
        | inl a ↦ (let b = none x s a in rw b (last (is_of_input i x.id && is_by_input x.area)))
        | inr a ↦ rw a (first (is_of_input i x.id) (x.area == n))
      ]
        where
          last : (p : Bool) → (p && false) ≡ false
          last true = refl
          last false = refl

          first : (p q : Bool) → ((p && false) && q) ≡ false
          first true q = refl
          first false q = refl

      empty_from : (i k : ℕ) (xs : List Piece) → All (IsSoundPiece kit g) xs
          → each_from k (λ m x. only_if ((is_of_input i x.id && is_by_input x.area) && (x.area == n)) (piece_part m x)) xs ≡ []
      empty_from i k [] h = refl
      empty_from i k (x ∷ xs) h = rw (fails i x (h 0 x (omega arith))) (empty_from i (suc k) xs (λ j d l. h (suc j) d (omega (arith, l))))

      all_none : (is : List ℕ) → flat_map (sequence_parts g n) is ≡ []
      all_none [] = refl
      all_none (i ∷ is) = rw (empty_from i 0 g.pieces sound) (all_none is)
