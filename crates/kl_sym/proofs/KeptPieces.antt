-- The pieces of kept sections: where each stands, and what holds of all.
use Rattle.std.proofs.Common.{ℕ, zero, suc, ◌≡◌, ◌+◌, ◌^◌, ◌<◌, ◌≤◌, ◌∙◌, List, [], ◌∷◌, ◌++◌, length, get_or, take, drop, refl, ap, sym, arith, true, false, inl, inr, append_assoc, length-append, max}
use Rattle.std.specs.Prelude.{All}
use Rattle.std.proofs.lemmas.Bool.{cases_lt}
use Rattle.std.proofs.lemmas.List.{get_or-append-add, get_or_default, get_or_past}
use Rattle.std.proofs.lemmas.Nat.{pow_pos}
use Rattle.std.proofs.Math.Nat.{max-eq_left}
use Rattle.kl_base.proofs.Bools.{and_left}
use Rattle.kl_model.specs.Lists.{each, each_from}
use Rattle.kl_model.specs.Texts.{has}
use Rattle.kl_model.specs.Kept.{is_kept, input_at, no_input, no_section, section_at}
use Rattle.kl_model.specs.Names.{piece_number}
use Rattle.kl_model.specs.Graphs.{section_piece, input_pieces, section_pieces, piece_of}
use Rattle.kl_model.specs.Carries.{no_piece}
use Rattle.kl_model.specs.Fit.{IsAlignment}
use Rattle.kl_model.specs.declared.object.Input.{Input}
use Rattle.kl_model.specs.declared.kit.Kit.{Kit}
use Rattle.kl_model.specs.declared.graph.Piece.{Piece}
use Rattle.kl_model.specs.declared.graph.PieceId.TheVariants as id
use Rattle.kl_model.proofs.Each.{each-split, each-all, all-only_if}
use Rattle.kl_sym.proofs.PieceNumbers.{number_is}

-- a section that stands in an input
module _ (kit : Kit) (inputs : List Input) where
  -- a piece of a kept section stands at its number
  module _ (i k : ℕ) (h : i < length inputs) (l : k < length (input_at inputs i).object.sections) (kept : is_kept kit inputs i (suc k) ≡ true) where
    abbrev pub own : Piece
    own = piece_of kit i (input_at inputs i) (suc k) (get_or (input_at inputs i).object.sections k no_section)

    rest : List Piece
    rest = each_from (suc (suc k)) (section_piece kit inputs i (input_at inputs i)) (drop (suc k) (input_at inputs i).object.sections) ++ each_from (suc i) (input_pieces kit inputs) (drop (suc i) inputs)

    split : section_pieces kit inputs
        ≡ (each (take i inputs) (input_pieces kit inputs) ++ each_from 1 (section_piece kit inputs i (input_at inputs i)) (take k (input_at inputs i).object.sections)) ++ own ∷ rest
    unfolding rest
    split =
        let x = input_at inputs i in
        let f = section_piece kit inputs i x in
        let zero_i : 0 + i ≡ i = omega arith in
        let one_k : 1 + k ≡ suc k = omega arith in
        let others = each_from (suc i) (input_pieces kit inputs) (drop (suc i) inputs) in
        let after = each_from (suc (suc k)) f (drop (suc k) x.object.sections) in
        let first = each (take i inputs) (input_pieces kit inputs) in
        let second = each_from 1 f (take k x.object.sections) in
        let outer : section_pieces kit inputs ≡ first ++ (input_pieces kit inputs i x ++ others) = rw zero_i at (each-split 0 (input_pieces kit inputs) inputs i no_input h) in
        let inner : input_pieces kit inputs i x ≡ second ++ (f (suc k) (get_or x.object.sections k no_section) ++ after) = rw one_k at (each-split 1 f x.object.sections k no_section l) in
        let here : f (suc k) (get_or x.object.sections k no_section) ≡ own ∷ [] = rw kept refl in
        outer ∙ (ap (λ l. first ++ (l ++ others)) (inner ∙ ap (λ l. second ++ (l ++ after)) here)
        ∙ (ap (λ l. first ++ l) (append_assoc second (own ∷ after) others) ∙ sym (append_assoc first second (own ∷ (after ++ others)))))

    pub piece_there : (d : Piece) → get_or (section_pieces kit inputs) (piece_number kit inputs i (suc k)) d ≡ own
    piece_there d =
        let first = each (take i inputs) (input_pieces kit inputs) in
        let second = each_from 1 (section_piece kit inputs i (input_at inputs i)) (take k (input_at inputs i).object.sections) in
        let long : length (first ++ second) + 0 ≡ piece_number kit inputs i (suc k) =
        (let a = length-append first second in let n = number_is kit inputs i k h l kept in omega arith) in
        ap (λ xs. get_or xs (piece_number kit inputs i (suc k)) d) split
        ∙ (ap (λ n. get_or ((first ++ second) ++ own ∷ rest) n d) (sym long) ∙ get_or-append-add (first ++ second) (own ∷ rest) 0 d)

    pub number-lt : piece_number kit inputs i (suc k) < length (section_pieces kit inputs)
    number-lt =
        let first = each (take i inputs) (input_pieces kit inputs) in
        let second = each_from 1 (section_piece kit inputs i (input_at inputs i)) (take k (input_at inputs i).object.sections) in
        let a = length-append first second in let b = length-append (first ++ second) (own ∷ rest) in let n = number_is kit inputs i k h l kept in
        let whole = ap length split in
        omega arith

  -- what holds of the piece of each kept section holds of all pieces
  pub all_pieces : (P : Piece → Type 0)
      → ((i k : ℕ) (h : i < length inputs) (l : k < length (input_at inputs i).object.sections) (kept : is_kept kit inputs i (suc k) ≡ true) → P (own i k h l kept))
      → All P (section_pieces kit inputs)
  all_pieces P holds =
      each-all P 0 (input_pieces kit inputs) inputs (λ i d h.
      let x : get_or inputs i d ≡ input_at inputs i = get_or_default inputs i d no_input h in
      let z : 0 + i ≡ i = omega arith in
      rw (x, z) (each-all P 1 (section_piece kit inputs i (input_at inputs i)) (input_at inputs i).object.sections (λ k e l.
      let y : get_or (input_at inputs i).object.sections k e ≡ get_or (input_at inputs i).object.sections k no_section = get_or_default (input_at inputs i).object.sections k e no_section l in
      let s : 1 + k ≡ suc k = omega arith in
      rw (y, s) (all-only_if P (is_kept kit inputs i (suc k)) _ (λ kept. holds i k h l kept)))))

-- an alignment, or 1 for 0
pub align_is : (n : ℕ) → IsAlignment n → (k : ℕ) × (k ≤ 21) × (max n 1 ≡ 2 ^ k)
align_is n (inl z) = (0, omega arith, rw z refl)
align_is n (inr (k, l, e)) = (k, l, rw e (max-eq_left (let p = pow_pos k in omega arith)))

no_section_unmarked : has no_section.flags 2 ≡ false
no_section_unmarked = refl

-- a kept section is one of an input
pub kept_known : (kit : Kit) (inputs : List Input) (i s : ℕ) → is_kept kit inputs i s ≡ true → (i < length inputs) × ((k : ℕ) × (s ≡ suc k) × (k < length (input_at inputs i).object.sections))
kept_known kit inputs i zero e = cc
kept_known kit inputs i (suc k) e =
    let marked = and_left (has (section_at inputs i (suc k)).flags 2) _ e in
    elim (cases_lt k (length (input_at inputs i).object.sections)) [
      | inl l ↦ elim (cases_lt i (length inputs)) [
        | inl h ↦ (h, (k, refl, l))
        | inr h ↦
            let past : input_at inputs i ≡ no_input = get_or_past inputs i no_input h in
            let none : length (input_at inputs i).object.sections ≡ 0 = rw past refl in
            absurd (omega arith)
      ]
      | inr l ↦
          let past : section_at inputs i (suc k) ≡ no_section = get_or_past (input_at inputs i).object.sections k no_section l in
          let no_mark = rw past at marked in cc
    ]

module _ (kit : Kit) (inputs : List Input) where
  -- pieces of one number are one piece
  pub same_piece : (i s j t : ℕ) → is_kept kit inputs i s ≡ true → is_kept kit inputs j t ≡ true → piece_number kit inputs i s ≡ piece_number kit inputs j t → (i ≡ j) × (s ≡ t)
  same_piece i s j t a b e =
      let one = kept_known kit inputs i s a in
      let two = kept_known kit inputs j t b in
      let first = piece_there kit inputs i one.1.0 one.0 one.1.2 (rw one.1.1 at a) no_piece in
      let second = piece_there kit inputs j two.1.0 two.0 two.1.2 (rw two.1.1 at b) no_piece in
      let numbers : piece_number kit inputs i (suc one.1.0) ≡ piece_number kit inputs j (suc two.1.0) = rw (← one.1.1, ← two.1.1) e in
      let same = ap (λ (x : Piece). x.id) (sym first ∙ (ap (λ n. get_or (section_pieces kit inputs) n no_piece) numbers ∙ second)) in
      let ids : id.Section i (suc one.1.0) ≡ id.Section j (suc two.1.0) = same in
      let inputs_same : i ≡ j = cc in
      let sections_same : suc one.1.0 ≡ suc two.1.0 = cc in
      (inputs_same, one.1.1 ∙ (sections_same ∙ sym two.1.1))
