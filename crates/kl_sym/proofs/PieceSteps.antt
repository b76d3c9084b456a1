-- One section more: its piece and the entry of its number.
use Rattle.std.proofs.Common.{ℕ, zero, suc, ◌≡◌, ◌+◌, ◌<◌, ◌∙◌, List, [], ◌∷◌, ◌++◌, length, get_or, take, ap, refl, arith, Bool, true, false}
use Rattle.std.proofs.lemmas.List.{append-nil}
use Rattle.std.specs.Prelude.{Some, None, Option}
use Rattle.kl_model.specs.Lists.{each_from}
use Rattle.kl_model.specs.Kept.{is_kept, is_repeated, input_at, no_section}
use Rattle.kl_model.specs.Names.{piece_number}
use Rattle.kl_model.specs.Graphs.{section_piece, piece_of}
use Rattle.kl_model.specs.declared.object.Section.{Section}
use Rattle.kl_model.specs.declared.object.Input.{Input}
use Rattle.kl_model.specs.declared.kit.Kit.{Kit}
use Rattle.kl_model.specs.declared.graph.Piece.{Piece}
use Rattle.kl_model.proofs.Each.{each_from_more}
use Rattle.kl_names.specs.Removed.{repeated_table, repeated_tables}
use Rattle.kl_names.specs.Tables.{piece_entry}
use Rattle.kl_sym.proofs.PieceNumbers.{before, number_is}

abbrev entries : Kit → List Input → ℕ → ℕ → Section → List (Option ℕ)
entries kit inputs i s y = piece_entry kit inputs i s ∷ []

module _ (kit : Kit) (inputs : List Input) (i k : ℕ) (h : i < length inputs) (l : k < length (input_at inputs i).object.sections) where
  abbrev pub x : Input
  x = input_at inputs i

  abbrev pub y : Section
  y = get_or x.object.sections k no_section

  abbrev pub pieces_to : ℕ → List Piece
  pieces_to n = each_from 1 (section_piece kit inputs i x) (take n x.object.sections)

  abbrev pub entries_to : ℕ → List (Option ℕ)
  entries_to n = each_from 1 (entries kit inputs i) (take n x.object.sections)

  abbrev pub kept : Bool
  kept = is_kept kit inputs i (suc k)

  kept_here : is_kept kit inputs i (k + 1) ≡ kept
  kept_here = let e : k + 1 ≡ suc k = omega arith in rw e refl

  more_pieces : pieces_to (k + 1) ≡ pieces_to k ++ section_piece kit inputs i x (k + 1) y
  more_pieces = let e : 1 + k ≡ k + 1 = omega arith in rw e at (each_from_more 1 (section_piece kit inputs i x) x.object.sections k no_section l)

  more_entries : entries_to (k + 1) ≡ entries_to k ++ entries kit inputs i (k + 1) y
  more_entries = let e : 1 + k ≡ k + 1 = omega arith in rw e at (each_from_more 1 (entries kit inputs i) x.object.sections k no_section l)

  pub piece-kept : kept ≡ true → pieces_to (k + 1) ≡ pieces_to k ++ piece_of kit i x (k + 1) y ∷ []
  piece-kept m = more_pieces ∙ rw (kept_here, m) refl

  pub entry-kept : kept ≡ true → entries_to (k + 1) ≡ entries_to k ++ Some (before kit inputs i k) ∷ []
  entry-kept m =
      let e : k + 1 ≡ suc k = omega arith in
      let number : piece_number kit inputs i (k + 1) ≡ before kit inputs i k = rw e (number_is kit inputs i k h l (rw e at (kept_here ∙ m))) in
      more_entries ∙ rw (kept_here, m, number) refl

  pub piece-other : kept ≡ false → pieces_to (k + 1) ≡ pieces_to k
  piece-other m = more_pieces ∙ (rw (kept_here, m) (append-nil _))

  pub entry-other : kept ≡ false → entries_to (k + 1) ≡ entries_to k ++ None ∷ []
  entry-other m = more_entries ∙ rw (kept_here, m) refl

-- what stands for an item by its place alone
pub each-mark : {X Y : Type 0} (f : ℕ → Y) (n : ℕ) (ys : List X) (k : ℕ) (d : Y) → k < length ys → get_or (each_from n (λ s y. f s ∷ []) ys) k d ≡ f (n + k)
each-mark f n [] k d h = absurd (omega arith)
each-mark f n (y ∷ ys) zero d h = let z : n + 0 ≡ n = omega arith in rw z refl
each-mark f n (y ∷ ys) (suc k) d h = let z : suc n + k ≡ n + suc k = omega arith in each-mark f (suc n) ys k d (omega arith) ∙ rw z refl

pub length-marks : {X Y : Type 0} (f : ℕ → Y) (n : ℕ) (ys : List X) → length (each_from n (λ s y. f s ∷ []) ys) ≡ length ys
length-marks f n [] = refl
length-marks f n (y ∷ ys) = ap suc (length-marks f (suc n) ys)

pub removed_at : (inputs : List Input) (i k : ℕ) (d : Bool) → k < length (input_at inputs i).object.sections → get_or (repeated_table inputs i) (k + 1) d ≡ is_repeated inputs i (suc k)
removed_at inputs i k d h =
    let e : k + 1 ≡ suc k = omega arith in
    let z : 0 + suc k ≡ suc k = omega arith in
    rw e (rw z at (each-mark (is_repeated inputs i) 0 (no_section ∷ (input_at inputs i).object.sections) (suc k) d (omega (arith, h))))

pub table_there : (inputs : List Input) (i : ℕ) (d : List Bool) → i < length inputs → get_or (repeated_tables inputs) i d ≡ repeated_table inputs i
table_there inputs i d h = let z : 0 + i ≡ i = omega arith in rw z at (each-mark (repeated_table inputs) 0 inputs i d h)

pub length-tables : (inputs : List Input) → length (repeated_tables inputs) ≡ length inputs
length-tables inputs = length-marks (repeated_table inputs) 0 inputs
