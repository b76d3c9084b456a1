-- A placement that is laid out, of a sound graph: its classes, and that its parts are aligned and apart.
use Rattle.std.proofs.Common.{ℕ, zero, suc, ◌≡◌, ◌+◌, ◌<◌, ◌≤◌, ◌∙◌, List, [], ◌∷◌, ◌++◌, length, get_or, refl, arith, not}
use Rattle.std.specs.Prelude.{Some, None, Option, flat_map, ◌==◌, All, AllPairs}
use Rattle.std.proofs.lemmas.List.Elements.{All-append}
use Rattle.kl_model.specs.Areas.{class_number}
use Rattle.kl_model.specs.Line.{classes, every_part, gap_parts, made_parts, piece_part}
use Rattle.kl_model.specs.Lists.{each, each_from}
use Rattle.kl_model.proofs.Covered.{In, here, there}
use Rattle.kl_model.proofs.Each.{pairs-append, pairs-only_if, all-only_if}
use Rattle.kl_model.specs.declared.place.Body.{Body}
use Rattle.kl_model.specs.declared.place.Body.TheVariants as body
use Rattle.kl_model.specs.declared.place.LinePart.{LinePart}
use Rattle.kl_model.specs.declared.place.Gaps.{Gaps}
use Rattle.kl_model.specs.declared.place.Made.{Made}
use Rattle.kl_model.specs.declared.graph.Piece.{Piece}
use Rattle.kl_model.specs.declared.graph.Graph.{Graph}

-- what holds of all parts holds of those that stand in a list
pub all_of_in : {X : Type 0} (P : X → Type 0) (xs : List X) → ((x : X) → In x xs → P x) → All P xs
all_of_in P [] h k d l = absurd (omega arith)
all_of_in P (x ∷ xs) h zero d l = h x here
all_of_in P (x ∷ xs) h (suc k) d l = all_of_in P xs (λ y i. h y (there i)) k d (omega (arith, l))

-- the number of a body among n pieces, gaps and areas
abbrev pub code : ℕ → Body → ℕ
code n (body.Piece k) = k
code n (body.Gap c) = n + class_number c
code n (body.Area k) = n + 4 + k

abbrev pub Before : ℕ → LinePart → LinePart → Type 0
Before n x y = code n x.body < code n y.body

abbrev IsOne : ℕ → ℕ → ℕ → LinePart → Type 0
IsOne n from to x = (from ≤ code n x.body) × (code n x.body < to)

ascend : (n a b : ℕ) (xs ys : List LinePart) → All (IsOne n 0 a) xs → All (IsOne n a b) ys → All (λ x. All (Before n x) ys) xs
ascend n a b xs ys h l i d p j e q =
    let one = h i d p in let two = l j e q in omega (arith, one.1, two.0)

widen : (n a b c d : ℕ) (xs : List LinePart) → c ≤ a → b ≤ d → All (IsOne n a b) xs → All (IsOne n c d) xs
widen n a b c d xs l m h i e p = let one = h i e p in (omega (arith, one.0, l), omega (arith, one.1, m))

only_one : (P : LinePart → Type 0) (x : LinePart) → P x → All P (x ∷ [])
only_one P x h zero d l = h
only_one P x h (suc k) d l = absurd (omega arith)

module _ (n : ℕ) where
  ones_append : (a b : ℕ) (xs ys : List LinePart) → All (IsOne n a b) xs → All (IsOne n a b) ys → All (IsOne n a b) (xs ++ ys)
  ones_append a b xs ys h l = All-append (IsOne n a b) xs ys h l

  -- lists of ascending bodies, one behind another
  join : (a b : ℕ) (xs ys : List LinePart) → a ≤ b → All (IsOne n 0 a) xs → All (IsOne n a b) ys → AllPairs (Before n) xs → AllPairs (Before n) ys
      → AllPairs (Before n) (xs ++ ys)
  join a b xs ys o h l p q = pairs-append (Before n) xs ys p q (ascend n a b xs ys h l)

  pieces_ones : (k : ℕ) (xs : List Piece) → k + length xs ≤ n → All (IsOne n 0 n) (each_from k (λ k x. piece_part k x ∷ []) xs)
  pieces_ones k [] h i d l = absurd (omega arith)
  pieces_ones k (x ∷ xs) h zero d l = (omega arith, omega (arith, h))
  pieces_ones k (x ∷ xs) h (suc i) d l = pieces_ones (suc k) xs (omega (arith, h)) i d (omega (arith, l))

  pieces_from : (k : ℕ) (xs : List Piece) (i : ℕ) (d : LinePart) → i < length (each_from k (λ k x. piece_part k x ∷ []) xs)
      → code n (get_or (each_from k (λ k x. piece_part k x ∷ []) xs) i d).body ≡ k + i
  pieces_from k [] i d l = absurd (omega arith)
  pieces_from k (x ∷ xs) zero d l = omega arith
  pieces_from k (x ∷ xs) (suc i) d l = pieces_from (suc k) xs i d (omega (arith, l)) ∙ omega arith

  pieces_pairs : (xs : List Piece) → AllPairs (Before n) (each_from 0 (λ k x. piece_part k x ∷ []) xs)
  pieces_pairs xs i j d h l = omega (arith, h, pieces_from 0 xs i d (omega (arith, h, l)), pieces_from 0 xs j d l)

  gap_ones : (z : Option Gaps) → All (IsOne n n (n + 4)) (flat_map (gap_parts z) classes)
  gap_ones None = λ i d l. absurd (omega arith)
  gap_ones (Some z) = all_of_in (IsOne n n (n + 4)) (flat_map (gap_parts (Some z)) classes) (λ x i. go x i)
    where
      go : (x : LinePart) → In x (flat_map (gap_parts (Some z)) classes) → IsOne n n (n + 4) x
      go x here = (omega arith, omega arith)
      go x (there here) = (omega arith, omega arith)
      go x (there (there here)) = (omega arith, omega arith)
      go x (there (there (there here))) = (omega arith, omega arith)
      go x (there (there (there (there i)))) = elim i [ ]

  gap_code : (z : Gaps) (i : ℕ) (d : LinePart) → i < 4 → code n (get_or (flat_map (gap_parts (Some z)) classes) i d).body ≡ n + i
  gap_code z zero d l = refl
  gap_code z (suc zero) d l = refl
  gap_code z (suc (suc zero)) d l = refl
  gap_code z (suc (suc (suc zero))) d l = refl
  gap_code z (suc (suc (suc (suc i)))) d l = absurd (omega (arith, l))

  gap_pairs : (z : Option Gaps) → AllPairs (Before n) (flat_map (gap_parts z) classes)
  gap_pairs None = λ i j d h l. absurd (omega arith)
  gap_pairs (Some z) = λ i j d h l. omega (arith, h, gap_code z i d (omega (arith, h, l)), gap_code z j d (omega (arith, l)))

  made_ones : (k size align : ℕ) → All (IsOne n (n + 4 + k) (n + 5 + k)) (made_parts k size align)
  made_ones k size align = all-only_if (IsOne n (n + 4 + k) (n + 5 + k)) (not (size == 0)) (record { body = body.Area k; size = size; align = align }) (λ e. (omega arith, omega arith))

  made_pairs : (k size align : ℕ) → AllPairs (Before n) (made_parts k size align)
  made_pairs k size align = pairs-only_if (Before n) (not (size == 0)) (record { body = body.Area k; size = size; align = align })

  abbrev made_list : Made → List LinePart
  made_list made = made_parts 6 made.stubs 16 ++ (made_parts 8 made.tables 8 ++ (made_parts 13 made.got 8 ++ made_parts 14 made.dynamic 8))

  last_two : (made : Made) → AllPairs (Before n) (made_parts 13 made.got 8 ++ made_parts 14 made.dynamic 8)
  last_two made =
      join (n + 18) (n + 19) (made_parts 13 made.got 8) (made_parts 14 made.dynamic 8) (omega arith)
      (widen n (n + 4 + 13) (n + 5 + 13) 0 (n + 18) (made_parts 13 made.got 8) (omega arith) (omega arith) (made_ones 13 made.got 8))
      (widen n (n + 4 + 14) (n + 5 + 14) (n + 18) (n + 19) (made_parts 14 made.dynamic 8) (omega arith) (omega arith) (made_ones 14 made.dynamic 8))
      (made_pairs 13 made.got 8) (made_pairs 14 made.dynamic 8)

  two_ones : (made : Made) → All (IsOne n (n + 13) (n + 19)) (made_parts 13 made.got 8 ++ made_parts 14 made.dynamic 8)
  two_ones made =
      ones_append (n + 13) (n + 19) (made_parts 13 made.got 8) (made_parts 14 made.dynamic 8)
      (widen n (n + 4 + 13) (n + 5 + 13) (n + 13) (n + 19) (made_parts 13 made.got 8) (omega arith) (omega arith) (made_ones 13 made.got 8))
      (widen n (n + 4 + 14) (n + 5 + 14) (n + 13) (n + 19) (made_parts 14 made.dynamic 8) (omega arith) (omega arith) (made_ones 14 made.dynamic 8))

  last_three : (made : Made) → AllPairs (Before n) (made_parts 8 made.tables 8 ++ (made_parts 13 made.got 8 ++ made_parts 14 made.dynamic 8))
  last_three made =
      join (n + 13) (n + 19) (made_parts 8 made.tables 8) (made_parts 13 made.got 8 ++ made_parts 14 made.dynamic 8) (omega arith)
      (widen n (n + 4 + 8) (n + 5 + 8) 0 (n + 13) (made_parts 8 made.tables 8) (omega arith) (omega arith) (made_ones 8 made.tables 8))
      (two_ones made) (made_pairs 8 made.tables 8) (last_two made)

  three_ones : (made : Made) → All (IsOne n (n + 11) (n + 19)) (made_parts 8 made.tables 8 ++ (made_parts 13 made.got 8 ++ made_parts 14 made.dynamic 8))
  three_ones made =
      ones_append (n + 11) (n + 19) (made_parts 8 made.tables 8) (made_parts 13 made.got 8 ++ made_parts 14 made.dynamic 8)
      (widen n (n + 4 + 8) (n + 5 + 8) (n + 11) (n + 19) (made_parts 8 made.tables 8) (omega arith) (omega arith) (made_ones 8 made.tables 8))
      (widen n (n + 13) (n + 19) (n + 11) (n + 19) (made_parts 13 made.got 8 ++ made_parts 14 made.dynamic 8) (omega arith) (omega arith) (two_ones made))

  last_four : (made : Made) → AllPairs (Before n) (made_list made)
  last_four made =
      join (n + 11) (n + 19) (made_parts 6 made.stubs 16) (made_parts 8 made.tables 8 ++ (made_parts 13 made.got 8 ++ made_parts 14 made.dynamic 8)) (omega arith)
      (widen n (n + 4 + 6) (n + 5 + 6) 0 (n + 11) (made_parts 6 made.stubs 16) (omega arith) (omega arith) (made_ones 6 made.stubs 16))
      (three_ones made) (made_pairs 6 made.stubs 16) (last_three made)

  four_ones : (made : Made) → All (IsOne n (n + 4) (n + 19)) (made_list made)
  four_ones made =
      ones_append (n + 4) (n + 19) (made_parts 6 made.stubs 16) (made_parts 8 made.tables 8 ++ (made_parts 13 made.got 8 ++ made_parts 14 made.dynamic 8))
      (widen n (n + 4 + 6) (n + 5 + 6) (n + 4) (n + 19) (made_parts 6 made.stubs 16) (omega arith) (omega arith) (made_ones 6 made.stubs 16))
      (widen n (n + 11) (n + 19) (n + 4) (n + 19) (made_parts 8 made.tables 8 ++ (made_parts 13 made.got 8 ++ made_parts 14 made.dynamic 8)) (omega arith) (omega arith) (three_ones made))

  behind_pieces : (z : Option Gaps) (made : Made) → AllPairs (Before n) (flat_map (gap_parts z) classes ++ made_list made)
  behind_pieces z made =
      join (n + 4) (n + 19) (flat_map (gap_parts z) classes) (made_list made) (omega arith)
      (widen n n (n + 4) 0 (n + 4) (flat_map (gap_parts z) classes) (omega arith) (omega arith) (gap_ones z))
      (four_ones made) (gap_pairs z) (last_four made)

  behind_ones : (z : Option Gaps) (made : Made) → All (IsOne n n (n + 19)) (flat_map (gap_parts z) classes ++ made_list made)
  behind_ones z made =
      ones_append n (n + 19) (flat_map (gap_parts z) classes) (made_list made)
      (widen n n (n + 4) n (n + 19) (flat_map (gap_parts z) classes) (omega arith) (omega arith) (gap_ones z))
      (widen n (n + 4) (n + 19) n (n + 19) (made_list made) (omega arith) (omega arith) (four_ones made))

-- the bodies of all parts ascend by their numbers, so none comes twice
pub bodies_ascend : (g : Graph) (gaps : Option Gaps) (made : Made) → AllPairs (Before (length g.pieces)) (every_part g gaps made)
bodies_ascend g gaps made =
    let n = length g.pieces in
    join n n (n + 19) (each g.pieces (λ k x. piece_part k x ∷ [])) (flat_map (gap_parts gaps) classes ++ made_list n made) (omega arith)
    (pieces_ones n 0 g.pieces (omega arith)) (behind_ones n gaps made) (pieces_pairs n g.pieces) (behind_pieces n gaps made)
