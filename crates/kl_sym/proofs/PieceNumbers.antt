-- The number of the piece of a kept section: as many pieces stand before it.
use Rattle.std.proofs.Common.{ℕ, zero, suc, ◌≡◌, ◌+◌, ◌<◌, ◌≤◌, ◌∙◌, List, [], ◌∷◌, ◌++◌, length, get_or, take, drop, append_assoc, refl, arith, Bool, true, false, ◌&&◌, inl, inr, nat_eq, eq-eqb}
use Rattle.std.specs.Prelude.{Some, None, ◌==◌, sum_by}
use Rattle.std.specs.Option.{option_or}
use Rattle.std.specs.List.{position_from}
use Rattle.std.proofs.lemmas.Bool.{cases_Bool, ne_eqb}
use Rattle.std.proofs.lemmas.List.{length-take}
use Rattle.std.proofs.lemmas.List.Sums.{sum_by_more_le, sum_by-cons}
use Rattle.kl_model.specs.Lists.{each, each_from, only_if}
use Rattle.kl_model.specs.Kept.{is_kept, input_at, no_input, no_section}
use Rattle.kl_model.specs.Names.{kept_numbers, piece_number}
use Rattle.kl_model.specs.Graphs.{section_piece, input_pieces, piece_of}
use Rattle.kl_model.specs.declared.object.Section.{Section}
use Rattle.kl_model.specs.declared.object.Input.{Input}
use Rattle.kl_model.specs.declared.kit.Kit.{Kit}
use Rattle.kl_model.proofs.Each.{each-split, each-length, length-each-le}

pub position-append : {X : Type 0} (t : X → Bool) (n : ℕ) (xs ys : List X) → position_from t n (xs ++ ys) ≡ option_or (position_from t n xs) (position_from t (n + length xs) ys)
position-append t n [] ys = let e : n + zero ≡ n = omega arith in rw e refl
position-append t n (x ∷ xs) ys =
    let e : n + suc (length xs) ≡ n + 1 + length xs = omega arith in
    elim (cases_Bool (t x)) [ inl h ↦ rw h refl | inr h ↦ rw (h, e) (position-append t (n + 1) xs ys) ]

position-after : {X : Type 0} (t : X → Bool) (n : ℕ) (xs ys : List X) → position_from t n xs ≡ None → position_from t n (xs ++ ys) ≡ position_from t (n + length xs) ys
position-after t n xs ys none = position-append t n xs ys ∙ rw none refl

length-only_if : {X Y : Type 0} (b : Bool) (x : X) (y : Y) → length (only_if b x) ≡ length (only_if b y)
length-only_if true x y = refl
length-only_if false x y = refl

pub only_if-le : {X : Type 0} (b : Bool) (x : X) → length (only_if b x) ≤ 1
only_if-le true x = omega arith
only_if-le false x = omega arith

pub sum_by-ones : (ys : List Section) → sum_by (λ y. 1) ys ≡ length ys
sum_by-ones [] = refl
sum_by-ones (y ∷ ys) = omega (arith, sum_by-cons (λ y. 1) y ys, sum_by-ones ys)

-- the test of one section
abbrev is_it : ℕ → ℕ → ℕ × ℕ → Bool
is_it i s p = (p.0 == i) && (p.1 == s)

miss : (i s j k : ℕ) (b : Bool) (m : ℕ) → is_it i s (j, k) ≡ false → position_from (is_it i s) m (only_if b (j, k)) ≡ None
miss i s j k true m h = rw h refl
miss i s j k false m h = refl

module _ (kit : Kit) (inputs : List Input) where
  -- the kept sections of an input, as pairs
  abbrev pub kept_of : ℕ → ℕ → Section → List (ℕ × ℕ)
  kept_of j s y = only_if (is_kept kit inputs j s) (j, s)

  abbrev pub kept_in : ℕ → Input → List (ℕ × ℕ)
  kept_in j x = each_from 1 (kept_of j) x.object.sections

  -- another input has none of an input's sections
  miss_input : (i s j : ℕ) (a m : ℕ) (ys : List Section) → nat_eq j i ≡ false → position_from (is_it i s) m (each_from a (kept_of j) ys) ≡ None
  miss_input i s j a m [] h = refl
  miss_input i s j a m (y ∷ ys) h =
      position-after (is_it i s) m (only_if (is_kept kit inputs j a) (j, a)) _ (miss i s j a (is_kept kit inputs j a) m (rw h refl))
      ∙ miss_input i s j (suc a) (m + length (only_if (is_kept kit inputs j a) (j, a))) ys h

  miss_inputs : (i s j m : ℕ) (xs : List Input) → j + length xs ≤ i
      → position_from (is_it i s) m (each_from j kept_in xs) ≡ None
  miss_inputs i s j m [] h = refl
  miss_inputs i s j m (x ∷ xs) h =
      let other : nat_eq j i ≡ false = ne_eqb j i (λ e. omega arith) in
      position-after (is_it i s) m (kept_in j x) _ (miss_input i s j 1 m x.object.sections other)
      ∙ miss_inputs i s (suc j) (m + length (kept_in j x)) xs (omega arith)

  -- nor have the sections before one
  miss_sections : (i s a m : ℕ) (ys : List Section) → a + length ys ≤ s → position_from (is_it i s) m (each_from a (kept_of i) ys) ≡ None
  miss_sections i s a m [] h = refl
  miss_sections i s a m (y ∷ ys) h =
      let other : nat_eq a s ≡ false = ne_eqb a s (λ e. omega arith) in
      let same : nat_eq i i ≡ true = eq-eqb i i refl in
      position-after (is_it i s) m (only_if (is_kept kit inputs i a) (i, a)) _ (miss i s i a (is_kept kit inputs i a) m (rw (same, other) refl))
      ∙ miss_sections i s (suc a) (m + length (only_if (is_kept kit inputs i a) (i, a))) ys (omega arith)

  -- how many pieces stand before a section
  abbrev pub before : ℕ → ℕ → ℕ
  before i k = length (each (take i inputs) (input_pieces kit inputs)) + length (each_from 1 (section_piece kit inputs i (input_at inputs i)) (take k (input_at inputs i).object.sections))

  same_length : (k : ℕ) (x : Input) (s : ℕ) (y : Section) → length (kept_of k s y) ≡ length (section_piece kit inputs k x s y)
  same_length k x s y = let pair : ℕ × ℕ = (k, s) in length-only_if (is_kept kit inputs k s) pair (piece_of kit k x s y)

  pub kept-pieces : (n : ℕ) (xs : List Input) → length (each_from n kept_in xs) ≡ length (each_from n (input_pieces kit inputs) xs)
  kept-pieces n xs = each-length n kept_in (input_pieces kit inputs) xs
      (λ k x. each-length 1 (kept_of k) (section_piece kit inputs k x) x.object.sections (λ s y. same_length k x s y))

  pub number_is : (i k : ℕ) → i < length inputs → k < length (input_at inputs i).object.sections → is_kept kit inputs i (suc k) ≡ true
      → piece_number kit inputs i (suc k) ≡ before i k
  number_is i k h l kept =
      let t = is_it i (suc k) in
      let x = input_at inputs i in
      let y = get_or x.object.sections k no_section in
      let me : ℕ × ℕ = (i, suc k) in
      let first : List (ℕ × ℕ) = each_from 0 kept_in (take i inputs) in
      let second : List (ℕ × ℕ) = each_from 1 (kept_of i) (take k x.object.sections) in
      let rest : List (ℕ × ℕ) = each_from (suc (suc k)) (kept_of i) (drop (suc k) x.object.sections) in
      let others : List (ℕ × ℕ) = each_from (suc i) kept_in (drop (suc i) inputs) in
      let zero_off : 0 + i ≡ i = omega arith in
      let one_off : 1 + k ≡ suc k = omega arith in
      let split : kept_numbers kit inputs ≡ first ++ (kept_in i x ++ others) = rw zero_off at (each-split 0 kept_in inputs i no_input h) in
      let inner : kept_in i x ≡ second ++ (kept_of i (suc k) y ++ rest) = rw one_off at (each-split 1 (kept_of i) x.object.sections k no_section l) in
      let here : kept_of i (suc k) y ≡ me ∷ [] = rw kept refl in
      let found : position_from t (length first + length second) (me ∷ (rest ++ others)) ≡ Some (length first + length second) =
      rw (eq-eqb i i refl, eq-eqb (suc k) (suc k) refl) refl in
      let whole : kept_numbers kit inputs ≡ first ++ (second ++ (me ∷ (rest ++ others))) =
      split ∙ rw (inner, here, append_assoc) refl in
      let past_first = position-after t 0 first (second ++ (me ∷ (rest ++ others))) (miss_inputs i (suc k) 0 0 (take i inputs) (omega (arith, length-take i inputs))) in
      let past_second = position-after t (0 + length first) second (me ∷ (rest ++ others)) (miss_sections i (suc k) 1 (0 + length first) (take k x.object.sections) (omega (arith, length-take k x.object.sections))) in
      let none_before : 0 + length first ≡ length first = omega arith in
      let at : position_from t 0 (kept_numbers kit inputs) ≡ Some (length first + length second) =
      rw whole (past_first ∙ (past_second ∙ rw none_before found)) in
      let firsts = kept-pieces 0 (take i inputs) in
      let seconds = each-length 1 (kept_of i) (section_piece kit inputs i x) (take k x.object.sections) (same_length i x) in
      rw (at, firsts, seconds) refl

  -- there are at most as many pieces as sections
  pub before-le : (i k : ℕ) → i < length inputs → before i k ≤ sum_by (λ x. length x.object.sections) inputs
  before-le i k h =
      let x = input_at inputs i in
      let many = length-each-le 0 (input_pieces kit inputs) (λ x. length x.object.sections) (take i inputs)
      (λ j x. omega (arith, length-each-le 1 (section_piece kit inputs j x) (λ y. 1) x.object.sections (λ s y. only_if-le (is_kept kit inputs j s) (piece_of kit j x s y)), sum_by-ones x.object.sections)) in
      let few = length-each-le 1 (section_piece kit inputs i x) (λ y. 1) (take k x.object.sections) (λ s y. only_if-le (is_kept kit inputs i s) (piece_of kit i x s y)) in
      omega (arith, many, few, sum_by-ones (take k x.object.sections), length-take k x.object.sections, sum_by_more_le (λ x. length x.object.sections) inputs i no_input h)
