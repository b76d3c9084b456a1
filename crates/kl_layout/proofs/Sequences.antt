-- The sequence of the inputs: each input stands in it at most once, and the line of text is what they give in turn.
use Rattle.std.proofs.Common.{ℕ, ◌≡◌, ◌+◌, ◌<◌, ◌≢◌, ◌∙◌, List, [], ◌∷◌, ◌++◌, length, get_or, map, refl, ap, sym, arith, Bool, true, false, eqb, subst}
use Rattle.std.specs.Prelude.{flat_map, slice_index, ◌==◌, All}
use Rattle.std.specs.List.{IsDistinct, AllByRecursion, range_with_len}
use Rattle.std.specs.List.Sorted.{IsPermutation}
use Rattle.std.proofs.lemmas.Bool.{eqb-true, eqb-false, ne_eqb}
use Rattle.std.proofs.lemmas.List.{append-nil, get_or_default}
use Rattle.std.proofs.lemmas.List.FromFn.{fill_by_all, get_or-range_with_len, length-range_with_len}
use Rattle.std.proofs.lemmas.List.Elements.{All-from_recursion}
use Rattle.std.proofs.lemmas.List.Concat.{flat_map-append}
use Rattle.std.proofs.lemmas.List.Folds.{flat_map-map}
use Rattle.std.proofs.lemmas.List.Sorted.{IsPermutation-map, IsPermutation-append_left, IsPermutation-append_right, All-permutation}
use Rattle.std.proofs.lemmas.Map.Keys.{IsDistinct-IsPermutation}
use Rattle.kl_model.specs.Kept.{part_number}
use Rattle.kl_model.specs.Line.{inputs_in, sequence}
use Rattle.kl_model.specs.Orders.{IsOrder}
use Rattle.kl_model.specs.declared.object.Part.TheVariants.{Head, Drawn, Tail}
use Rattle.kl_model.specs.declared.graph.Graph.{Graph}
use Rattle.kl_model.specs.declared.place.LinePart.{LinePart}
use Rattle.kl_layout.specs.Once.{input_sequence}
use Rattle.kl_layout.proofs.Enumerated.{passing, passing_holds, distinct_passing, distinct_joined, all_append}

-- the numbers of an order lie below its count
pub order_below : (n : ℕ) (order : List ℕ) → IsOrder n order → All (λ d. d < n) order
order_below n order o =
    All-permutation (λ d. d < n) (range_with_len 0 n) order o
    (λ k d l. let long = length-range_with_len 0 n in let at = get_or-range_with_len 0 n k d (omega arith) in omega (arith, at))

-- numbers differ where they are not equal
apart_numbers : (a b : ℕ) → a ≢ b → eqb a b ≡ false
apart_numbers a b h = ne_eqb a b h

pub flip_numbers : (a b : ℕ) → eqb a b ≡ eqb b a
flip_numbers a b = go (eqb a b) (eqb b a) refl refl
  where
    go : (s t : Bool) → eqb a b ≡ s → eqb b a ≡ t → eqb a b ≡ eqb b a
    go true true e f = e ∙ sym f
    go false false e f = e ∙ sym f
    go true false e f = absurd (eqb-false b a f (sym (eqb-true a b e)))
    go false true e f = absurd (eqb-false a b e (sym (eqb-true b a f)))

module _ (g : Graph) where
  -- the inputs of a part, by the part's number
  numbered : ℕ → List ℕ
  numbered k = passing (λ i x. i) (λ x. part_number x == k) 0 g.parts

  owner : ℕ → ℕ
  owner i = part_number (get_or g.parts i Tail)

  owned : (k : ℕ) → AllByRecursion (λ i. owner i ≡ k) (numbered k)
  unfolding numbered owner
  owned k = passing_holds (λ i x. i) (λ x. part_number x == k) (λ i. owner i ≡ k) 0 g.parts
      (λ j d l t. let here : 0 + j ≡ j = omega arith in
      rw (here, get_or_default g.parts j Tail d l) (eqb-true (part_number (get_or g.parts j d)) k t))

  three : IsDistinct eqb (0 ∷ 1 ∷ 2 ∷ [])
  unfolding IsDistinct
  three = ((refl, (refl, tt)), ((refl, tt), (tt, tt)))

  parts_distinct : IsDistinct eqb (inputs_in g Head ++ (inputs_in g Drawn ++ inputs_in g Tail))
  unfolding numbered
  parts_distinct =
      let joined = distinct_joined eqb owner (λ x y h. apart_numbers x y (λ same. h (ap owner same))) numbered owned
      (λ k. distinct_passing eqb (λ i. i) apart_numbers (λ i x. i) (λ m x. refl) (λ x. part_number x == k) 0 g.parts) (0 ∷ 1 ∷ 2 ∷ []) three in
      let last : inputs_in g Tail ++ [] ≡ inputs_in g Tail = append-nil (inputs_in g Tail) in
      subst (λ (l : List ℕ). IsDistinct eqb (inputs_in g Head ++ (inputs_in g Drawn ++ l))) last joined

  -- the drawn inputs by an order are the drawn inputs
  pub drawn_permuted : (order : List ℕ) → IsOrder (length (inputs_in g Drawn)) order → IsPermutation (inputs_in g Drawn) (map (slice_index (inputs_in g Drawn)) order)
  drawn_permuted order o =
      let drawn = inputs_in g Drawn in
      let places = fill_by_all (slice_index drawn) drawn (length drawn) 0 refl (λ k h. refl) in
      subst (λ (l : List ℕ). IsPermutation l (map (slice_index drawn) order)) (sym places)
      (IsPermutation-map (slice_index drawn) (range_with_len 0 (length drawn)) order o)

  -- no input stands twice in the sequence
  pub sequence_distinct : (order : List ℕ) → IsOrder (length (inputs_in g Drawn)) order → IsDistinct eqb (input_sequence g order)
  sequence_distinct order o =
      IsDistinct-IsPermutation eqb flip_numbers (inputs_in g Head ++ (inputs_in g Drawn ++ inputs_in g Tail)) (input_sequence g order)
      (IsPermutation-append_right (inputs_in g Head) (inputs_in g Drawn ++ inputs_in g Tail) (map (slice_index (inputs_in g Drawn)) order ++ inputs_in g Tail)
      (IsPermutation-append_left (inputs_in g Tail) (inputs_in g Drawn) (map (slice_index (inputs_in g Drawn)) order) (drawn_permuted order o)))
      parts_distinct

  -- what each input gives, by the sequence
  pub sequence_joined : (order : List ℕ) (f : ℕ → List LinePart) → sequence g order [] f ≡ flat_map f (input_sequence g order)
  sequence_joined order f =
      let drawn = inputs_in g Drawn in
      let outer = flat_map-append f (inputs_in g Head) (map (slice_index drawn) order ++ inputs_in g Tail) in
      let inner = flat_map-append f (map (slice_index drawn) order) (inputs_in g Tail) in
      let middle = flat_map-map f (slice_index drawn) order in
      sym (outer ∙ ap (λ l. flat_map f (inputs_in g Head) ++ l) (inner ∙ ap (λ l. l ++ flat_map f (inputs_in g Tail)) middle))

  -- each of them is an input
  known : (k : ℕ) → AllByRecursion (λ i. i < length g.parts) (numbered k)
  unfolding numbered
  known k = passing_holds (λ i x. i) (λ x. part_number x == k) (λ i. i < length g.parts) 0 g.parts (λ j d l t. omega arith)

  pub sequence_known : (order : List ℕ) → IsOrder (length (inputs_in g Drawn)) order → All (λ i. i < length g.parts) (input_sequence g order)
  unfolding numbered
  sequence_known order o =
      let P = λ (i : ℕ). i < length g.parts in
      All-permutation P (inputs_in g Head ++ (inputs_in g Drawn ++ inputs_in g Tail)) (input_sequence g order)
      (IsPermutation-append_right (inputs_in g Head) (inputs_in g Drawn ++ inputs_in g Tail) (map (slice_index (inputs_in g Drawn)) order ++ inputs_in g Tail)
      (IsPermutation-append_left (inputs_in g Tail) (inputs_in g Drawn) (map (slice_index (inputs_in g Drawn)) order) (drawn_permuted order o)))
      (All-from_recursion P (inputs_in g Head ++ (inputs_in g Drawn ++ inputs_in g Tail))
      (all_append P (inputs_in g Head) (inputs_in g Drawn ++ inputs_in g Tail) (known 0) (all_append P (inputs_in g Drawn) (inputs_in g Tail) (known 1) (known 2))))
