-- Every input stands once in the sequence of the inputs.
use Rattle.std.proofs.Common.{ℕ, suc, ◌≡◌, ◌+◌, ◌<◌, ◌≤◌, ◌∙◌, List, [], ◌∷◌, ◌++◌, length, map, refl, sym, subst, arith, true, false, eqb, inl, inr}
use Rattle.std.specs.Prelude.{slice_index, IsPermutation, ◌==◌}
use Rattle.std.specs.List.{IsDistinct, AllByRecursion}
use Rattle.std.proofs.lemmas.Bool.{cases_Bool, eqb-false}
use Rattle.std.proofs.lemmas.List.{append-nil}
use Rattle.std.proofs.lemmas.List.Sorted.{IsPermutation-trans, IsPermutation-append_left, IsPermutation-append_right, list_any-IsPermutation}
use Rattle.std.proofs.lemmas.Map.Keys.{IsDistinct-head, IsDistinct-tail}
use Rattle.kl_model.specs.Lists.{each, each_from, number_in}
use Rattle.kl_model.specs.Kept.{part_number}
use Rattle.kl_model.specs.Line.{inputs_in}
use Rattle.kl_model.specs.Orders.{IsOrder}
use Rattle.kl_model.specs.declared.object.Part.{Part}
use Rattle.kl_model.specs.declared.object.Part.TheVariants.{Head, Drawn, Tail}
use Rattle.kl_model.specs.declared.graph.Graph.{Graph}
use Rattle.kl_layout.specs.Once.{AreDistinct}
use Rattle.kl_layout.proofs.Grouped.{passing-keys}
use Rattle.kl_layout.specs.Once.{input_sequence}
use Rattle.kl_layout.proofs.Sequences.{drawn_permuted, sequence_distinct, flip_numbers}

pub distinct_numbers : (ns : List ℕ) → IsDistinct eqb ns → AreDistinct ns
distinct_numbers [] d = tt
distinct_numbers (n ∷ ns) d = (absent ns (IsDistinct-head eqb n ns d), distinct_numbers ns (IsDistinct-tail eqb n ns d))
  where
    absent : (ms : List ℕ) → AllByRecursion (λ m. eqb n m ≡ false) ms → number_in ms n ≡ false
    absent [] a = refl
    absent (m ∷ ms) a = let e : (m == n) ≡ false = flip_numbers m n ∙ a.0 in rw e (absent ms a.1)

place_in : {X : Type 0} (n : ℕ) (xs : List X) (i : ℕ) → n ≤ i → i < n + length xs → number_in (each_from n (λ m x. m ∷ []) xs) i ≡ true
place_in n [] i a b = absurd (omega arith)
place_in n (x ∷ xs) i a b = elim (cases_Bool (n == i)) [
  | inl e ↦ rw e refl
  | inr e ↦ (let d = eqb-false n i e in rw e (place_in (suc n) xs i (omega (arith, d)) (omega arith)))
]

part_known : (p : Part) → number_in (0 ∷ 1 ∷ 2 ∷ []) (part_number p) ≡ true
part_known Head = refl
part_known Drawn = refl
part_known Tail = refl

module _ (g : Graph) (order : List ℕ) (o : IsOrder (length (inputs_in g Drawn)) order) where
  pub sequence_all : IsPermutation (each g.parts (λ i x. i ∷ [])) (input_sequence g order)
  sequence_all =
      let drawn = inputs_in g Drawn in
      let three = passing-keys (λ (i : ℕ) (x : Part). i) part_number (0 ∷ 1 ∷ 2 ∷ []) (λ x. true) 0 g.parts (refl, (refl, (refl, tt))) (λ x e. part_known x) in
      let parts : IsPermutation (each g.parts (λ i x. i ∷ [])) (inputs_in g Head ++ (inputs_in g Drawn ++ inputs_in g Tail)) =
      subst (λ (l : List ℕ). IsPermutation (each g.parts (λ i x. i ∷ [])) (inputs_in g Head ++ (inputs_in g Drawn ++ l))) (append-nil (inputs_in g Tail)) three in
      IsPermutation-trans _ _ _ parts
      (IsPermutation-append_right (inputs_in g Head) (inputs_in g Drawn ++ inputs_in g Tail) (map (slice_index drawn) order ++ inputs_in g Tail)
      (IsPermutation-append_left (inputs_in g Tail) drawn (map (slice_index drawn) order) (drawn_permuted g order o)))

  pub sequence_has : (i : ℕ) → i < length g.parts → number_in (input_sequence g order) i ≡ true
  sequence_has i h =
      sym (list_any-IsPermutation (λ m. m == i) (each g.parts (λ m x. m ∷ [])) (input_sequence g order) sequence_all) ∙ place_in 0 g.parts i (omega arith) (omega (arith, h))

  pub sequence_apart : AreDistinct (input_sequence g order)
  sequence_apart = distinct_numbers (input_sequence g order) (sequence_distinct g order o)
