-- One symbol more, of those that aren't LOCAL: its number leads to its name.
use Rattle.std.proofs.Common.{ℕ, ◌≡◌, ◌+◌, ◌<◌, ◌∙◌, List, ◌∷◌, ◌++◌, length, get_or, map, length-append, refl, ap, false}
use Rattle.std.specs.Prelude.{Some, slice_get, ◌==◌}
use Rattle.kl_elf.specs.declared.abi.TheConstants.{STB_LOCAL}
use Rattle.kl_model.specs.Texts.{text_at}
use Rattle.kl_model.specs.Kept.{input_at, no_symbol}
use Rattle.kl_model.specs.Names.{Occurrence, occurrences}
use Rattle.kl_model.specs.declared.object.Input.{Input}
use Rattle.kl_model.specs.declared.object.Symbol.{Symbol}
use Rattle.kl_names.specs.Numbers.{AreNumbered}
use Rattle.kl_names.specs.Walked.{occurrence}
use Rattle.kl_names.proofs.NotedSteps.{get-inside, get-map, number-at}
use Rattle.kl_names.proofs.Steps.{more_one, occurring_up_to, rest_of, split}

module _ (inputs : List Input) (i n : ℕ) (h : i < length inputs) (l : n < length (input_at inputs i).object.symbols) where
  abbrev pub y : Symbol
  y = get_or (input_at inputs i).object.symbols n no_symbol

  abbrev pub name : List ℕ
  name = text_at (input_at inputs i).bytes y.name

  module _ (other : (y.binding == STB_LOCAL) ≡ false) where
    pub next_more : length (occurring_up_to inputs i (n + 1)) ≡ length (occurring_up_to inputs i n) + 1
    next_more = ap length (more_one inputs i n h l other) ∙ length-append (occurring_up_to inputs i n) _

    module _ (names : List (List ℕ)) (numbers : List ℕ) (numbered : AreNumbered (occurrences inputs) names numbers) where
      pub number-leads : (d : ℕ) → (length (occurring_up_to inputs i n) < length numbers) × (slice_get names (get_or numbers (length (occurring_up_to inputs i n)) d) ≡ Some name)
      number-leads d =
          let all : occurrences inputs ≡ occurring_up_to inputs i n ++ (occurrence i (input_at inputs i) n y ∷ rest_of inputs i n h l) = split inputs i n h l ∙ rw other refl in
          number-at (slice_get names) (λ (o : Occurrence). Some o.name) numbers (occurring_up_to inputs i n) _ _ d (numbered.named ∙ ap (map (λ (o : Occurrence). Some o.name)) all)

      pub value-there : {X : Type 0} (f : List ℕ → X) (d : ℕ) → get_or numbers (length (occurring_up_to inputs i n)) d < length (map f names)
      value-there f d = get-inside f names _ name (number-leads d).1

      pub value-is : {X : Type 0} (f : List ℕ → X) (d : ℕ) (e : X) → get_or (map f names) (get_or numbers (length (occurring_up_to inputs i n)) d) e ≡ f name
      value-is f d e = get-map f names _ name e (number-leads d).1
