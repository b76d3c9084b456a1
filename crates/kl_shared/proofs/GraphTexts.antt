-- The dynamic names of a link graph are texts.
use Rattle.std.proofs.Common.{ℕ, zero, suc, ◌≡◌, ◌∙◌, List, [], ◌∷◌, drop, filter, get_or, map, refl, sym, arith, Bool, true, false, ◌||◌, inl, inr}
use Rattle.std.specs.Prelude.{All}
use Rattle.std.specs.List.{list_any}
use Rattle.std.specs.Str.{bytes_eq}
use Rattle.std.proofs.lemmas.Bool.{cases_Bool}
use Rattle.std.proofs.lemmas.Cmp.{nat_list_eq_equiv}
use Rattle.std.proofs.lemmas.List.{length-take-le}
use Rattle.std.proofs.Common.{length-drop}
use Rattle.std.proofs.lemmas.List.Elements.{All-filter, All-head, All-map, All-tail}
use Rattle.kl_model.proofs.StandOnce.{names_are}
use Rattle.kl_model.specs.Dynamic.{first_of, no_occurrence, dyn_name, dynamic_names, is_exported, is_imported}
use Rattle.kl_model.specs.Fit.{AreFit}
use Rattle.kl_model.specs.Graphs.{graph}
use Rattle.kl_model.specs.Kept.{input_at}
use Rattle.kl_model.specs.Lists.{among}
use Rattle.kl_model.specs.Names.{Occurrence, occurrences, sorted_names}
use Rattle.kl_model.specs.declared.kit.Kit.{Kit}
use Rattle.kl_model.specs.declared.object.Input.{Input}
use Rattle.kl_sym.proofs.SoundTargets.{IsOccurrence, all_occur}
use Rattle.kl_loading.specs.TablesReadBack.{HasTexts, IsText}

-- each name is among all names
all_among : (names : List (List ℕ)) → All (λ n. among names n ≡ true) names
all_among [] k d h = absurd (omega (arith, h))
all_among (n ∷ names) zero d h = rw (nat_list_eq_equiv.refl n) refl
all_among (n ∷ names) (suc k) d h = later (bytes_eq (get_or names k d) n) (all_among names k d (omega (arith, h)))
  where
    later : (b : Bool) → among names (get_or names k d) ≡ true → (b || among names (get_or names k d)) ≡ true
    later true e = refl
    later false e = e

module _ (kit : Kit) (inputs : List Input) (fit : AreFit inputs) where
  -- the first symbol of a name that has one
  first-occurs : (name : List ℕ) → among (sorted_names inputs) name ≡ true → IsOccurrence inputs (first_of inputs name)
  first-occurs name there = go (occurrences inputs) (all_occur kit inputs fit) (sym (names_are inputs name) ∙ there)
    where
      go : (os : List Occurrence) → All (IsOccurrence inputs) os → list_any (λ o. bytes_eq name o.name) os ≡ true
          → IsOccurrence inputs (get_or (filter (λ o. bytes_eq o.name name) os) 0 no_occurrence)
      go [] all e = cc
      go (o ∷ os) all e =
          let turned : bytes_eq o.name name ≡ bytes_eq name o.name = nat_list_eq_equiv.symm o.name name in
          elim (cases_Bool (bytes_eq name o.name)) [
            | inl a ↦ rw (turned, a) (All-head (IsOccurrence inputs) o os all)
            | inr a ↦ rw (turned, a) (go os (All-tail (IsOccurrence inputs) o os all) (rw a at e))
          ]

  text-is : (name : List ℕ) → among (sorted_names inputs) name ≡ true → IsText inputs (dyn_name kit inputs name)
  text-is name there =
      let first = (first-occurs name there).fits.name in
      let o = first_of inputs name in
      let b = (input_at inputs o.input).bytes in
      let inside = first.inside in
      record {
        len = length-take-le o.symbol.name.len (drop o.symbol.name.at b) (omega (arith, inside, length-drop o.symbol.name.at b));
        no_zero = first.no_zero;
      }

  all_texts : All (IsText inputs) (map (dyn_name kit inputs) (dynamic_names kit inputs))
  all_texts =
      let known = All-filter (λ n. is_exported kit inputs n || is_imported kit inputs n) (λ n. among (sorted_names inputs) n ≡ true) (sorted_names inputs) (all_among (sorted_names inputs)) in
      All-map (IsText inputs) (dyn_name kit inputs) (dynamic_names kit inputs) (λ k d h. text-is (get_or (dynamic_names kit inputs) k d) (known k d h))

  pub has_texts : HasTexts inputs (graph kit inputs)
  unfolding graph
  has_texts = all_texts
