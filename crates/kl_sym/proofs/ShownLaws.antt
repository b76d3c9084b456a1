-- What the dynamic symbol table says of a name, from what is noted of it.
use Rattle.std.proofs.Common.{ℕ, ◌≡◌, ◌∙◌, List, [], ◌∷◌, get_or, refl, ap, sym, Bool, true, false, not, cond, inl, inr, ◌&&◌}
use Rattle.std.specs.Prelude.{◌==◌, All, IfSome, Option, Some, None, filter, find, is_none, map, option_map, slice_get, unwrap_or}
use Rattle.std.specs.Str.{bytes_eq}
use Rattle.std.specs.Option.{option_or}
use Rattle.std.proofs.lemmas.Bool.{cases_Bool}
use Rattle.std.proofs.lemmas.List.Elements.{All-filter, All-head}
use Rattle.std.proofs.lemmas.Map.Views.{any-filter_same}
use Rattle.kl_elf.specs.declared.abi.TheConstants.{STB_GLOBAL, STB_WEAK, STT_NOTYPE, STT_OBJECT}
use Rattle.kl_model.specs.Dynamic.{Shown, defined_shown, first_of, imported_shown, no_occurrence}
use Rattle.kl_model.specs.Graphs.{symbol_at}
use Rattle.kl_model.specs.Kits.{is_empty}
use Rattle.kl_model.specs.Lists.{among}
use Rattle.kl_model.specs.Names.{BySymbol, ByCommon, Occurrence, common_names, common_size, commons_of, first_definition, is_common, is_definition, occurrences, occurrences_of}
use Rattle.kl_model.specs.declared.object.Input.{Input}
use Rattle.kl_model.specs.declared.kit.Kit.{Kit}
use Rattle.kl_names.specs.Definitions.{Stands}
use Rattle.kl_names.specs.Facts.{common_of, common_symbol_names, facts_of, stands_at}
use Rattle.kl_names.specs.declared.facts.Common.{Common}
use Rattle.kl_names.specs.declared.facts.NameFacts.{NameFacts}
use Rattle.kl_names.specs.declared.facts.SymbolAt.{SymbolAt}
use Rattle.kl_names.proofs.CommonLaws.{common_names-free, is_free}
use Rattle.kl_names.proofs.FactSteps.{common-stands}
use Rattle.kl_names.proofs.NameLists.{among-once, same_text}
use Rattle.kl_names.proofs.OwnLaws.{IsSymbol, all-symbols, found-all}
use Rattle.kl_sym.specs.Shows.{attributes_of, shown, shown_of}

-- the first symbol of a name
module _ (inputs : List Input) (name : List ℕ) where
  all_of : All (IsSymbol inputs) (occurrences_of inputs name)
  all_of = All-filter (λ o. bytes_eq o.name name) (IsSymbol inputs) (occurrences inputs) (all-symbols inputs)

  pub name-stands : IfSome (option_map stands_at (slice_get (occurrences_of inputs name) 0)) (Stands inputs)
  name-stands = go (occurrences_of inputs name) all_of
    where
      go : (os : List Occurrence) → All (IsSymbol inputs) os → IfSome (option_map stands_at (slice_get os 0)) (Stands inputs)
      go [] all = tt
      go (o ∷ os) all = (All-head (IsSymbol inputs) o os all).stands

  pub first-is : (at : SymbolAt) → Some at ≡ option_map stands_at (slice_get (occurrences_of inputs name) 0)
      → (at.input ≡ (first_of inputs name).input) × (symbol_at inputs at.input at.number ≡ (first_of inputs name).symbol)
  first-is at e = go (occurrences_of inputs name) all_of e
    where
      go : (os : List Occurrence) → All (IsSymbol inputs) os → Some at ≡ option_map stands_at (slice_get os 0)
          → (at.input ≡ (get_or os 0 no_occurrence).input) × (symbol_at inputs at.input at.number ≡ (get_or os 0 no_occurrence).symbol)
      go [] all e = cc
      go (o ∷ os) all e = let same : at ≡ stands_at o = cc in rw same (refl, (All-head (IsSymbol inputs) o os all).symbol)

  pub first-none : None ≡ option_map stands_at (slice_get (occurrences_of inputs name) 0) → first_of inputs name ≡ no_occurrence
  first-none e = go (occurrences_of inputs name) e
    where
      go : (os : List Occurrence) → None ≡ option_map stands_at (slice_get os 0) → get_or os 0 no_occurrence ≡ no_occurrence
      go [] e = refl
      go (o ∷ os) e = cc

find-among : (t : List ℕ) (ms : List (List ℕ)) → find (bytes_eq t) ms ≡ cond (among ms t) (Some t) None
find-among t [] = refl
find-among t (m ∷ ms) = elim (cases_Bool (bytes_eq t m)) [
  | inl a ↦ rw a (ap Some (sym (same_text t m a)))
  | inr a ↦ rw a (find-among t ms)
]

none_mapped : {X Y : Type 0} (f : X → Y) (r : Option X) → option_map f r ≡ None → r ≡ None
none_mapped f None e = refl
none_mapped f (Some x) e = cc

module _ (kit : Kit) (inputs : List Input) (name : List ℕ) where
  -- what is shown, by what may define the name
  abbrev shown_by : Option Occurrence → Option (List ℕ) → Option Occurrence → Shown
  shown_by g c w =
      unwrap_or (option_map (defined_shown inputs) (option_or (option_map BySymbol g) (option_or (option_map ByCommon c) (option_map BySymbol w)))) (imported_shown inputs name)

  first-symbol : (binding : ℕ) (at : SymbolAt) → option_map stands_at (first_definition kit inputs binding name) ≡ Some at
      → (o : Occurrence) × (first_definition kit inputs binding name ≡ Some o) × (symbol_at inputs at.input at.number ≡ o.symbol)
  first-symbol binding at e = go (first_definition kit inputs binding name) refl e
    where
      go : (r : Option Occurrence) → first_definition kit inputs binding name ≡ r → option_map stands_at r ≡ Some at
          → (o : Occurrence) × (first_definition kit inputs binding name ≡ Some o) × (symbol_at inputs at.input at.number ≡ o.symbol)
      go None found h = cc
      go (Some o) found h =
          let known = found-all (IsSymbol inputs) (λ o. (o.symbol.binding == binding) && is_definition kit inputs o) (λ o. bytes_eq o.name name) (occurrences inputs) o (all-symbols inputs) found in
          let same : at ≡ stands_at o = cc in
          (o, found, rw same known.0.symbol)

  module _ (f : NameFacts) (fact : f ≡ facts_of kit inputs name) where
    global-is : option_map stands_at (first_definition kit inputs STB_GLOBAL name) ≡ f.global
    global-is = sym (ap (λ (f : NameFacts). f.global) fact)

    weak-is : option_map stands_at (first_definition kit inputs STB_WEAK name) ≡ f.weak
    weak-is = sym (ap (λ (f : NameFacts). f.weak) fact)

    pub by_global : (at : SymbolAt) → f.global ≡ Some at → shown (attributes_of (symbol_at inputs at.input at.number)) ≡ shown_of kit inputs name
    by_global at e =
        let first = first-symbol STB_GLOBAL at (global-is ∙ e) in
        ap (λ y. shown (attributes_of y)) first.2
        ∙ sym (ap (λ g. shown_by g (find (bytes_eq name) (common_names kit inputs)) (first_definition kit inputs STB_WEAK name)) first.1)

    module _ (none : f.global ≡ None) where
      no_global : first_definition kit inputs STB_GLOBAL name ≡ None
      no_global = none_mapped stands_at (first_definition kit inputs STB_GLOBAL name) (global-is ∙ none)

      has-common : among (common_names kit inputs) name ≡ not (is_none f.common)
      has-common =
          let free : is_free kit inputs name ≡ true = rw no_global refl in
          let stands = common-stands (occurrences inputs) name in
          ap (λ l. among l name) (common_names-free kit inputs)
          ∙ (any-filter_same (bytes_eq name) (is_free kit inputs) true (λ m e. sym (ap (is_free kit inputs) (same_text name m e)) ∙ free) (common_symbol_names inputs)
          ∙ (among-once (map (λ o. o.name) (filter is_common (occurrences inputs))) name
          ∙ (turned _ _ stands ∙ ap (λ (c : Option Common). not (is_none c)) (sym (ap (λ (f : NameFacts). f.common) fact)))))
        where
          turned : (a b : Bool) → a ≡ not b → b ≡ not a
          turned a true e = rw e refl
          turned a false e = rw e refl

      common-is : find (bytes_eq name) (common_names kit inputs) ≡ cond (not (is_none f.common)) (Some name) None
      common-is = find-among name (common_names kit inputs) ∙ ap (λ b. cond b (Some name) None) has-common

      pub by_common : (c : Common) → f.common ≡ Some c → record { weak = false; kind = STT_OBJECT; size = c.size } ≡ shown_of kit inputs name
      by_common c e =
          let holds : find (bytes_eq name) (common_names kit inputs) ≡ Some name = common-is ∙ rw e refl in
          let size = size-is (is_empty (commons_of inputs name)) refl (sym (ap (λ (f : NameFacts). f.common) fact) ∙ e) in
          rw (sym size)
          (sym (ap (λ g. shown_by g (find (bytes_eq name) (common_names kit inputs)) (first_definition kit inputs STB_WEAK name)) no_global
          ∙ ap (λ c. shown_by None c (first_definition kit inputs STB_WEAK name)) holds))
        where
          size-is : (b : Bool) → is_empty (commons_of inputs name) ≡ b → common_of inputs name ≡ Some c → common_size inputs name ≡ c.size
          size-is true empty h = let no : None ≡ Some c = rw empty at h in cc
          size-is false empty h = let same : Some _ ≡ Some c = rw empty at h in size-of same
            where
              size-of : {a : Common} → Some a ≡ Some c → a.size ≡ c.size
              size-of {a = a} e = let same : a ≡ c = cc in ap (λ (c : Common). c.size) same

      module _ (alone : f.common ≡ None) where
        no_common : find (bytes_eq name) (common_names kit inputs) ≡ None
        no_common = common-is ∙ rw alone refl

        left : shown_of kit inputs name ≡ shown_by None None (first_definition kit inputs STB_WEAK name)
        left =
            ap (λ g. shown_by g (find (bytes_eq name) (common_names kit inputs)) (first_definition kit inputs STB_WEAK name)) no_global
            ∙ ap (λ c. shown_by None c (first_definition kit inputs STB_WEAK name)) no_common

        pub by_weak : (at : SymbolAt) → f.weak ≡ Some at → shown (attributes_of (symbol_at inputs at.input at.number)) ≡ shown_of kit inputs name
        by_weak at e =
            let first = first-symbol STB_WEAK at (weak-is ∙ e) in
            ap (λ y. shown (attributes_of y)) first.2 ∙ sym (left ∙ ap (shown_by None None) first.1)

        pub by_none : f.weak ≡ None → record { weak = f.all_weak; kind = STT_NOTYPE; size = 0 } ≡ shown_of kit inputs name
        by_none e =
            let never = none_mapped stands_at (first_definition kit inputs STB_WEAK name) (weak-is ∙ e) in
            ap (λ (b : Bool). record { weak = b; kind = STT_NOTYPE; size = 0 }) (ap (λ (f : NameFacts). f.all_weak) fact)
            ∙ sym (left ∙ ap (shown_by None None) never)
