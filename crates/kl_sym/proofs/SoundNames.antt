-- The dynamic names of any kit and fit inputs are sound: each is the name of a symbol, and its numbers are those of symbols.
use Rattle.std.proofs.Common.{ℕ, zero, suc, ◌≡◌, ◌^◌, ◌<◌, ◌≤◌, ◌∙◌, List, [], ◌∷◌, length, get_or, map, refl, sym, arith, Bool, true, false, not, ◌&&◌, ◌||◌, cond, inl, inr}
use Rattle.std.specs.Prelude.{Some, None, Option, ◌==◌, All, IfSome, find, filter, fold, nat_lt, sum_by, unwrap_or}
use Rattle.std.specs.Option.{option_map, option_or}
use Rattle.std.specs.List.{list_any}
use Rattle.std.specs.Str.{bytes_eq}
use Rattle.std.proofs.lemmas.Bool.{cases_Bool}
use Rattle.std.proofs.lemmas.Cmp.{nat_list_eq_equiv}
use Rattle.std.proofs.lemmas.List.{length-map}
use Rattle.std.proofs.lemmas.List.Elements.{All-filter, All-head, All-map, All-tail}
use Rattle.std.proofs.lemmas.List.Sorted.{length_permutation}
use Rattle.std.proofs.lemmas.List.Sums.{sum_by-cons}
use Rattle.kl_base.specs.declared.limits.TheConstants.{SYMBOL_COUNT_LIMIT}
use Rattle.kl_elf.specs.declared.abi.TheConstants.{STB_GLOBAL, STB_LOCAL, STB_WEAK, STV_DEFAULT}
use Rattle.kl_model.specs.Lists.{among, each, once, only_if}
use Rattle.kl_model.specs.Texts.{text_at}
use Rattle.kl_model.specs.Kept.{no_input}
use Rattle.kl_model.specs.Names.{ByCommon, BySymbol, Definer, Occurrence, common_names, comes_before, definer, first_definition, is_definition, occurrences, occurrences_of, rank, sorted_names, visibility}
use Rattle.kl_model.specs.Dynamic.{Shown, defined_shown, dyn_name, dynamic_names, first_of, imported_shown, is_exported, is_imported, no_occurrence}
use Rattle.kl_model.specs.Graphs.{graph}
use Rattle.kl_model.specs.Fit.{AreFit}
use Rattle.kl_model.specs.Sound.{IsSoundName}
use Rattle.kl_model.specs.declared.object.Symbol.{Symbol}
use Rattle.kl_model.specs.declared.object.Input.{Input}
use Rattle.kl_model.specs.declared.kit.Kit.{Kit}
use Rattle.kl_model.proofs.Each.{length-each-le}
use Rattle.kl_model.proofs.ListWords.{in_order-permutes}
use Rattle.kl_model.proofs.StandOnce.{names_are}
use Rattle.kl_sym.proofs.PieceNumbers.{only_if-le}
use Rattle.kl_sym.proofs.SoundPieces.{common_small, occur, parts_count}
use Rattle.kl_sym.proofs.SoundTargets.{IsOccurrence, all_occur, find_is, own_sound}

pub ones : {X : Type 0} (xs : List X) → sum_by (λ x. 1) xs ≡ length xs
ones [] = refl
ones (x ∷ xs) = omega (arith, sum_by-cons (λ y. 1) x xs, ones xs)

pub filter-short : {X : Type 0} (p : X → Bool) (xs : List X) → length (filter p xs) ≤ length xs
filter-short p [] = omega arith
filter-short p (x ∷ xs) = elim (cases_Bool (p x)) [ inl a ↦ rw a (omega (arith, filter-short p xs)) | inr a ↦ rw a (omega (arith, filter-short p xs)) ]

pub once-short : (xs : List (List ℕ)) → length (once bytes_eq xs) ≤ length xs
once-short [] = omega arith
once-short (x ∷ xs) = omega (arith, once-short xs, filter-short (λ y. not (bytes_eq x y)) (once bytes_eq xs))

-- one of the numbers of a sum
part_of_sum : {X : Type 0} (f : X → ℕ) (xs : List X) (k : ℕ) (d : X) → k < length xs → f (get_or xs k d) ≤ sum_by f xs
part_of_sum f [] k d h = absurd (omega arith)
part_of_sum f (x ∷ xs) zero d h = omega (arith, sum_by-cons f x xs)
part_of_sum f (x ∷ xs) (suc k) d h = let rest = part_of_sum f xs k d (omega arith) in omega (arith, sum_by-cons f x xs, rest)

-- each of some names is among them
are_among : (names : List (List ℕ)) → All (λ n. among names n ≡ true) names
are_among [] k d h = absurd (omega arith)
are_among (n ∷ names) zero d h = rw (nat_list_eq_equiv.refl n) refl
are_among (n ∷ names) (suc k) d h =
    let rest = are_among names k d (omega arith) in
    elim (cases_Bool (bytes_eq (get_or names k d) n)) [ inl a ↦ rw a refl | inr a ↦ rw a rest ]

module _ (kit : Kit) (inputs : List Input) (fit : AreFit inputs) where
  -- the first symbol of a name that has one
  first-occurs : (name : List ℕ) → among (sorted_names inputs) name ≡ true → IsOccurrence inputs (first_of inputs name)
  first-occurs name there = go (occurrences inputs) (all_occur kit inputs fit) (sym (names_are inputs name) ∙ there)
    where
      go : (os : List Occurrence) → All (IsOccurrence inputs) os → list_any (λ o. bytes_eq name o.name) os ≡ true
          → IsOccurrence inputs (get_or (filter (λ o. bytes_eq o.name name) os) 0 no_occurrence)
      go [] all e = cc
      go (o ∷ os) all e =
          let turned : bytes_eq o.name name ≡ bytes_eq name o.name = nat_list_eq_equiv.symm o.name name in
          elim (cases_Bool (bytes_eq name o.name)) [
            | inl a ↦ rw (turned, a) (All-head (IsOccurrence inputs) o os all)
            | inr a ↦ rw (turned, a) (go os (All-tail (IsOccurrence inputs) o os all) (rw a at e))
          ]

  visibility-fits : (name : List ℕ) → visibility inputs name < 2 ^ 2
  visibility-fits name = go STV_DEFAULT (occurrences_of inputs name) (omega arith) (occur kit inputs fit name)
    where
      go : (v : ℕ) (os : List Occurrence) → v < 2 ^ 2 → All (IsOccurrence inputs) os
          → fold (λ v (o : Occurrence). cond (nat_lt (rank v) (rank o.symbol.visibility)) o.symbol.visibility v) v os < 2 ^ 2
      go v [] low all = low
      go v (o ∷ os) low all =
          go (cond (nat_lt (rank v) (rank o.symbol.visibility)) o.symbol.visibility v) os
          (either (nat_lt (rank v) (rank o.symbol.visibility)) o.symbol.visibility (All-head (IsOccurrence inputs) o os all).fits.visibility) (All-tail (IsOccurrence inputs) o os all)
        where
          either : (b : Bool) (w : ℕ) → w < 2 ^ 2 → cond b w v < 2 ^ 2
          either true w l = l
          either false w l = low

  abbrev Fits : Shown → Type 0
  Fits s = (s.kind < 2 ^ 4) × (s.size < 2 ^ 64)

  definition-fits : (binding : ℕ) (name : List ℕ) (o : Occurrence) → first_definition kit inputs binding name ≡ Some o → Fits (defined_shown inputs (BySymbol o))
  definition-fits binding name o e =
      let found = find_is (IsOccurrence inputs) (λ o. (o.symbol.binding == binding) && is_definition kit inputs o) (occurrences_of inputs name) o (occur kit inputs fit name) e in
      let fits = found.0.fits in
      (fits.kind, fits.words.1)

  definer-fits : (name : List ℕ) → IfSome (definer kit inputs name) (λ d. Fits (defined_shown inputs d))
  definer-fits name = global (first_definition kit inputs STB_GLOBAL name) refl
    where
      weak : (o : Option Occurrence) → first_definition kit inputs STB_WEAK name ≡ o → IfSome (option_map BySymbol o) (λ d. Fits (defined_shown inputs d))
      weak None e = tt
      weak (Some o) e = definition-fits STB_WEAK name o e

      common : (n : Option (List ℕ)) → IfSome (option_or (option_map ByCommon n) (option_map BySymbol (first_definition kit inputs STB_WEAK name))) (λ d. Fits (defined_shown inputs d))
      common None = weak (first_definition kit inputs STB_WEAK name) refl
      common (Some n) = let small = common_small kit inputs fit n in (omega arith, omega arith)

      global : (o : Option Occurrence) → first_definition kit inputs STB_GLOBAL name ≡ o
          → IfSome (option_or (option_map BySymbol o) (option_or (option_map ByCommon (find (bytes_eq name) (common_names kit inputs))) (option_map BySymbol (first_definition kit inputs STB_WEAK name))))
          (λ d. Fits (defined_shown inputs d))
      global None e = common (find (bytes_eq name) (common_names kit inputs))
      global (Some o) e = definition-fits STB_GLOBAL name o e

  shown-fits : (name : List ℕ) → Fits (unwrap_or (option_map (defined_shown inputs) (definer kit inputs name)) (imported_shown inputs name))
  shown-fits name = go (definer kit inputs name) (definer-fits name)
    where
      go : (d : Option Definer) → IfSome d (λ d. Fits (defined_shown inputs d)) → Fits (unwrap_or (option_map (defined_shown inputs) d) (imported_shown inputs name))
      go None h = (omega arith, omega arith)
      go (Some d) h = h

  name-sound : (name : List ℕ) → among (sorted_names inputs) name ≡ true → IsSoundName kit (graph kit inputs) (dyn_name kit inputs name)
  name-sound name there =
      let first = first-occurs name there in
      let shown = shown-fits name in
      record {
        input = (let many = parts_count kit inputs fit in let known = first.known in omega arith);
        short = (let inside = first.fits.name.inside in let part = part_of_sum (λ x. length x.bytes) inputs (first_of inputs name).input no_input first.known in let limit = fit.bytes in omega arith);
        visibility = visibility-fits name;
        kind = shown.0;
        size = shown.1;
        exported = own_sound kit inputs fit name;
      }

  -- THE DYNAMIC NAMES ARE SOUND
  pub names_sound : All (IsSoundName kit (graph kit inputs)) (map (dyn_name kit inputs) (dynamic_names kit inputs))
  names_sound =
      let known = All-filter (λ n. is_exported kit inputs n || is_imported kit inputs n) (λ n. among (sorted_names inputs) n ≡ true) (sorted_names inputs) (are_among (sorted_names inputs)) in
      All-map (IsSoundName kit (graph kit inputs)) (dyn_name kit inputs) (dynamic_names kit inputs) (λ k d h. name-sound (get_or (dynamic_names kit inputs) k d) (known k d h))

  -- HOW MANY THERE ARE
  abbrev occurrence_in : ℕ → Input → ℕ → Symbol → List Occurrence
  occurrence_in i x y s = only_if (not (s.binding == STB_LOCAL)) (record { input = i; number = y; name = text_at x.bytes s.name; symbol = s })

  abbrev occurrences_in : ℕ → Input → List Occurrence
  occurrences_in i x = each x.object.symbols (occurrence_in i x)

  few_occur : (i : ℕ) (x : Input) → length (occurrences_in i x) ≤ length x.object.symbols
  few_occur i x =
      let one = length-each-le 0 (occurrence_in i x) (λ s. 1) x.object.symbols (λ y s. only_if-le (not (s.binding == STB_LOCAL)) (record { input = i; number = y; name = text_at x.bytes s.name; symbol = s })) in
      omega (arith, one, ones x.object.symbols)

  pub occurrence_count : length (occurrences inputs) ≤ SYMBOL_COUNT_LIMIT
  occurrence_count =
      let many = length-each-le 0 occurrences_in (λ x. length x.object.symbols) inputs few_occur in
      let limit = fit.symbols in
      omega arith

  pub name_count : length (map (dyn_name kit inputs) (dynamic_names kit inputs)) ≤ SYMBOL_COUNT_LIMIT
  name_count =
      let named = map (λ (o : Occurrence). o.name) (occurrences inputs) in
      let all = length-map (dynamic_names kit inputs) (dyn_name kit inputs) in
      let some = filter-short (λ n. is_exported kit inputs n || is_imported kit inputs n) (sorted_names inputs) in
      let order = length_permutation (once bytes_eq named) (sorted_names inputs) (in_order-permutes comes_before (once bytes_eq named)) in
      let fewer = once-short named in
      let mapped = length-map (occurrences inputs) (λ (o : Occurrence). o.name) in
      let limit = occurrence_count in
      omega arith
