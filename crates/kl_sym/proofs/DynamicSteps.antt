-- One name more, of those that a library exports and of its dynamic names.
use Rattle.std.proofs.Common.{ℕ, zero, suc, ◌≡◌, ◌+◌, ◌<◌, ◌≤◌, ◌∙◌, List, [], ◌∷◌, ◌++◌, length, get_or, take, map, slice_set, refl, ap, sym, arith, ne_eqb, Bool, true, false, ◌||◌, inl, inr}
use Rattle.std.specs.Prelude.{◌==◌, All, Option, Some, None, filter, replicate, slice_get, sum_by, unwrap_or}
use Rattle.std.specs.Option.{option_or}
use Rattle.std.specs.Str.{bytes_eq}
use Rattle.std.specs.List.{position_from}
use Rattle.std.proofs.lemmas.Bool.{cases_Bool}
use Rattle.std.proofs.lemmas.List.{append-nil, length-map, length-take-le, map-append, take_all, take_more}
use Rattle.std.proofs.lemmas.List.Elements.{All-push, filter_more}
use Rattle.std.proofs.lemmas.List.Kept.{AllPairs-filter}
use Rattle.std.proofs.lemmas.List.Sorted.{length_permutation}
use Rattle.kl_model.specs.Dynamic.{dynamic_names, name_number}
use Rattle.kl_model.specs.Kits.{is_empty, may_export}
use Rattle.kl_model.specs.Lists.{among}
use Rattle.kl_model.specs.Names.{Occurrence, comes_before, occurrences, sorted_names}
use Rattle.kl_model.specs.declared.object.Input.{Input}
use Rattle.kl_model.specs.declared.kit.Kit.{Kit}
use Rattle.kl_model.specs.declared.kit.KitKind.TheVariants.{Library}
use Rattle.kl_model.proofs.ListWords.{in_order-permutes}
use Rattle.kl_model.proofs.StandOnce.{names_ascend}
use Rattle.kl_names.specs.Numbers.{names_in, place_in}
use Rattle.kl_names.proofs.NameLists.{missing-among, other_way, place_push, same_self}
use Rattle.kl_names.proofs.NotedSteps.{AreOnce, kept, set-one}
use Rattle.kl_names.proofs.OwnLaws.{no-place, once-fresh}
use Rattle.kl_names.proofs.Steps.{occurrences-le, once-le}
use Rattle.kl_sym.specs.Linkage.{is_dynamic}
use Rattle.kl_sym.specs.declared.linkage.Linkage.{Linkage}
use Rattle.kl_sym.proofs.RunSteps.{among_one}
use Rattle.kl_sym.proofs.SortedNames.{ascend-once}
use Rattle.kl_sym.proofs.UsedSteps.{same_map}

filter-le : {X : Type 0} (p : X → Bool) (xs : List X) → length (filter p xs) ≤ length xs
filter-le p [] = omega arith
filter-le p (x ∷ xs) = elim (cases_Bool (p x)) [
  | inl a ↦ rw a (let r = filter-le p xs in omega arith)
  | inr a ↦ rw a (let r = filter-le p xs in omega arith)
]

-- how many names there are at most, and dynamic ones
pub names-few : (inputs : List Input) → length (names_in (occurrences inputs)) ≤ sum_by (λ x. length x.object.symbols) inputs
names-few inputs =
    let once = once-le (map (λ (o : Occurrence). o.name) (occurrences inputs)) in
    let same = length-map (occurrences inputs) (λ (o : Occurrence). o.name) in
    let all = occurrences-le inputs in
    omega (arith, once, same, all)

pub dynamic-few : (kit : Kit) (inputs : List Input) → length (dynamic_names kit inputs) ≤ sum_by (λ x. length x.object.symbols) inputs
dynamic-few kit inputs =
    let some = filter-le (is_dynamic kit inputs) (sorted_names inputs) in
    let all : length (sorted_names inputs) ≡ length (names_in (occurrences inputs)) = length_permutation _ _ (in_order-permutes comes_before (names_in (occurrences inputs))) in
    let few = names-few inputs in
    omega (arith, some, all, few)

pub dynamic-once : (kit : Kit) (inputs : List Input) → AreOnce (dynamic_names kit inputs)
dynamic-once kit inputs = ascend-once (dynamic_names kit inputs) (AllPairs-filter (λ x y. comes_before x y ≡ true) (is_dynamic kit inputs) (sorted_names inputs) (names_ascend inputs))

-- THE `export` LINES
module _ (exports : List (List ℕ)) where
  -- whether a name may be exported by the first k of them
  abbrev pub exported_by : ℕ → List ℕ → Bool
  exported_by k name = is_empty exports || among (take k exports) name

  or_false : (b : Bool) → (b || false) ≡ b
  or_false true = refl
  or_false false = refl

  or_true : (b : Bool) → (b || true) ≡ true
  or_true true = refl
  or_true false = refl

  pub empty-is : (length exports == 0) ≡ is_empty exports
  empty-is = go exports
    where
      go : (xs : List (List ℕ)) → (length xs == 0) ≡ is_empty xs
      go [] = refl
      go (x ∷ xs) = ne_eqb (suc (length xs)) 0 (omega arith)

  pub exported-none : (names : List (List ℕ)) → replicate (length names) (is_empty exports) ≡ map (exported_by 0) names
  exported-none [] = refl
  exported-none (m ∷ ms) = rw (or_false (is_empty exports), exported-none ms) refl

  pub exported-all : (names : List (List ℕ)) (k : ℕ) → length exports ≤ k → map (exported_by k) names ≡ map (may_export Library exports) names
  exported-all names k past = same_map (exported_by k) (may_export Library exports) (λ name. ap (λ l. is_empty exports || among l name) (take_all k exports past)) names

  module _ (k : ℕ) (d : List ℕ) (h : k < length exports) where
    more : (name : List ℕ) → exported_by (k + 1) name ≡ (is_empty exports || (among (take k exports) name || bytes_eq name (get_or exports k d)))
    more name = ap (λ l. is_empty exports || among l name) (take_more exports k d h) ∙ ap (λ b. is_empty exports || b) (among_one (take k exports) (get_or exports k d) name)

    same : (name : List ℕ) → bytes_eq (get_or exports k d) name ≡ false → exported_by (k + 1) name ≡ exported_by k name
    same name apart =
        let back = other_way (get_or exports k d) name apart in
        more name ∙ rw back (ap (λ b. is_empty exports || b) (or_false (among (take k exports) name)))

    pub exported-more : (names : List (List ℕ)) (n : ℕ) → AreOnce names → slice_get names n ≡ Some (get_or exports k d)
        → slice_set (map (exported_by k) names) n true ≡ map (exported_by (k + 1)) names
    exported-more names n once at =
        let self = same_self (get_or exports k d) in
        let one : exported_by (k + 1) (get_or exports k d) ≡ true =
        more (get_or exports k d) ∙ rw self (ap (λ b. is_empty exports || b) (or_true (among (take k exports) (get_or exports k d))) ∙ or_true (is_empty exports)) in
        ap (slice_set (map (exported_by k) names) n) (sym one) ∙ sym (set-one (exported_by k) (exported_by (k + 1)) (get_or exports k d) same names n once at)

    pub exported-same : (names : List (List ℕ)) → place_in names (get_or exports k d) ≡ None → map (exported_by k) names ≡ map (exported_by (k + 1)) names
    exported-same names none = sym (kept (exported_by k) (exported_by (k + 1)) (get_or exports k d) same names (missing-among (get_or exports k d) 0 names none))

-- THE NAMES THAT ARE LISTED
abbrev pub no_linkage : Linkage
no_linkage = record { exported = false; replaceable = false; importable = false }

pub there : (names : List (List ℕ)) (n : ℕ) (d : List ℕ) → n < length names → slice_get names n ≡ Some (get_or names n d)
there [] n d h = absurd (omega arith)
there (m ∷ ms) zero d h = refl
there (m ∷ ms) (suc n) d h = there ms n d (omega arith)

module _ {X : Type 0} (name : X → List ℕ) (number : X → ℕ) (p : List ℕ → Bool) (names : List (List ℕ)) (xs : List X) (n : ℕ) (d : List ℕ) (h : n < length names)
    (before : map name xs ≡ filter p (take n names)) (lead : All (λ x. slice_get names (number x) ≡ Some (name x)) xs) where
  pub listed-more : (x : X) → name x ≡ get_or names n d → number x ≡ n → p (get_or names n d) ≡ true
      → (map name (xs ++ x ∷ []) ≡ filter p (take (n + 1) names)) × All (λ x. slice_get names (number x) ≡ Some (name x)) (xs ++ x ∷ [])
  listed-more x named at passes =
      let one : slice_get names (number x) ≡ Some (name x) = rw (at, named) (there names n d h) in
      let more : filter p (take (n + 1) names) ≡ filter p (take n names) ++ get_or names n d ∷ [] = filter_more p names n d h ∙ rw passes refl in (
        map-append name xs (x ∷ []) ∙ (ap (λ (l : List (List ℕ)). l ++ name x ∷ []) before ∙ (ap (λ m. filter p (take n names) ++ m ∷ []) named ∙ sym more)),
        All-push (λ x. slice_get names (number x) ≡ Some (name x)) xs x lead one,
      )

  pub listed-same : p (get_or names n d) ≡ false → map name xs ≡ filter p (take (n + 1) names)
  listed-same fails =
      let more : filter p (take (n + 1) names) ≡ filter p (take n names) = filter_more p names n d h ∙ rw fails (append-nil (filter p (take n names))) in
      before ∙ sym more

-- THE NUMBERS OF DYNAMIC NAMES
module _ (ds : List (List ℕ)) where
  abbrev pub placed_by : ℕ → List ℕ → ℕ
  placed_by k name = unwrap_or (position_from (bytes_eq name) 0 (take k ds)) 0

  pub placed-none : (names : List (List ℕ)) → replicate (length names) 0 ≡ map (placed_by 0) names
  placed-none [] = refl
  placed-none (m ∷ ms) = ap (λ l. 0 ∷ l) (placed-none ms)

  pub placed-more : (names : List (List ℕ)) (k number : ℕ) (d : List ℕ) → AreOnce names → AreOnce ds → k < length ds → slice_get names number ≡ Some (get_or ds k d)
      → slice_set (map (placed_by k) names) number k ≡ map (placed_by (k + 1)) names
  placed-more names k number d once distinct h at =
      let long : length (take k ds) ≡ k = length-take-le k ds (omega arith) in
      let fresh = no-place 0 (take k ds) (get_or ds k d) (once-fresh ds k d distinct h) in
      let z : 0 + k ≡ k = omega arith in
      let new : placed_by (k + 1) (get_or ds k d) ≡ k =
      rw (take_more ds k d h, place_push 0 (take k ds) (get_or ds k d) (get_or ds k d), fresh, same_self (get_or ds k d), long) z in
      ap (slice_set (map (placed_by k) names) number) (sym new)
      ∙ sym (set-one (placed_by k) (placed_by (k + 1)) (get_or ds k d) (λ m e. same m e) names number once at)
    where
      or_none : (o : Option ℕ) → option_or o None ≡ o
      or_none None = refl
      or_none (Some x) = refl

      same : (m : List ℕ) → bytes_eq (get_or ds k d) m ≡ false → placed_by (k + 1) m ≡ placed_by k m
      same m e =
          rw (take_more ds k d h, place_push 0 (take k ds) (get_or ds k d) m, other_way (get_or ds k d) m e)
          (ap (λ (o : Option ℕ). unwrap_or o 0) (or_none (position_from (bytes_eq m) 0 (take k ds))))

pub placed-all : (kit : Kit) (inputs : List Input) (names : List (List ℕ)) (k : ℕ) → length (dynamic_names kit inputs) ≤ k
    → map (placed_by (dynamic_names kit inputs) k) names ≡ map (name_number kit inputs) names
placed-all kit inputs names k past =
    same_map (placed_by (dynamic_names kit inputs) k) (name_number kit inputs)
    (λ name. ap (λ l. unwrap_or (position_from (bytes_eq name) 0 l) 0) (take_all k (dynamic_names kit inputs) past)) names
