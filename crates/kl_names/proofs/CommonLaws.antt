-- The commons that hold, among the names that have common symbols.
use Rattle.std.proofs.Common.{ℕ, zero, suc, ◌≡◌, ◌+◌, ◌<◌, ◌≤◌, ◌∙◌, List, [], ◌∷◌, ◌++◌, length, get_or, take, refl, ap, sym, Bool, true, false, not, ◌&&◌, ◌||◌, cond, inl, inr, arith}
use Rattle.std.specs.Prelude.{Some, None, Option, slice_get, map, filter, is_none, sum_by}
use Rattle.std.specs.Str.{bytes_eq}
use Rattle.std.specs.Option.{option_map}
use Rattle.std.proofs.lemmas.Bool.{cases_Bool}
use Rattle.std.proofs.lemmas.List.{append-nil, length-map, map-append}
use Rattle.std.proofs.lemmas.List.Elements.{filter_more}
use Rattle.kl_base.specs.declared.limits.TheConstants.{SYMBOL_COUNT_LIMIT}
use Rattle.kl_elf.specs.declared.abi.TheConstants.{STB_GLOBAL}
use Rattle.kl_model.specs.Lists.{among, each, each_from, once}
use Rattle.kl_model.specs.Kits.{is_empty}
use Rattle.kl_model.specs.Names.{Occurrence, common_align, common_names, common_size, commons_of, first_definition, is_common, occurrences}
use Rattle.kl_model.specs.declared.object.Input.{Input}
use Rattle.kl_model.specs.declared.kit.Kit.{Kit}
use Rattle.kl_model.specs.declared.graph.Piece.{Piece}
use Rattle.kl_model.proofs.Each.{each_push}
use Rattle.kl_names.specs.Commons.{piece_of_common}
use Rattle.kl_names.specs.Facts.{common_of, common_symbol_names, facts_of, stands_at}
use Rattle.kl_names.specs.declared.facts.NameFacts.{NameFacts}
use Rattle.kl_names.proofs.FactSteps.{common-stands}
use Rattle.kl_names.proofs.NameLists.{among-once, same_self, same_text}
use Rattle.kl_names.proofs.Steps.{occurrences-le, once-le}

-- a test of names commutes with taking each once
filter_swap : {X : Type 0} (p q : X → Bool) (xs : List X) → filter p (filter q xs) ≡ filter q (filter p xs)
filter_swap p q [] = refl
filter_swap p q (x ∷ xs) = elim (cases_Bool (p x)) [
  | inl a ↦ elim (cases_Bool (q x)) [ inl b ↦ rw (a, b, a, filter_swap p q xs) refl | inr b ↦ rw (a, b) (filter_swap p q xs) ]
  | inr a ↦ elim (cases_Bool (q x)) [ inl b ↦ rw (a, b, a) (filter_swap p q xs) | inr b ↦ rw (a, b) (filter_swap p q xs) ]
]

dropped : (q : List ℕ → Bool) (m : List ℕ) → q m ≡ false → (ms : List (List ℕ)) → filter q (filter (λ y. not (bytes_eq m y)) ms) ≡ filter q ms
dropped q m e [] = refl
dropped q m e (x ∷ ms) = elim (cases_Bool (bytes_eq m x)) [
  | inl a ↦ let s : m ≡ x = same_text m x a in let none : q x ≡ false = rw s at e in rw (a, none) (dropped q m e ms)
  | inr a ↦ elim (cases_Bool (q x)) [ inl b ↦ rw (a, b, dropped q m e ms) refl | inr b ↦ rw (a, b) (dropped q m e ms) ]
]

once-filter : (q : List ℕ → Bool) (ms : List (List ℕ)) → once bytes_eq (filter q ms) ≡ filter q (once bytes_eq ms)
once-filter q [] = refl
once-filter q (m ∷ ms) = elim (cases_Bool (q m)) [
  | inl a ↦ rw (a, once-filter q ms, filter_swap (λ y. not (bytes_eq m y)) q (once bytes_eq ms)) refl
  | inr a ↦ rw (a, once-filter q ms) (sym (dropped q m a (once bytes_eq ms)))
]

names-filter : (p : Occurrence → Bool) (q : List ℕ → Bool) (os : List Occurrence) → map (λ o. o.name) (filter (λ o. p o && q o.name) os) ≡ filter q (map (λ o. o.name) (filter p os))
names-filter p q [] = refl
names-filter p q (o ∷ os) = elim (cases_Bool (p o)) [
  | inl a ↦ elim (cases_Bool (q o.name)) [ inl b ↦ rw (a, b, names-filter p q os) refl | inr b ↦ rw (a, b) (names-filter p q os) ]
  | inr a ↦ rw a (names-filter p q os)
]

-- the names of some list at a place
pub map-at : {X Y : Type 0} (f : X → Option Y) (ns : List X) (cs : List Y) (j : ℕ) (d : X) (e : Y) → map f ns ≡ map Some cs → j < length ns
    → (j < length cs) × (f (get_or ns j d) ≡ Some (get_or cs j e))
map-at f [] cs j d e same h = absurd (omega arith)
map-at f (n ∷ ns) [] j d e same h = cc
map-at f (n ∷ ns) (c ∷ cs) zero d e same h = (omega arith, (let first : f n ≡ Some c = cc in first))
map-at f (n ∷ ns) (c ∷ cs) (suc j) d e same h =
    let rest : map f ns ≡ map Some cs = cc in
    let r = map-at f ns cs j d e rest (omega arith) in
    let l = r.0 in (omega arith, r.1)

pub among-at : (ms : List (List ℕ)) (j : ℕ) (d : List ℕ) → j < length ms → among ms (get_or ms j d) ≡ true
among-at [] j d h = absurd (omega arith)
among-at (m ∷ ms) zero d h = let s = same_self m in rw s refl
among-at (m ∷ ms) (suc j) d h = or_right (bytes_eq (get_or ms j d) m) (among-at ms j d (omega arith))
  where
    or_right : (a : Bool) {b : Bool} → b ≡ true → (a || b) ≡ true
    or_right true e = refl
    or_right false e = e

-- a name with common symbols has a piece, if it has no GLOBAL definition
pub has_common : (inputs : List Input) (name : List ℕ) → among (common_symbol_names inputs) name ≡ true
    → common_of inputs name ≡ Some (record { size = common_size inputs name; align = common_align inputs name })
has_common inputs name e = go (is_empty (commons_of inputs name)) refl
  where
    go : (b : Bool) → is_empty (commons_of inputs name) ≡ b → common_of inputs name ≡ Some (record { size = common_size inputs name; align = common_align inputs name })
    go false h = rw h refl
    go true h =
        let none : is_none (common_of inputs name) ≡ true = rw h refl in
        let some : is_none (common_of inputs name) ≡ false =
        common-stands (occurrences inputs) name ∙ ap not (sym (among-once (map (λ o. o.name) (filter is_common (occurrences inputs))) name) ∙ e) in
        let no : true ≡ false = sym none ∙ some in cc

pub commons-small : (inputs : List Input) → sum_by (λ x. length x.object.symbols) inputs ≤ SYMBOL_COUNT_LIMIT → length (common_symbol_names inputs) ≤ SYMBOL_COUNT_LIMIT
commons-small inputs few =
    let once = once-le (map (λ o. o.name) (filter is_common (occurrences inputs))) in
    let same = length-map (filter is_common (occurrences inputs)) (λ o. o.name) in
    let some = fewer (occurrences inputs) in
    let all = occurrences-le inputs in
    omega (arith, once, same, some, all, few)
  where
    fewer : (os : List Occurrence) → length (filter is_common os) ≤ length os
    fewer [] = omega arith
    fewer (o ∷ os) = elim (cases_Bool (is_common o)) [
      | inl a ↦ rw a (let r = fewer os in omega arith)
      | inr a ↦ rw a (let r = fewer os in omega arith)
    ]

module _ (kit : Kit) (inputs : List Input) where
  -- a name without a GLOBAL definition
  abbrev pub is_free : List ℕ → Bool
  is_free name = is_none (first_definition kit inputs STB_GLOBAL name)

  abbrev pub free : List (List ℕ) → List (List ℕ)
  free names = filter is_free names

  pub common_names-free : common_names kit inputs ≡ free (common_symbol_names inputs)
  common_names-free = ap (once bytes_eq) (names-filter is_common is_free (occurrences inputs)) ∙ once-filter is_free (map (λ o. o.name) (filter is_common (occurrences inputs)))

  abbrev pub piece_of : ℕ → List ℕ → List Piece
  piece_of k name = piece_of_common k (record { size = common_size inputs name; align = common_align inputs name }) ∷ []

  length-pieces : (n : ℕ) (ms : List (List ℕ)) → length (each_from n piece_of ms) ≡ length ms
  length-pieces n [] = refl
  length-pieces n (m ∷ ms) = ap suc (length-pieces (suc n) ms)

  pub length-free : (names : List (List ℕ)) → length (each (free names) piece_of) ≤ length names
  length-free names = let many = length-pieces 0 (free names) in let few = fewer names in omega arith
    where
      fewer : (ms : List (List ℕ)) → length (free ms) ≤ length ms
      fewer [] = omega arith
      fewer (m ∷ ms) = elim (cases_Bool (is_free m)) [
        | inl a ↦ rw a (let r = fewer ms in omega arith)
        | inr a ↦ rw a (let r = fewer ms in omega arith)
      ]

  module _ (names : List (List ℕ)) (j : ℕ) (d : List ℕ) (h : j < length names) where
    -- one common more, which holds, and one that doesn't
    pub pieces-more : is_free (get_or names j d) ≡ true
        → each (free (take (j + 1) names)) piece_of ≡ each (free (take j names)) piece_of ++ piece_of (length (each (free (take j names)) piece_of)) (get_or names j d)
    pieces-more e =
        ap (λ l. each l piece_of) (filter_more is_free names j d h ∙ rw e refl)
        ∙ (each_push 0 piece_of (free (take j names)) (get_or names j d)
        ∙ ap (λ k. each (free (take j names)) piece_of ++ piece_of k (get_or names j d)) (let many = length-pieces 0 (free (take j names)) in omega arith))

    pub numbers-more : (index : List (List ℕ)) (numbers : List ℕ) (n : ℕ) → is_free (get_or names j d) ≡ true → slice_get index n ≡ Some (get_or names j d)
        → map (slice_get index) numbers ≡ map Some (free (take j names)) → map (slice_get index) (numbers ++ n ∷ []) ≡ map Some (free (take (j + 1) names))
    numbers-more index numbers n e at before =
        let more : free (take (j + 1) names) ≡ free (take j names) ++ get_or names j d ∷ [] = filter_more is_free names j d h ∙ rw e refl in
        rw (more, map-append (slice_get index) numbers (n ∷ []), map-append Some (free (take j names)) (get_or names j d ∷ []), before, at) refl

    pub free-same : is_free (get_or names j d) ≡ false → free (take (j + 1) names) ≡ free (take j names)
    free-same e = filter_more is_free names j d h ∙ rw e (append-nil _)

none-mapped : {X Y : Type 0} (f : X → Y) (r : Option X) → is_none (option_map f r) ≡ is_none r
none-mapped f None = refl
none-mapped f (Some x) = refl

-- what the commons of a name ask for that has some, where they hold
pub holds-where : (kit : Kit) (inputs : List Input) (name : List ℕ) (f : NameFacts) → f ≡ facts_of kit inputs name → among (common_symbol_names inputs) name ≡ true
    → cond (is_none f.global) f.common None ≡ cond (is_free kit inputs name) (Some (record { size = common_size inputs name; align = common_align inputs name })) None
holds-where kit inputs name f fact e =
    let global = ap (λ (f : NameFacts). is_none f.global) fact ∙ none-mapped stands_at (first_definition kit inputs STB_GLOBAL name) in
    let common = ap (λ (f : NameFacts). f.common) fact ∙ has_common inputs name e in
    rw (global, common) refl

pub chosen : {X : Type 0} (b : Bool) (x y : X) → cond b (Some x) None ≡ Some y → (b ≡ true) × (x ≡ y)
chosen true x y e = (refl, (let same : x ≡ y = cc in same))
chosen false x y e = cc

pub left_out : {X : Type 0} (b : Bool) (x : X) → cond b (Some x) None ≡ None → b ≡ false
left_out true x e = cc
left_out false x e = refl
