-- The edges of names, and the names of edges that symbols define too.
use Rattle.std.proofs.Common.{ℕ, zero, suc, ◌≡◌, ◌+◌, ◌<◌, ◌≤◌, ◌∙◌, List, [], ◌∷◌, ◌++◌, length, get_or, take, slice_set, refl, ap, sym, Bool, true, false, not, ◌&&◌, ◌||◌, cond, inl, inr, arith}
use Rattle.std.specs.Prelude.{Some, None, Option, flat_map, slice_get, map, filter, find, is_some, replicate}
use Rattle.std.specs.Str.{bytes_eq}
use Rattle.std.specs.Option.{option_map, option_or}
use Rattle.std.specs.List.{list_any}
use Rattle.std.proofs.lemmas.Bool.{cases_Bool}
use Rattle.std.proofs.lemmas.List.{length-map, take_all, take_more}
use Rattle.std.proofs.lemmas.List.Folds.{find-append}
use Rattle.std.proofs.lemmas.Grind.{flat_map-append}
use Rattle.kl_elf.specs.declared.abi.TheConstants.{STB_GLOBAL}
use Rattle.kl_model.specs.Lists.{among, once, only_if}
use Rattle.kl_model.specs.Kits.{is_empty}
use Rattle.kl_model.specs.Names.{Occurrence, common_names, definition, edge_of, first_definition, is_common, kept_numbers, occurrences, own_definition}
use Rattle.kl_model.specs.Faults.{is_global_definition}
use Rattle.kl_model.specs.declared.object.Input.{Input}
use Rattle.kl_model.specs.declared.kit.Kit.{Kit}
use Rattle.kl_model.specs.declared.graph.Target.{Target}
use Rattle.kl_model.specs.declared.graph.Target.TheVariants.{Place}
use Rattle.kl_model.specs.declared.link.LinkFault.{LinkFault}
use Rattle.kl_model.specs.declared.link.LinkFault.TheVariants as fault
use Rattle.kl_model.proofs.Each.{none_left, none_right}
use Rattle.kl_names.specs.Definitions.{common_target}
use Rattle.kl_names.specs.Edges.{named_edge, shown}
use Rattle.kl_names.specs.Facts.{facts_of, stands_at}
use Rattle.kl_names.specs.Noted.{common_among}
use Rattle.kl_names.specs.Numbers.{names_in, place_in}
use Rattle.kl_names.specs.declared.edges.EdgeName.{EdgeName}
use Rattle.kl_names.specs.declared.facts.NameFacts.{NameFacts}
use Rattle.kl_names.proofs.NameLists.{among-once, missing-among, other_way, same_self}
use Rattle.kl_names.proofs.NotedSteps.{AreOnce, kept, set-one}
use Rattle.kl_names.proofs.OwnLaws.{no-place, own-is-one-of}

-- the edge of a name among some edges
abbrev pub edge_among : List (List ℕ × Target) → List ℕ → Option Target
edge_among es name = option_map (λ e. e.1) (find (λ e. bytes_eq e.0 name) es)

map_or : {X Y : Type 0} (f : X → Y) (a b : Option X) → option_map f (option_or a b) ≡ option_or (option_map f a) (option_map f b)
map_or f None b = refl
map_or f (Some x) b = refl

or_none : {X : Type 0} (o : Option X) → option_or o None ≡ o
or_none None = refl
or_none (Some x) = refl

edge-push : (es : List (List ℕ × Target)) (e : List ℕ × Target) (name : List ℕ) → edge_among (es ++ e ∷ []) name ≡ option_or (edge_among es name) (cond (bytes_eq e.0 name) (Some e.1) None)
edge-push es e name =
    ap (option_map (λ e. e.1)) (find-append (λ e. bytes_eq e.0 name) es (e ∷ []))
    ∙ (map_or (λ e. e.1) (find (λ e. bytes_eq e.0 name) es) (find (λ e. bytes_eq e.0 name) (e ∷ []))
    ∙ ap (option_or (edge_among es name)) (elim (cases_Bool (bytes_eq e.0 name)) [ inl a ↦ rw a refl | inr a ↦ rw a refl ]))

pub edges-none : (names : List (List ℕ)) → replicate (length names) None ≡ map (edge_among []) names
edges-none [] = refl
edges-none (m ∷ ms) = ap (λ l. None ∷ l) (edges-none ms)

-- one edge more: of a name that has no number, and of one that has
module _ (es : List (List ℕ × Target)) (e : List ℕ × Target) where
  others : (m : List ℕ) → bytes_eq e.0 m ≡ false → edge_among (es ++ e ∷ []) m ≡ edge_among es m
  others m a = edge-push es e m ∙ rw a (or_none _)

  pub edges-other : (names : List (List ℕ)) → place_in names e.0 ≡ None → map (edge_among es) names ≡ map (edge_among (es ++ e ∷ [])) names
  edges-other names none = sym (kept (edge_among es) (edge_among (es ++ e ∷ [])) e.0 others names (missing-among e.0 0 names none))

  pub edges-more : (names : List (List ℕ)) (k : ℕ) → AreOnce names → slice_get names k ≡ Some e.0
      → slice_set (map (edge_among es) names) k (option_or (edge_among es e.0) (Some e.1)) ≡ map (edge_among (es ++ e ∷ [])) names
  edges-more names k once at =
      let self = same_self e.0 in
      let here : edge_among (es ++ e ∷ []) e.0 ≡ option_or (edge_among es e.0) (Some e.1) = edge-push es e e.0 ∙ rw self refl in
      sym (set-one (edge_among es) (edge_among (es ++ e ∷ [])) e.0 others names k once at ∙ ap (slice_set (map (edge_among es) names) k) here)

-- an item passes both tests, or one of them
any-either : {X : Type 0} (n p q : X → Bool) (xs : List X) → list_any (λ x. n x && (p x || q x)) xs ≡ (is_some (find q (filter n xs)) || not (is_empty (filter p (filter n xs))))
any-either n p q [] = refl
any-either n p q (x ∷ xs) = elim (cases_Bool (n x)) [
  | inr a ↦ rw a (any-either n p q xs)
  | inl a ↦ elim (cases_Bool (p x)) [
    | inl b ↦ rw (a, b) (sym (or_true _))
    | inr b ↦ elim (cases_Bool (q x)) [
      | inl d ↦ rw (a, b, d) refl
      | inr d ↦ rw (a, b, d) (any-either n p q xs)
    ]
  ]
]
  where
    or_true : (b : Bool) → (b || true) ≡ true
    or_true true = refl
    or_true false = refl

-- a symbol of a name is a common or a GLOBAL definition
module _ (kit : Kit) (inputs : List Input) where
  abbrev pub takes : List ℕ → Occurrence → Bool
  takes name o = bytes_eq o.name name && (is_common o || is_global_definition kit inputs o)

  taken_among : (name : List ℕ) (os : List Occurrence) → list_any (takes name) os
      ≡ (is_some (find (is_global_definition kit inputs) (filter (λ o. bytes_eq o.name name) os)) || not (is_empty (filter is_common (filter (λ o. bytes_eq o.name name) os))))
  taken_among name os = any-either (λ o. bytes_eq o.name name) is_common (is_global_definition kit inputs) os

  some_mapped : {X Y : Type 0} (f : X → Y) (r : Option X) → is_some (option_map f r) ≡ is_some r
  some_mapped f None = refl
  some_mapped f (Some x) = refl

  pub is-taken : (name : List ℕ) (f : NameFacts) → f ≡ facts_of kit inputs name → (is_some f.global || is_some f.common) ≡ list_any (takes name) (occurrences inputs)
  is-taken name f fact =
      let global = ap (λ (f : NameFacts). is_some f.global) fact ∙ some_mapped stands_at (first_definition kit inputs STB_GLOBAL name) in
      let common = ap (λ (f : NameFacts). is_some f.common) fact ∙ some_common (filter is_common (filter (λ o. bytes_eq o.name name) (occurrences inputs))) in
      rw (global, common) (sym (taken_among name (occurrences inputs)))
    where
      some_common : (cs : List Occurrence) → is_some (common_among cs) ≡ not (is_empty cs)
      some_common [] = refl
      some_common (c ∷ cs) = refl

  -- a name without a number has no symbol
  no-symbol : (names : List (List ℕ)) (name : List ℕ) → names ≡ names_in (occurrences inputs) → place_in names name ≡ None → among (map (λ o. o.name) (occurrences inputs)) name ≡ false
  no-symbol names name once none =
      sym (among-once (map (λ o. o.name) (occurrences inputs)) name) ∙ (ap (λ l. among l name) (sym once) ∙ missing-among name 0 names none)

  nameless : (name : List ℕ) (os : List Occurrence) → among (map (λ o. o.name) os) name ≡ false → filter (λ o. bytes_eq o.name name) os ≡ []
  nameless name [] e = refl
  nameless name (o ∷ os) e = elim (cases_Bool (bytes_eq name o.name)) [
    | inl a ↦ let no : true ≡ false = rw a at e in cc
    | inr a ↦ let back = other_way name o.name a in rw back (nameless name os (rw a at e))
  ]

  pub not-taken : (names : List (List ℕ)) (name : List ℕ) → names ≡ names_in (occurrences inputs) → place_in names name ≡ None → list_any (takes name) (occurrences inputs) ≡ false
  not-taken names name once none = taken_among name (occurrences inputs) ∙ rw (nameless name (occurrences inputs) (no-symbol names name once none)) refl

  -- the faults of one edge
  abbrev pub clash_of : List ℕ × Target → List LinkFault
  clash_of e = only_if (list_any (takes e.0) (occurrences inputs)) (fault.EdgeClash e.0)

  module _ (es : List (List ℕ × Target)) (j : ℕ) (d : List ℕ × Target) (h : j < length es) where
    pub clash-more : list_any (takes (get_or es j d).0) (occurrences inputs) ≡ false → flat_map clash_of (take j es) ≡ [] → flat_map clash_of (take (j + 1) es) ≡ []
    clash-more e before = ap (flat_map clash_of) (take_more es j d h) ∙ (flat_map-append clash_of (take j es) (get_or es j d ∷ []) ∙ rw (before, e) refl)

  pub clash-first : (es : List (List ℕ × Target)) (j : ℕ) (d : List ℕ × Target) → j < length es → list_any (takes (get_or es j d).0) (occurrences inputs) ≡ true
      → flat_map clash_of (take j es) ≡ [] → slice_get (flat_map clash_of es) 0 ≡ Some (fault.EdgeClash (get_or es j d).0)
  clash-first [] j d h e before = absurd (omega arith)
  clash-first (x ∷ es) zero d h e before = rw e refl
  clash-first (x ∷ es) (suc j) d h e before =
      let none = none_left (clash_of x) (flat_map clash_of (take j es)) before in
      let rest = none_right (clash_of x) (flat_map clash_of (take j es)) before in
      rw none (clash-first es j d (omega arith) e rest)

  -- a name without a symbol is defined by its edge alone
  pub only-edge : (names : List (List ℕ)) (name : List ℕ) → names ≡ names_in (occurrences inputs) → place_in names name ≡ None → edge_of kit name ≡ definition kit inputs name
  only-edge names name once none =
      let missing = no-symbol names name once none in
      let symbols = nameless name (occurrences inputs) missing in
      let common : common_target kit inputs name ≡ None = ap (option_map (λ k. Place k 0)) (no-place (length (kept_numbers kit inputs)) (common_names kit inputs) name (no-common name missing)) in
      let own : own_definition kit inputs name ≡ None = own-is-one-of kit inputs name ∙ rw (symbols, common) refl in
      rw own refl
    where
      fewer : (p : Occurrence → Bool) (name : List ℕ) (os : List Occurrence) → among (map (λ o. o.name) os) name ≡ false → among (map (λ o. o.name) (filter p os)) name ≡ false
      fewer p name [] e = refl
      fewer p name (o ∷ os) e = elim (cases_Bool (bytes_eq name o.name)) [
        | inl a ↦ let no : true ≡ false = rw a at e in cc
        | inr a ↦ elim (cases_Bool (p o)) [
          | inl b ↦ rw (b, a) (fewer p name os (rw a at e))
          | inr b ↦ rw b (fewer p name os (rw a at e))
        ]
      ]

      no-common : (name : List ℕ) → among (map (λ o. o.name) (occurrences inputs)) name ≡ false → among (common_names kit inputs) name ≡ false
      no-common name e = among-once _ name ∙ fewer _ name (occurrences inputs) e

-- names are the first parts of pairs
pub shown-at : {X Y : Type 0} (f : X → Y) (xs : List X) (j : ℕ) (d : X) (e : Y) → j < length xs → get_or (map f xs) j e ≡ f (get_or xs j d)
shown-at f [] j d e h = absurd (omega arith)
shown-at f (x ∷ xs) zero d e h = refl
shown-at f (x ∷ xs) (suc j) d e h = shown-at f xs j d e (omega arith)

pub shown-take : {X Y : Type 0} (f : X → Y) (j : ℕ) (xs : List X) → map f (take j xs) ≡ take j (map f xs)
shown-take f zero xs = refl
shown-take f (suc j) [] = refl
shown-take f (suc j) (x ∷ xs) = ap (λ l. f x ∷ l) (shown-take f j xs)

-- what is read past the end of a list of edges
abbrev pub no_edge : EdgeName
no_edge = record { name = record { ref_ptr = (0, 0); now = [] }; target = Place 0 0 }

abbrev pub no_pair : List ℕ × Target
no_pair = ([], Place 0 0)

pub edge-is : (edges : List EdgeName) (es : List (List ℕ × Target)) (j : ℕ) → shown edges ≡ es → j < length edges → (j < length es) × (named_edge (get_or edges j no_edge) ≡ get_or es j no_pair)
edge-is edges es j same h =
    let many = sym (length-map edges named_edge) ∙ ap length same in
    (omega (arith, many, h), sym (shown-at named_edge edges j no_edge no_pair h) ∙ ap (λ l. get_or l j no_pair) same)

pub edge-all : (edges : List EdgeName) (es : List (List ℕ × Target)) (j : ℕ) → shown edges ≡ es → length edges ≤ j → take j es ≡ es
edge-all edges es j same past =
    let many = sym (length-map edges named_edge) ∙ ap length same in
    take_all j es (omega (arith, many, past))
