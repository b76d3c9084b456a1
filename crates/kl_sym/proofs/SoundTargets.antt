-- Where names and symbols of fit inputs lead: to numbers that are in their lists.
use Rattle.std.proofs.Common.{ℕ, suc, ◌≡◌, ◌+◌, ◌<◌, ◌∙◌, List, [], ◌∷◌, length, get_or, map, refl, ap, sym, arith, Bool, true, false, not, ◌&&◌, inl, inr, length-append}
use Rattle.std.specs.Prelude.{Some, None, Option, ◌==◌, All, IfSome, find, flat_map, nat_lt, unwrap_or}
use Rattle.std.specs.Option.{option_map, option_or}
use Rattle.std.specs.List.{list_any, position_from}
use Rattle.std.specs.Str.{bytes_eq}
use Rattle.std.proofs.lemmas.Bool.{cases_Bool, eqb-false}
use Rattle.std.proofs.lemmas.List.{get_or_default}
use Rattle.std.proofs.lemmas.List.Elements.{All-append, All-cons, All-filter, All-head, All-map, All-tail}
use Rattle.kl_base.proofs.Bools.{and_left, and_right, equal_bytes, not_true, or_right}
use Rattle.kl_elf.specs.declared.abi.TheConstants.{SHN_ABS, SHN_COMMON, STB_GLOBAL, STB_WEAK}
use Rattle.kl_model.specs.Lists.{each_from}
use Rattle.kl_model.specs.Kept.{input_at, is_kept, no_input}
use Rattle.kl_model.specs.Names.{ByCommon, BySymbol, Definer, Occurrence, common_names, common_number, definer, definition, edge_lines, edge_names, edge_of, first_definition, is_common, is_definition, kept_numbers, leads_to, lines_in_order, occurrences, occurrences_of, own_definition, piece_number, symbol_target}
use Rattle.kl_model.specs.Graphs.{common_pieces, graph, section_pieces}
use Rattle.kl_model.specs.Fit.{AreFit, IsFitSymbol}
use Rattle.kl_model.specs.Sound.{IsSoundTarget}
use Rattle.kl_model.specs.declared.area.TheConstants as area
use Rattle.kl_model.specs.declared.object.Input.{Input}
use Rattle.kl_model.specs.declared.object.Symbol.{Symbol}
use Rattle.kl_model.specs.declared.kit.EdgeLine.{EdgeLine}
use Rattle.kl_model.specs.declared.kit.Run.{Run}
use Rattle.kl_model.specs.declared.kit.Kit.{Kit}
use Rattle.kl_model.specs.declared.graph.Target.{Target}
use Rattle.kl_model.specs.declared.graph.Target.TheVariants.{Place, Edge}
use Rattle.kl_model.proofs.Each.{all-only_if, each-all}
use Rattle.kl_model.proofs.ListWords.{in_order-all}
use Rattle.kl_sym.proofs.PieceNumbers.{kept-pieces}
use Rattle.kl_sym.proofs.KeptPieces.{kept_known}
use Rattle.kl_sym.proofs.KeptPieces.{number-lt}

pub find_is : {X : Type 0} (P : X → Type 0) (p : X → Bool) (xs : List X) (x : X) → All P xs → find p xs ≡ Some x → P x × (p x ≡ true)
find_is P p [] x all e = cc
find_is P p (y ∷ ys) x all e =
    elim (cases_Bool (p y)) [
      | inl a ↦ let found : Some y ≡ Some x = rw a at e in let same : y ≡ x = cc in rw (← same) (All-head P y ys all, a)
      | inr a ↦ find_is P p ys x (All-tail P y ys all) (rw a at e)
    ]

-- a place among items one of which passes
pub position-any : {X : Type 0} (p : X → Bool) (n : ℕ) (xs : List X) → list_any p xs ≡ true → (k : ℕ) × (k < length xs) × (position_from p n xs ≡ Some (n + k))
position-any p n [] e = cc
position-any p n (x ∷ xs) e =
    elim (cases_Bool (p x)) [
      | inl a ↦ (0, omega arith, (let z : n + 0 ≡ n = omega arith in rw (a, z) refl))
      | inr a ↦
          let more = position-any p (n + 1) xs (rw a at e) in
          (suc more.0, (let l = more.1 in omega arith), (let z : n + 1 + more.0 ≡ n + suc more.0 = omega arith in rw a (more.2 ∙ ap Some z)))
    ]

find-any : {X : Type 0} (p : X → Bool) (xs : List X) (x : X) → find p xs ≡ Some x → list_any p xs ≡ true
find-any p [] x e = cc
find-any p (y ∷ ys) x e = elim (cases_Bool (p y)) [ inl a ↦ rw a refl | inr a ↦ rw a (find-any p ys x (rw a at e)) ]

all_flat : {X Y : Type 0} (P : Y → Type 0) (f : X → List Y) (xs : List X) → All (λ x. All P (f x)) xs → All P (flat_map f xs)
all_flat P f [] all = λ k d h. absurd (omega arith)
all_flat P f (x ∷ xs) all = All-append P (f x) (flat_map f xs) (All-head (λ x. All P (f x)) x xs all) (all_flat P f xs (All-tail (λ x. All P (f x)) x xs all))

pub length-ones : {X Y : Type 0} (n : ℕ) (f : ℕ → X → Y) (xs : List X) → length (each_from n (λ k x. f k x ∷ []) xs) ≡ length xs
length-ones n f [] = refl
length-ones n f (x ∷ xs) = ap suc (length-ones (suc n) f xs)

-- a symbol that isn't LOCAL is one of a fit input
pub record IsOccurrence (inputs : List Input) (o : Occurrence) : Type 0 where
  pub known : o.input < length inputs
  pub fits : IsFitSymbol (input_at inputs o.input).bytes (length (input_at inputs o.input).object.sections) o.symbol

-- an edge of an area of the table, or of a run
abbrev pub EdgesKnown : Kit → Type 0
EdgesKnown kit = All (λ e. e.area < area.FIRST_RUN) kit.edges

module _ (kit : Kit) (inputs : List Input) (fit : AreFit inputs) where
  pub all_occur : All (IsOccurrence inputs) (occurrences inputs)
  all_occur =
      each-all (IsOccurrence inputs) 0 _ inputs (λ i d h.
      let x : get_or inputs i d ≡ input_at inputs i = get_or_default inputs i d no_input h in
      let z : 0 + i ≡ i = omega arith in
      rw (x, z) (each-all (IsOccurrence inputs) 0 _ (input_at inputs i).object.symbols (λ k e l.
      all-only_if (IsOccurrence inputs) _ _ (λ local. record { known = h; fits = (fit.each_input i no_input h).symbols.each_symbol k e l }))))

  pub whole_pieces : length (graph kit inputs).pieces ≡ length (section_pieces kit inputs) + length (common_pieces kit inputs)
  unfolding graph
  whole_pieces = length-append (section_pieces kit inputs) (common_pieces kit inputs)

  pub number_known : (i s : ℕ) → is_kept kit inputs i s ≡ true → piece_number kit inputs i s < length (graph kit inputs).pieces
  number_known i s kept =
      let known = kept_known kit inputs i s kept in
      let low = number-lt kit inputs i known.1.0 known.0 known.1.2 (rw known.1.1 at kept) in
      let here : piece_number kit inputs i s < length (section_pieces kit inputs) = rw known.1.1 low in
      let whole = whole_pieces in
      omega arith

  -- a symbol of a kept section
  pub place_sound : (b : List ℕ) (count i : ℕ) (y : Symbol) → IsFitSymbol b count y → (y.section == SHN_ABS) ≡ false → (y.section == SHN_COMMON) ≡ false
      → is_kept kit inputs i y.section ≡ true → IsSoundTarget kit (graph kit inputs) (Place (piece_number kit inputs i y.section) y.value)
  place_sound b count i y fits absolute common kept =
      let known = kept_known kit inputs i y.section kept in
      let is = known.1.1 in (
        number_known i y.section kept,
        elim fits.section [
          | inl e ↦ absurd (eqb-false y.section SHN_ABS absolute e)
          | inr (inl e) ↦ absurd (eqb-false y.section SHN_COMMON common e)
          | inr (inr (low, high)) ↦ fits.value (omega (arith, is)) high
        ],
      )

  symbol_sound : (o : Occurrence) → IsOccurrence inputs o → is_definition kit inputs o ≡ true → IsSoundTarget kit (graph kit inputs) (symbol_target kit inputs o)
  symbol_sound o is defined =
      elim (cases_Bool (o.symbol.section == SHN_ABS)) [
        | inl a ↦ rw a is.fits.words.0
        | inr a ↦
            let rest = or_right (o.symbol.section == SHN_ABS) _ defined a in
            rw a (place_sound _ _ o.input o.symbol is.fits a (not_true (is_common o) (and_left _ _ rest)) (and_right (not (is_common o)) _ rest))
      ]

  first_sound : (binding : ℕ) (name : List ℕ) (o : Occurrence) → first_definition kit inputs binding name ≡ Some o → IsSoundTarget kit (graph kit inputs) (symbol_target kit inputs o)
  first_sound binding name o e =
      let found = find_is (IsOccurrence inputs) (λ o. (o.symbol.binding == binding) && is_definition kit inputs o) (occurrences_of inputs name) o
      (All-filter (λ o. bytes_eq o.name name) (IsOccurrence inputs) (occurrences inputs) all_occur) e in
      symbol_sound o found.0 (and_right (o.symbol.binding == binding) _ found.1)

  pub pieces_numbered : length (section_pieces kit inputs) ≡ length (kept_numbers kit inputs)
  pieces_numbered = sym (kept-pieces kit inputs 0 inputs)

  common_sound : (name found : List ℕ) → find (bytes_eq name) (common_names kit inputs) ≡ Some found → IsSoundTarget kit (graph kit inputs) (Place (common_number kit inputs found) 0)
  common_sound name found e =
      let all : All (λ (n : List ℕ). ℕ) (common_names kit inputs) = λ k d h. 0 in
      let same : name ≡ found = equal_bytes name found (find_is (λ (n : List ℕ). ℕ) (bytes_eq name) (common_names kit inputs) found all e).1 in
      let at = position-any (bytes_eq found) (length (kept_numbers kit inputs)) (common_names kit inputs) (rw same at (find-any (bytes_eq name) (common_names kit inputs) found e)) in
      let number : common_number kit inputs found ≡ length (kept_numbers kit inputs) + at.0 = ap (λ o. unwrap_or o 0) at.2 in
      let low = at.1 in
      let whole = whole_pieces in
      let sections = pieces_numbered in
      let commons : length (common_pieces kit inputs) ≡ length (common_names kit inputs) = length-ones 0 _ (common_names kit inputs) in
      (omega arith, omega arith)

  definer_sound : (name : List ℕ) → IfSome (definer kit inputs name) (λ d. IsSoundTarget kit (graph kit inputs) (leads_to kit inputs d))
  definer_sound name = global (first_definition kit inputs STB_GLOBAL name) refl
    where
      weak : (o : Option Occurrence) → first_definition kit inputs STB_WEAK name ≡ o
          → IfSome (option_map BySymbol o) (λ d. IsSoundTarget kit (graph kit inputs) (leads_to kit inputs d))
      weak None e = tt
      weak (Some o) e = first_sound STB_WEAK name o e

      common : (n : Option (List ℕ)) → find (bytes_eq name) (common_names kit inputs) ≡ n
          → IfSome (option_or (option_map ByCommon n) (option_map BySymbol (first_definition kit inputs STB_WEAK name))) (λ d. IsSoundTarget kit (graph kit inputs) (leads_to kit inputs d))
      common None e = weak (first_definition kit inputs STB_WEAK name) refl
      common (Some n) e = common_sound name n e

      global : (o : Option Occurrence) → first_definition kit inputs STB_GLOBAL name ≡ o
          → IfSome (option_or (option_map BySymbol o) (option_or (option_map ByCommon (find (bytes_eq name) (common_names kit inputs))) (option_map BySymbol (first_definition kit inputs STB_WEAK name))))
          (λ d. IsSoundTarget kit (graph kit inputs) (leads_to kit inputs d))
      global None e = common (find (bytes_eq name) (common_names kit inputs)) refl
      global (Some o) e = first_sound STB_GLOBAL name o e

  -- a definition by symbols
  pub own_sound : (name : List ℕ) → IfSome (own_definition kit inputs name) (IsSoundTarget kit (graph kit inputs))
  own_sound name = go (definer kit inputs name) (definer_sound name)
    where
      go : (d : Option Definer) → IfSome d (λ d. IsSoundTarget kit (graph kit inputs) (leads_to kit inputs d)) → IfSome (option_map (leads_to kit inputs) d) (IsSoundTarget kit (graph kit inputs))
      go None h = tt
      go (Some d) h = h

  module _ (known : EdgesKnown kit) where
    abbrev SoundEdge : List ℕ × Target → Type 0
    SoundEdge e = IsSoundTarget kit (graph kit inputs) e.1

    abbrev SoundLine : ℕ × List (List ℕ × Target) → Type 0
    SoundLine x = All SoundEdge x.1

    one_edge : (e : List ℕ × Target) → SoundEdge e → All SoundEdge (e ∷ [])
    one_edge e h = All-cons SoundEdge e [] h (λ k d l. absurd (omega arith))

    run_line : (n : ℕ) (r : Run) → n < area.FIRST_RUN + length kit.runs → All SoundLine ((r.line, (r.start, Edge n false) ∷ (r.end, Edge n true) ∷ []) ∷ [])
    run_line n r low =
        All-cons SoundLine (r.line, (r.start, Edge n false) ∷ (r.end, Edge n true) ∷ []) []
        (All-cons SoundEdge (r.start, Edge n false) ((r.end, Edge n true) ∷ []) low (one_edge (r.end, Edge n true) low)) (λ k d l. absurd (omega arith))

    edge_line : (e : EdgeLine) → e.area < area.FIRST_RUN → SoundLine (e.line, (e.symbol, Edge e.area e.end) ∷ [])
    edge_line e low = one_edge (e.symbol, Edge e.area e.end) (omega (arith, low))

    edges_sound : All SoundEdge (edge_names kit)
    edges_sound = all_flat SoundEdge (λ x. x.1) (lines_in_order kit) (in_order-all (λ x y. nat_lt x.0 y.0) SoundLine (edge_lines kit)
        (All-append SoundLine (each_from area.FIRST_RUN (λ k r. (r.line, (r.start, Edge k false) ∷ (r.end, Edge k true) ∷ []) ∷ []) kit.runs)
        (map (λ e. (e.line, (e.symbol, Edge e.area e.end) ∷ [])) kit.edges)
        (each-all SoundLine area.FIRST_RUN (λ k (r : Run). (r.line, (r.start, Edge k false) ∷ (r.end, Edge k true) ∷ []) ∷ []) kit.runs
        (λ k d h. run_line (area.FIRST_RUN + k) (get_or kit.runs k d) (omega arith)))
        (All-map SoundLine (λ (e : EdgeLine). (e.line, (e.symbol, Edge e.area e.end) ∷ [])) kit.edges (λ k d h. edge_line (get_or kit.edges k d) (known k d h)))))

    edge_sound : (name : List ℕ) → IfSome (edge_of kit name) (IsSoundTarget kit (graph kit inputs))
    edge_sound name = go (find (λ e. bytes_eq e.0 name) (edge_names kit)) refl
      where
        go : (o : Option (List ℕ × Target)) → find (λ e. bytes_eq e.0 name) (edge_names kit) ≡ o → IfSome (option_map (λ e. e.1) o) (IsSoundTarget kit (graph kit inputs))
        go None e = tt
        go (Some o) e = (find_is SoundEdge (λ e. bytes_eq e.0 name) (edge_names kit) o edges_sound e).0

    -- the definition of a name
    pub definition_sound : (name : List ℕ) → IfSome (definition kit inputs name) (IsSoundTarget kit (graph kit inputs))
    definition_sound name = go (own_definition kit inputs name) (edge_of kit name) (own_sound name) (edge_sound name)
      where
        go : (a b : Option Target) → IfSome a (IsSoundTarget kit (graph kit inputs)) → IfSome b (IsSoundTarget kit (graph kit inputs)) → IfSome (option_or a b) (IsSoundTarget kit (graph kit inputs))
        go None b h k = k
        go (Some a) b h k = h
