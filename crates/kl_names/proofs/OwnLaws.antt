-- The definition of a name by symbols, from what is noted of it.
use Rattle.std.proofs.Common.{ℕ, zero, suc, ◌≡◌, ◌+◌, ◌<◌, ◌≤◌, ◌∙◌, List, [], ◌∷◌, ◌++◌, length, get_or, take, slice_set, refl, ap, sym, Bool, true, false, not, ◌&&◌, inl, inr, arith}
use Rattle.std.specs.Prelude.{Some, None, Option, IfSome, All, slice_get, map, filter, find, replicate, sum_by, ◌==◌}
use Rattle.std.specs.Str.{bytes_eq}
use Rattle.std.specs.Option.{option_map, option_or}
use Rattle.std.specs.List.{position_from}
use Rattle.std.proofs.lemmas.Bool.{cases_Bool}
use Rattle.std.proofs.lemmas.List.{get_or_default, length-take-le, map-append, take_more}
use Rattle.kl_elf.specs.declared.abi.TheConstants.{SHN_ABS, SHN_COMMON, STB_GLOBAL, STB_WEAK}
use Rattle.kl_model.specs.Lists.{among, each_from, only_if}
use Rattle.kl_model.specs.Texts.{text_at}
use Rattle.kl_model.specs.Kept.{input_at, is_kept, no_input, no_symbol}
use Rattle.kl_model.specs.Names.{BySymbol, ByCommon, Occurrence, common_names, first_definition, is_definition, kept_numbers, leads_to, occurrences, own_definition, symbol_target}
use Rattle.kl_model.specs.declared.object.Section.{Section}
use Rattle.kl_model.specs.declared.object.Input.{Input}
use Rattle.kl_model.specs.declared.kit.Kit.{Kit}
use Rattle.kl_model.specs.declared.graph.Target.{Target}
use Rattle.kl_model.specs.declared.graph.Target.TheVariants.{Place}
use Rattle.kl_model.proofs.Each.{all-only_if, each-all, length-each-le}
use Rattle.kl_names.specs.Definitions.{Stands, common_target, symbol_place}
use Rattle.kl_names.specs.Facts.{common_symbol_names, facts_of, stands_at}
use Rattle.kl_names.specs.Tables.{piece_table, piece_tables}
use Rattle.kl_names.specs.Walked.{occurrence, occurring_in, occurs}
use Rattle.kl_names.specs.declared.facts.SymbolAt.{SymbolAt}
use Rattle.kl_names.specs.declared.facts.NameFacts.{NameFacts}
use Rattle.kl_names.proofs.CommonLaws.{common_names-free, free, is_free}
use Rattle.kl_names.proofs.NameLists.{other_way, place_push, same_self, same_text}
use Rattle.kl_names.proofs.NotedSteps.{AreOnce, are-once, set-one, apart}
use Rattle.kl_names.proofs.TableAt.{table_at, tables_at}

-- what each occurrence is
pub record IsSymbol (inputs : List Input) (o : Occurrence) : Type 0 where
  pub stands : Stands inputs (stands_at o)
  pub symbol : get_or (input_at inputs o.input).object.symbols o.number no_symbol ≡ o.symbol
  pub name : o.name ≡ text_at (input_at inputs o.input).bytes o.symbol.name

pub all-symbols : (inputs : List Input) → All (IsSymbol inputs) (occurrences inputs)
all-symbols inputs = each-all (IsSymbol inputs) 0 occurring_in inputs one
  where
    one : (i : ℕ) (d : Input) → i < length inputs → All (IsSymbol inputs) (occurring_in (0 + i) (get_or inputs i d))
    one i d h =
        let z : 0 + i ≡ i = omega arith in
        let x : get_or inputs i d ≡ input_at inputs i = get_or_default inputs i d no_input h in
        rw (z, x) (each-all (IsSymbol inputs) 0 (occurs i (input_at inputs i)) (input_at inputs i).object.symbols (λ n e l.
        let w : 0 + n ≡ n = omega arith in
        let y : get_or (input_at inputs i).object.symbols n e ≡ get_or (input_at inputs i).object.symbols n no_symbol = get_or_default (input_at inputs i).object.symbols n e no_symbol l in
        rw (w, y) (all-only_if (IsSymbol inputs) _ (occurrence i (input_at inputs i) n (get_or (input_at inputs i).object.symbols n no_symbol)) (λ b.
        record { stands = record { input = h; number = l }; symbol = refl; name = refl }))))

-- what is found among items that all have a property
pub found-all : {X : Type 0} (P : X → Type 0) (p q : X → Bool) (xs : List X) (x : X) → All P xs → find p (filter q xs) ≡ Some x → (P x) × (p x ≡ true)
found-all P p q [] x all e = cc
found-all P p q (y ∷ ys) x all e = elim (cases_Bool (q y)) [
  | inr a ↦ found-all P p q ys x (λ k d h. all (suc k) d (omega arith)) (rw a at e)
  | inl a ↦ elim (cases_Bool (p y)) [
    | inr b ↦ found-all P p q ys x (λ k d h. all (suc k) d (omega arith)) (rw (a, b) at e)
    | inl b ↦ let here : Some y ≡ Some x = rw (a, b) at e in let s : y ≡ x = cc in rw (sym s) (all 0 y (omega arith), b)
  ]
]

module _ (kit : Kit) (inputs : List Input) where
  -- a symbol that is a definition leads to its target
  pub place-is : (o : Occurrence) → is_definition kit inputs o ≡ true → symbol_place (piece_table kit inputs o.input) o.symbol ≡ Some (symbol_target kit inputs o)
  place-is o e = elim (cases_Bool (o.symbol.section == SHN_ABS)) [
    | inl a ↦ rw a refl
    | inr a ↦
        let rest : (not (o.symbol.section == SHN_COMMON) && is_kept kit inputs o.input o.symbol.section) ≡ true = rw a at e in
        let kept : is_kept kit inputs o.input o.symbol.section ≡ true = right (not (o.symbol.section == SHN_COMMON)) rest in
        rw (a, table_at kit inputs o.input o.symbol.section, kept) refl
  ]
    where
      right : (a : Bool) {b : Bool} → (a && b) ≡ true → b ≡ true
      right true e = e
      right false e = cc

  -- the first definition of a binding stands somewhere, and leads where its place does
  pub first-stands : (binding : ℕ) (name : List ℕ) → IfSome (option_map stands_at (first_definition kit inputs binding name)) (Stands inputs)
  first-stands binding name = go (first_definition kit inputs binding name) refl
    where
      go : (r : Option Occurrence) → first_definition kit inputs binding name ≡ r → IfSome (option_map stands_at r) (Stands inputs)
      go None e = tt
      go (Some o) e = ((found-all (IsSymbol inputs) (λ o. (o.symbol.binding == binding) && is_definition kit inputs o) (λ o. bytes_eq o.name name) (occurrences inputs) o (all-symbols inputs) e).0).stands

  -- where a place leads
  abbrev pub led_to : SymbolAt → Option Target
  led_to at = symbol_place (get_or (piece_tables kit inputs) at.input []) (get_or (input_at inputs at.input).object.symbols at.number no_symbol)

  pub first-leads : (binding : ℕ) (name : List ℕ) (at : SymbolAt) → option_map stands_at (first_definition kit inputs binding name) ≡ Some at
      → led_to at ≡ option_map (symbol_target kit inputs) (first_definition kit inputs binding name)
  first-leads binding name at e = go (first_definition kit inputs binding name) refl e
    where
      both : (a : Bool) {b : Bool} → (a && b) ≡ true → b ≡ true
      both true e = e
      both false e = cc

      go : (r : Option Occurrence) → first_definition kit inputs binding name ≡ r → option_map stands_at r ≡ Some at → led_to at ≡ option_map (symbol_target kit inputs) r
      go None e h = cc
      go (Some o) e h =
          let known = found-all (IsSymbol inputs) (λ o. (o.symbol.binding == binding) && is_definition kit inputs o) (λ o. bytes_eq o.name name) (occurrences inputs) o (all-symbols inputs) e in
          let same : stands_at o ≡ at = cc in
          let table = tables_at kit inputs o.input [] known.0.stands.input in
          rw (sym same, table, known.0.symbol) (place-is o (both (o.symbol.binding == binding) known.1))

  find-place : (t : List ℕ) (n : ℕ) (ms : List (List ℕ)) → find (bytes_eq t) ms ≡ option_map (λ k. t) (position_from (bytes_eq t) n ms)
  find-place t n [] = refl
  find-place t n (m ∷ ms) = elim (cases_Bool (bytes_eq t m)) [
    | inl a ↦ rw a (ap Some (sym (same_text t m a)))
    | inr a ↦ rw a (find-place t (n + 1) ms)
  ]

  -- the definition by symbols in terms of what is noted
  pub own-is-one-of : (name : List ℕ) → own_definition kit inputs name
      ≡ option_or (option_map (symbol_target kit inputs) (first_definition kit inputs STB_GLOBAL name))
      (option_or (common_target kit inputs name) (option_map (symbol_target kit inputs) (first_definition kit inputs STB_WEAK name)))
  own-is-one-of name = go (first_definition kit inputs STB_GLOBAL name) (first_definition kit inputs STB_WEAK name)
    where
      K : ℕ
      K = length (kept_numbers kit inputs)

      common : (r : Option ℕ) (w : Option Occurrence) → position_from (bytes_eq name) (length (kept_numbers kit inputs)) (common_names kit inputs) ≡ r
          → option_map (leads_to kit inputs) (option_or (option_map ByCommon (option_map (λ k. name) r)) (option_map BySymbol w))
          ≡ option_or (option_map (λ k. Place k 0) r) (option_map (symbol_target kit inputs) w)
      common None None e = refl
      common None (Some o) e = refl
      common (Some k) w e = rw e refl

      go : (a w : Option Occurrence)
          → option_map (leads_to kit inputs) (option_or (option_map BySymbol a) (option_or (option_map ByCommon (find (bytes_eq name) (common_names kit inputs))) (option_map BySymbol w)))
          ≡ option_or (option_map (symbol_target kit inputs) a) (option_or (common_target kit inputs name) (option_map (symbol_target kit inputs) w))
      go (Some o) w = refl
      go None w = rw (find-place name (length (kept_numbers kit inputs)) (common_names kit inputs)) (common _ w refl)

mapped_none : {X Y : Type 0} (f : X → Y) (r : Option X) → option_map f r ≡ None → r ≡ None
mapped_none f None e = refl
mapped_none f (Some x) e = cc

or_first : {X Y Z : Type 0} (f : X → Y) (g : X → Z) (r : Option X) (rest : Option Z) (y : Y) → option_map f r ≡ Some y → option_or (option_map g r) rest ≡ option_map g r
or_first f g None rest y e = cc
or_first f g (Some x) rest y e = refl

-- the definition by symbols in each case of what is noted
module _ (kit : Kit) (inputs : List Input) (name : List ℕ) (f : NameFacts) (fact : f ≡ facts_of kit inputs name) (common : Option Target) (commons : common ≡ common_target kit inputs name) where
  pub by_global : (at : SymbolAt) → f.global ≡ Some at → led_to kit inputs at ≡ own_definition kit inputs name
  by_global at e =
      let first = sym (ap (λ (f : NameFacts). f.global) fact) ∙ e in
      first-leads kit inputs STB_GLOBAL name at first
      ∙ sym (own-is-one-of kit inputs name ∙ or_first stands_at (symbol_target kit inputs) (first_definition kit inputs STB_GLOBAL name) _ at first)

  no_global : f.global ≡ None → own_definition kit inputs name ≡ option_or common (option_map (symbol_target kit inputs) (first_definition kit inputs STB_WEAK name))
  no_global e =
      let none = mapped_none stands_at (first_definition kit inputs STB_GLOBAL name) (sym (ap (λ (f : NameFacts). f.global) fact) ∙ e) in
      own-is-one-of kit inputs name ∙ rw (none, commons) refl

  pub by_common : (t : Target) → f.global ≡ None → common ≡ Some t → Some t ≡ own_definition kit inputs name
  by_common t e c = sym (no_global e ∙ rw c refl)

  pub by_weak : (at : SymbolAt) → f.global ≡ None → common ≡ None → f.weak ≡ Some at → led_to kit inputs at ≡ own_definition kit inputs name
  by_weak at e c w =
      first-leads kit inputs STB_WEAK name at (sym (ap (λ (f : NameFacts). f.weak) fact) ∙ w) ∙ sym (no_global e ∙ rw c refl)

  pub by_none : f.global ≡ None → common ≡ None → f.weak ≡ None → None ≡ own_definition kit inputs name
  by_none e c w =
      let none = mapped_none stands_at (first_definition kit inputs STB_WEAK name) (sym (ap (λ (f : NameFacts). f.weak) fact) ∙ w) in
      sym (no_global e ∙ rw (c, none) refl)

-- names that stand once: none stands among those before it
pub once-fresh : (names : List (List ℕ)) (k : ℕ) (d : List ℕ) → AreOnce names → k < length names → among (take k names) (get_or names k d) ≡ false
once-fresh [] k d once h = absurd (omega arith)
once-fresh (m ∷ ms) zero d once h = refl
once-fresh (m ∷ ms) (suc k) d once h =
    let away = other_way m (get_or ms k d) (apart ms m (get_or ms k d) k once.0 (at ms k (omega arith))) in
    rw away (once-fresh ms k d once.1 (omega arith))
  where
    at : (xs : List (List ℕ)) (j : ℕ) → j < length xs → slice_get xs j ≡ Some (get_or xs j d)
    at [] j h = absurd (omega arith)
    at (x ∷ xs) zero h = refl
    at (x ∷ xs) (suc j) h = at xs j (omega arith)

pub no-place : (n : ℕ) (names : List (List ℕ)) (t : List ℕ) → among names t ≡ false → position_from (bytes_eq t) n names ≡ None
no-place n [] t e = refl
no-place n (m ∷ ms) t e = elim (cases_Bool (bytes_eq t m)) [
  | inl a ↦ let no : true ≡ false = rw a at e in cc
  | inr a ↦ rw a (no-place (n + 1) ms t (rw a at e))
]

pub common_names-once : (kit : Kit) (inputs : List Input) → AreOnce (common_names kit inputs)
common_names-once kit inputs = are-once _

-- one common more
module _ (first : ℕ) (cs : List (List ℕ)) where
  abbrev pub placed_by : ℕ → List ℕ → Option Target
  placed_by k name = option_map (λ n. Place n 0) (position_from (bytes_eq name) first (take k cs))

  pub placed-none : (names : List (List ℕ)) → replicate (length names) None ≡ map (placed_by 0) names
  placed-none [] = refl
  placed-none (m ∷ ms) = ap (λ l. None ∷ l) (placed-none ms)

  pub placed-more : (names : List (List ℕ)) (k number : ℕ) (d : List ℕ) → AreOnce names → AreOnce cs → k < length cs → slice_get names number ≡ Some (get_or cs k d)
      → slice_set (map (placed_by k) names) number (Some (Place (first + k) 0)) ≡ map (placed_by (k + 1)) names
  placed-more names k number d once distinct h at =
      let long : length (take k cs) ≡ k = length-take-le k cs (omega arith) in
      let new : placed_by (k + 1) (get_or cs k d) ≡ Some (Place (first + k) 0) =
      rw (take_more cs k d h, place_push first (take k cs) (get_or cs k d) (get_or cs k d), no-place first (take k cs) (get_or cs k d) (once-fresh cs k d distinct h), same_self (get_or cs k d), long) refl in
      sym (set-one (placed_by k) (placed_by (k + 1)) (get_or cs k d) (λ m e. same m e) names number once at ∙ ap (slice_set (map (placed_by k) names) number) new)
    where
      or_none : (o : Option ℕ) → option_or o None ≡ o
      or_none None = refl
      or_none (Some x) = refl

      same : (m : List ℕ) → bytes_eq (get_or cs k d) m ≡ false → placed_by (k + 1) m ≡ placed_by k m
      same m e = rw (take_more cs k d h, place_push first (take k cs) (get_or cs k d) m, other_way (get_or cs k d) m e) (ap (option_map (λ n. Place n 0)) (or_none _))

-- how many pieces of sections there are at most
pub kept-le : (kit : Kit) (inputs : List Input) → length (kept_numbers kit inputs) ≤ sum_by (λ x. length x.object.sections) inputs
kept-le kit inputs = length-each-le 0 (λ i x. each_from 1 (λ s y. only_if (is_kept kit inputs i s) (pair i s)) x.object.sections) (λ x. length x.object.sections) inputs (λ i x. inner i 1 x.object.sections)
  where
    pair : ℕ → ℕ → ℕ × ℕ
    pair i s = (i, s)

    inner : (i n : ℕ) (ys : List Section) → length (each_from n (λ s y. only_if (is_kept kit inputs i s) (pair i s)) ys) ≤ length ys
    inner i n [] = omega arith
    inner i n (y ∷ ys) = elim (cases_Bool (is_kept kit inputs i n)) [
      | inl a ↦ rw a (let r = inner i (suc n) ys in omega arith)
      | inr a ↦ rw a (let r = inner i (suc n) ys in omega arith)
    ]

pub common_names-le : (kit : Kit) (inputs : List Input) → length (common_names kit inputs) ≤ length (common_symbol_names inputs)
common_names-le kit inputs = rw (common_names-free kit inputs) (fewer (common_symbol_names inputs))
  where
    fewer : (ms : List (List ℕ)) → length (free kit inputs ms) ≤ length ms
    fewer [] = omega arith
    fewer (m ∷ ms) = elim (cases_Bool (is_free kit inputs m)) [
      | inl a ↦ rw a (let r = fewer ms in omega arith)
      | inr a ↦ rw a (let r = fewer ms in omega arith)
    ]

pub map-more : {X Y : Type 0} (f : X → Y) (xs : List X) (n : ℕ) (d : X) → n < length xs → map f (take (n + 1) xs) ≡ map f (take n xs) ++ f (get_or xs n d) ∷ []
map-more f xs n d h = ap (map f) (take_more xs n d h) ∙ map-append f (take n xs) (get_or xs n d ∷ [])

-- a value for each name, at a place
pub map-name : {X : Type 0} (f : List ℕ → X) (names : List (List ℕ)) (xs : List X) (n : ℕ) (d : X) (e : List ℕ) → xs ≡ map f names → n < length xs
    → (n < length names) × (get_or xs n d ≡ f (get_or names n e))
map-name f [] xs n d e same h = absurd (let none = ap length same in omega arith)
map-name f (m ∷ ms) [] n d e same h = absurd (omega arith)
map-name f (m ∷ ms) (x ∷ xs) zero d e same h = (omega arith, (let first : x ≡ f m = cc in first))
map-name f (m ∷ ms) (x ∷ xs) (suc n) d e same h =
    let rest : xs ≡ map f ms = cc in
    let r = map-name f ms xs n d e rest (omega arith) in
    let l = r.0 in (omega arith, r.1)

-- what is read past the end of a list of notes
abbrev pub nothing_noted : NameFacts
nothing_noted = record { first = None; global = None; weak = None; common = None; visibility = 0; all_weak = false }
