-- One symbol more, of what is noted of each name.
use Rattle.std.proofs.Common.{◌⊎◌, ℕ, zero, suc, ◌≡◌, ◌+◌, ◌<◌, ◌∙◌, List, [], ◌∷◌, ◌++◌, length, get_or, slice_set, refl, ap, sym, Bool, true, false, ◌&&◌, not, inl, inr, arith}
use Rattle.std.specs.Prelude.{replicate, ⊤, Some, None, Option, slice_get, map, filter, find, is_none, is_some, ◌==◌}
use Rattle.std.specs.Option.{option_map}
use Rattle.std.specs.Str.{bytes_eq}
use Rattle.std.proofs.lemmas.Bool.{cases_Bool}
use Rattle.std.proofs.lemmas.List.{append-nil, length-append, map-append}
use Rattle.std.proofs.lemmas.List.Elements.{filter-append}
use Rattle.kl_elf.specs.declared.abi.TheConstants.{STB_LOCAL}
use Rattle.kl_model.specs.Lists.{among, once, only_if}
use Rattle.kl_model.specs.Kept.{input_at, no_symbol, is_kept}
use Rattle.kl_model.specs.Names.{Occurrence, is_common, is_definition, occurrences}
use Rattle.kl_model.specs.Faults.{is_global_definition, doubled, doubled_after}
use Rattle.kl_model.specs.declared.object.Input.{Input}
use Rattle.kl_model.specs.declared.object.Symbol.{Symbol}
use Rattle.kl_model.specs.declared.kit.Kit.{Kit}
use Rattle.kl_model.specs.declared.link.LinkFault.{LinkFault}
use Rattle.kl_model.specs.declared.link.LinkFault.TheVariants as fault
use Rattle.kl_names.specs.Numbers.{AreNumbered, names_in, with_name}
use Rattle.kl_names.specs.Facts.{stands_at}
use Rattle.kl_names.specs.Tables.{piece_table}
use Rattle.kl_names.specs.Noted.{AreNoted, IsDouble, all_facts, common_in, defines, facts_in, last_of, noted}
use Rattle.kl_names.specs.Walked.{occurrence}
use Rattle.kl_names.specs.declared.facts.SymbolAt.{SymbolAt}
use Rattle.kl_names.specs.declared.facts.NameFacts.{NameFacts}
use Rattle.kl_names.specs.declared.facts.TheConstants.{NO_FACTS}
use Rattle.kl_names.proofs.FactSteps.{common-stands, facts_in-push}
use Rattle.kl_names.proofs.Doubles.{doubled-none, doubled-first, last_is_first}
use Rattle.kl_names.proofs.TableAt.{table_at}
use Rattle.kl_names.proofs.Steps.{occurring_up_to, split, more_one, y, rest_of}
use Rattle.kl_names.proofs.NameLists.{among-once, names_push, other_way, same_self}

-- names that stand once
abbrev pub AreOnce : List (List ℕ) → Type 0
AreOnce [] = ⊤
AreOnce (m ∷ ms) = (among ms m ≡ false) × AreOnce ms

-- a name that doesn't stand among names, nor among some of them
among-none : (p : List ℕ → Bool) (t : List ℕ) (ms : List (List ℕ)) → among ms t ≡ false → among (filter p ms) t ≡ false
among-none p t [] e = refl
among-none p t (m ∷ ms) e = elim (cases_Bool (bytes_eq t m)) [
  | inl a ↦ let no : true ≡ false = rw a at e in cc
  | inr a ↦ elim (cases_Bool (p m)) [
    | inl b ↦ rw (b, a) (among-none p t ms (rw a at e))
    | inr b ↦ rw b (among-none p t ms (rw a at e))
  ]
]

once-filter : (p : List ℕ → Bool) (ms : List (List ℕ)) → AreOnce ms → AreOnce (filter p ms)
once-filter p [] o = tt
once-filter p (m ∷ ms) o = elim (cases_Bool (p m)) [
  | inl a ↦ rw a (among-none p m ms o.0, once-filter p ms o.1)
  | inr a ↦ rw a (once-filter p ms o.1)
]

others-none : (t : List ℕ) (ms : List (List ℕ)) → among (filter (λ y. not (bytes_eq t y)) ms) t ≡ false
others-none t [] = refl
others-none t (m ∷ ms) = elim (cases_Bool (bytes_eq t m)) [
  | inl a ↦ rw a (others-none t ms)
  | inr a ↦ rw (a, a) (others-none t ms)
]

pub are-once : (ts : List (List ℕ)) → AreOnce (once bytes_eq ts)
are-once [] = tt
are-once (t ∷ ts) = (others-none t (once bytes_eq ts), once-filter (λ y. not (bytes_eq t y)) (once bytes_eq ts) (are-once ts))

pub apart : (ms : List (List ℕ)) (m t : List ℕ) (k : ℕ) → among ms m ≡ false → slice_get ms k ≡ Some t → bytes_eq m t ≡ false
apart [] m t k e g = cc
apart (x ∷ ms) m t zero e g = let s : x ≡ t = cc in elim (cases_Bool (bytes_eq m x)) [
  | inl a ↦ let no : true ≡ false = rw a at e in cc
  | inr a ↦ rw s at a
]
apart (x ∷ ms) m t (suc k) e g = elim (cases_Bool (bytes_eq m x)) [
  | inl a ↦ let no : true ≡ false = rw a at e in cc
  | inr a ↦ apart ms m t k (rw a at e) g
]

module _ {X : Type 0} (f g : List ℕ → X) (t : List ℕ) (same : (m : List ℕ) → bytes_eq t m ≡ false → g m ≡ f m) where
  pub kept : (ms : List (List ℕ)) → among ms t ≡ false → map g ms ≡ map f ms
  kept [] e = refl
  kept (m ∷ ms) e = elim (cases_Bool (bytes_eq t m)) [
    | inl a ↦ let no : true ≡ false = rw a at e in cc
    | inr a ↦ rw (same m a, kept ms (rw a at e)) refl
  ]

  -- a value for each name, of which one changes
  pub set-one : (names : List (List ℕ)) (k : ℕ) → AreOnce names → slice_get names k ≡ Some t → map g names ≡ slice_set (map f names) k (g t)
  set-one [] k once at = cc
  set-one (m ∷ ms) zero once at = let s : m ≡ t = cc in let none = rw s at once.0 in rw (kept ms none, s) refl
  set-one (m ∷ ms) (suc k) once at =
      let other = other_way m t (apart ms m t k once.0 at) in
      rw (same m other, set-one ms k once.1 at) refl

pub get-map : {X : Type 0} (f : List ℕ → X) (names : List (List ℕ)) (k : ℕ) (t : List ℕ) (d : X) → slice_get names k ≡ Some t → get_or (map f names) k d ≡ f t
get-map f [] k t d e = cc
get-map f (m ∷ ms) zero t d e = let s : m ≡ t = cc in rw s refl
get-map f (m ∷ ms) (suc k) t d e = get-map f ms k t d e

pub get-inside : {X : Type 0} (f : List ℕ → X) (names : List (List ℕ)) (k : ℕ) (t : List ℕ) → slice_get names k ≡ Some t → k < length (map f names)
get-inside f [] k t e = cc
get-inside f (m ∷ ms) zero t e = omega arith
get-inside f (m ∷ ms) (suc k) t e = let r = get-inside f ms k t e in omega arith

-- the number at a place leads to the name there
pub number-at : {X Y : Type 0} (f : ℕ → Y) (g : X → Y) (ns : List ℕ) (before : List X) (o : X) (rest : List X) (d : ℕ) → map f ns ≡ map g (before ++ o ∷ rest)
    → (length before < length ns) × (f (get_or ns (length before) d) ≡ g o)
number-at f g [] [] o rest d e = cc
number-at f g [] (b ∷ bs) o rest d e = cc
number-at f g (n ∷ ns) [] o rest d e = (omega arith, (let first : f n ≡ g o = cc in first))
number-at f g (n ∷ ns) (b ∷ bs) o rest d e =
    let more : map f ns ≡ map g (bs ++ o ∷ rest) = cc in
    let r = number-at f g ns bs o rest d more in
    let l = r.0 in (omega arith, r.1)

find_filter : {X : Type 0} (p q : X → Bool) (xs : List X) → find p (filter q xs) ≡ find q (filter p xs)
find_filter p q [] = refl
find_filter p q (x ∷ xs) = elim (cases_Bool (p x)) [
  | inl a ↦ elim (cases_Bool (q x)) [ inl b ↦ rw (a, b, a) refl | inr b ↦ rw (a, b) (find_filter p q xs) ]
  | inr a ↦ elim (cases_Bool (q x)) [ inl b ↦ rw (a, b, a) (find_filter p q xs) | inr b ↦ rw (a, b) (find_filter p q xs) ]
]

mapped_some : {X Y : Type 0} (f : X → Y) (r : Option X) (y : Y) → option_map f r ≡ Some y → (x : X) × (r ≡ Some x) × (f x ≡ y)
mapped_some f None y e = cc
mapped_some f (Some x) y e = (x, refl, (let same : f x ≡ y = cc in same))

mapped_none : {X Y : Type 0} (f : X → Y) (r : Option X) → option_map f r ≡ None → r ≡ None
mapped_none f None e = refl
mapped_none f (Some x) e = cc

module _ (kit : Kit) (inputs : List Input) where
  pub all_facts-push : (os : List Occurrence) (o : Occurrence) (names : List (List ℕ)) (k : ℕ) → AreOnce names → slice_get names k ≡ Some o.name
      → all_facts kit inputs (os ++ o ∷ []) names ≡ slice_set (all_facts kit inputs os names) k (noted (facts_in kit inputs os o.name) o.symbol (stands_at o) (is_definition kit inputs o))
  all_facts-push os o names k once at =
      let self = same_self o.name in
      let one : facts_in kit inputs (os ++ o ∷ []) o.name ≡ noted (facts_in kit inputs os o.name) o.symbol (stands_at o) (is_definition kit inputs o) = facts_in-push kit inputs os o o.name ∙ rw self refl in
      set-one (facts_in kit inputs os) (facts_in kit inputs (os ++ o ∷ [])) o.name (λ m e. facts_in-push kit inputs os o m ∙ rw e refl) names k once at
      ∙ ap (slice_set (all_facts kit inputs os names) k) one

  -- whether a symbol is a definition
  pub defines-is : (i : ℕ) (n : ℕ) (y : Symbol) → defines (piece_table kit inputs i) y ≡ is_definition kit inputs (occurrence i (input_at inputs i) n y)
  defines-is i n y = elim (cases_Bool (is_kept kit inputs i y.section)) [
    | inl k ↦ rw (table_at kit inputs i y.section, k) refl
    | inr k ↦ rw (table_at kit inputs i y.section, k) refl
  ]

  -- the GLOBAL definition that is noted of a name is the last of its GLOBAL definitions, where no name has two
  abbrev pub globals : List Occurrence → List Occurrence
  globals os = filter (is_global_definition kit inputs) os

  pub global-is : (os : List Occurrence) (name : List ℕ) → doubled_after [] (globals os) ≡ [] → (facts_in kit inputs os name).global ≡ option_map stands_at (last_of (globals os) name)
  global-is os name single =
      ap (option_map stands_at) (find_filter (is_global_definition kit inputs) (λ o. bytes_eq o.name name) os ∙ sym (last_is_first (globals os) name single))

-- the names of commons with one symbol more, and with one more that is a common
pub common-none : (os : List Occurrence) (o : Occurrence) → is_common o ≡ false → common_in (os ++ o ∷ []) ≡ common_in os
common-none os o e = ap (λ l. once bytes_eq (map (λ o. o.name) l)) (filter-append is_common os (o ∷ []) ∙ rw e (append-nil _))

pub common-more : (os : List Occurrence) (o : Occurrence) → is_common o ≡ true → common_in (os ++ o ∷ []) ≡ with_name (common_in os) o.name
common-more os o e =
    ap (λ l. once bytes_eq (map (λ o. o.name) l)) (filter-append is_common os (o ∷ []) ∙ rw e refl)
    ∙ (ap (once bytes_eq) (map-append (λ o. o.name) (filter is_common os) (o ∷ [])) ∙ names_push (map (λ o. o.name) (filter is_common os)) o.name)

module _ (kit : Kit) (inputs : List Input) (os : List Occurrence) (o : Occurrence) where
  -- the name of a symbol is new among those of commons
  pub new_common : is_none (facts_in kit inputs os o.name).common ≡ not (among (common_in os) o.name)
  new_common = common-stands os o.name ∙ ap not (sym (among-once (map (λ o. o.name) (filter is_common os)) o.name))

  pub commons-push : (names : List (List ℕ)) (commons : List ℕ) (k : ℕ) → slice_get names k ≡ Some o.name
      → map (slice_get names) commons ≡ map Some (common_in os)
      → map (slice_get names) (commons ++ only_if (is_none (facts_in kit inputs os o.name).common && is_some (noted (facts_in kit inputs os o.name) o.symbol (stands_at o) (is_definition kit inputs o)).common) k)
      ≡ map Some (common_in (os ++ o ∷ []))
  commons-push names commons k at before = elim (cases_Bool (is_common o)) [
    | inr a ↦
        let none : (is_none (facts_in kit inputs os o.name).common && is_some (facts_in kit inputs os o.name).common) ≡ false = never (facts_in kit inputs os o.name).common in
        rw (a, none, common-none os o a, append-nil commons) before
    | inl a ↦
        elim (cases_Bool (among (common_in os) o.name)) [
          | inl b ↦ rw (a, new_common, common-more os o a, b, append-nil commons, append-nil (common_in os)) before
          | inr b ↦ rw (a, new_common, common-more os o a, b, map-append (slice_get names) commons (k ∷ []), map-append Some (common_in os) (o.name ∷ []), before, at) refl
        ]
  ]
    where
      never : {X : Type 0} (c : Option X) → (is_none c && is_some c) ≡ false
      never None = refl
      never (Some x) = refl

module _ (kit : Kit) (inputs : List Input) (os : List Occurrence) (o : Occurrence) (single : doubled_after [] (globals kit inputs os) ≡ []) where
  -- no second definition
  pub single-more : (is_global_definition kit inputs o ≡ false) ⊎ ((facts_in kit inputs os o.name).global ≡ None) → doubled_after [] (globals kit inputs (os ++ o ∷ [])) ≡ []
  single-more none =
      let cut : globals kit inputs (os ++ o ∷ []) ≡ globals kit inputs os ++ globals kit inputs (o ∷ []) = filter-append (is_global_definition kit inputs) os (o ∷ []) in
      elim (cases_Bool (is_global_definition kit inputs o)) [
        | inr a ↦ let same : globals kit inputs (os ++ o ∷ []) ≡ globals kit inputs os = cut ∙ rw a (append-nil _) in rw same single
        | inl a ↦
            let one : globals kit inputs (os ++ o ∷ []) ≡ globals kit inputs os ++ o ∷ [] = cut ∙ rw a refl in
            elim none [
              | inl e ↦ let no : true ≡ false = sym a ∙ e in cc
              | inr e ↦ rw one (doubled-none (globals kit inputs os) o single (mapped_none stands_at _ (sym (global-is kit inputs os o.name single) ∙ e)))
            ]
      ]

  -- a second one
  pub double-first : (rest : List Occurrence) (e : LinkFault) → occurrences inputs ≡ os ++ o ∷ rest → is_global_definition kit inputs o ≡ true
      → IsDouble o.name (facts_in kit inputs os o.name).global (stands_at o) e → slice_get (doubled kit inputs) 0 ≡ Some e
  double-first rest e whole is d =
      let first = mapped_some stands_at (last_of (globals kit inputs os) o.name) d.before (sym (global-is kit inputs os o.name single) ∙ d.stands) in
      let cut : globals kit inputs (occurrences inputs) ≡ globals kit inputs os ++ (o ∷ globals kit inputs rest) =
      ap (globals kit inputs) whole ∙ (filter-append (is_global_definition kit inputs) os (o ∷ rest) ∙ rw is refl) in
      ap (λ l. slice_get (doubled_after [] l) 0) cut
      ∙ (doubled-first (globals kit inputs os) o first.0 (globals kit inputs rest) single first.1
      ∙ (ap (λ (b : SymbolAt). Some (fault.Doubled o.name (b.input, b.number) (o.input, o.number))) first.2 ∙ ap Some (sym d.fault)))

-- one turn of the walk
module _ (kit : Kit) (inputs : List Input) (i n : ℕ) (h : i < length inputs) (l : n < length (input_at inputs i).object.symbols)
    (other : ((get_or (input_at inputs i).object.symbols n no_symbol).binding == STB_LOCAL) ≡ false)
    (names : List (List ℕ)) (numbers : List ℕ) (numbered : AreNumbered (occurrences inputs) names numbers)
    (facts : List NameFacts) (commons : List ℕ) (next : ℕ) (before : AreNoted kit inputs (occurring_up_to inputs i n) names facts commons next) where
  abbrev pub o : Occurrence
  o = occurrence i (input_at inputs i) n (get_or (input_at inputs i).object.symbols n no_symbol)

  abbrev pub os : List Occurrence
  os = occurring_up_to inputs i n

  abbrev pub rest : List Occurrence
  rest = rest_of inputs i n h l

  -- what is said of the symbol's name so far, and with the symbol
  abbrev pub said_so_far : NameFacts
  said_so_far = facts_in kit inputs os o.name

  abbrev pub said : NameFacts
  said = noted said_so_far o.symbol (stands_at o) (is_definition kit inputs o)

  pub all : occurrences inputs ≡ os ++ o ∷ rest
  all = split inputs i n h l ∙ rw other refl

  found : (d : ℕ) → (next < length numbers) × (slice_get names (get_or numbers next d) ≡ Some o.name)
  found d =
      let r = number-at (slice_get names) (λ o. Some o.name) numbers os o rest d (numbered.named ∙ ap (map (λ o. Some o.name)) all) in
      rw before.count r

  distinct : AreOnce names
  distinct = rw numbered.once (are-once (map (λ o. o.name) (occurrences inputs)))

  pub next-inside : next < length numbers
  next-inside = (found 0).0

  pub place-inside : (d : ℕ) → get_or numbers next d < length facts
  place-inside d = rw before.said (get-inside (facts_in kit inputs os) names (get_or numbers next d) o.name (found d).1)

  pub fact-is : (d : ℕ) (e : NameFacts) → get_or facts (get_or numbers next d) e ≡ said_so_far
  fact-is d e = rw before.said (get-map (facts_in kit inputs os) names (get_or numbers next d) o.name e (found d).1)

  pub noted-more : (d : ℕ) → (is_global_definition kit inputs o ≡ false) ⊎ (said_so_far.global ≡ None)
      → AreNoted kit inputs (occurring_up_to inputs i (n + 1)) names (slice_set facts (get_or numbers next d) said)
      (commons ++ only_if (is_none said_so_far.common && is_some said.common) (get_or numbers next d)) (next + 1)
  noted-more d none = record {
    said = ap (λ f. slice_set f (get_or numbers next d) said) before.said
        ∙ (sym (all_facts-push kit inputs os o names (get_or numbers next d) distinct (found d).1) ∙ ap (λ l. all_facts kit inputs l names) (sym more));
    common = commons-push kit inputs os o names commons (get_or numbers next d) (found d).1 before.common ∙ ap (λ l. map Some (common_in l)) (sym more);
    count = ap (λ k. k + 1) before.count ∙ (sym (length-append os (o ∷ [])) ∙ ap length (sym more));
    single = ap (λ l. doubled_after [] (globals kit inputs l)) more ∙ single-more kit inputs os o before.single none;
  }
    where
      more : occurring_up_to inputs i (n + 1) ≡ os ++ o ∷ []
      more = more_one inputs i n h l other

  pub is-first : (e : LinkFault) → is_global_definition kit inputs o ≡ true → IsDouble o.name said_so_far.global (stands_at o) e → slice_get (doubled kit inputs) 0 ≡ Some e
  is-first e is d = double-first kit inputs os o before.single rest e all is d

-- before the first symbol
pub noted-none : (kit : Kit) (inputs : List Input) (names : List (List ℕ)) (n : ℕ) → n ≡ length names → AreNoted kit inputs [] names (replicate n NO_FACTS) [] 0
noted-none kit inputs names n many = record { said = rw many (go names); common = refl; count = refl; single = refl }
  where
    go : (ms : List (List ℕ)) → replicate (length ms) NO_FACTS ≡ all_facts kit inputs [] ms
    go [] = refl
    go (m ∷ ms) = ap (λ l. NO_FACTS ∷ l) (go ms)

-- equal numbers are those of equal names
one_place : (names : List (List ℕ)) (j k : ℕ) (t : List ℕ) → AreOnce names → slice_get names j ≡ Some t → slice_get names k ≡ Some t → j ≡ k
one_place [] j k t once a b = cc
one_place (m ∷ ms) zero zero t once a b = refl
one_place (m ∷ ms) zero (suc k) t once a b =
    let s : m ≡ t = cc in
    let apart : bytes_eq m t ≡ false = apart ms m t k once.0 b in
    let no : true ≡ false = sym (same_self t) ∙ rw s at apart in
    cc
one_place (m ∷ ms) (suc j) zero t once a b =
    let s : m ≡ t = cc in
    let apart : bytes_eq m t ≡ false = apart ms m t j once.0 a in
    let no : true ≡ false = sym (same_self t) ∙ rw s at apart in
    cc
one_place (m ∷ ms) (suc j) (suc k) t once a b = ap suc (one_place ms j k t once.1 a b)

pub same_number : (os : List Occurrence) (names : List (List ℕ)) (j k : ℕ) (s t : List ℕ) → names ≡ names_in os → slice_get names j ≡ Some s → slice_get names k ≡ Some t → s ≡ t → j ≡ k
same_number os names j k s t once a b e =
    let distinct : AreOnce names = rw once (are-once (map (λ o. o.name) os)) in
    one_place names j k t distinct (a ∙ ap Some e) b

pub same_name : (names : List (List ℕ)) (j k : ℕ) (s t : List ℕ) → slice_get names j ≡ Some s → slice_get names k ≡ Some t → j ≡ k → s ≡ t
same_name names j k s t a b e = let both : Some s ≡ Some t = sym a ∙ (ap (slice_get names) e ∙ b) in cc
