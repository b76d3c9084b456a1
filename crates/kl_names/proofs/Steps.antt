-- One symbol more.
use Rattle.std.proofs.Common.{ℕ, suc, ◌≡◌, ◌+◌, ◌<◌, ◌≤◌, ◌∙◌, List, [], ◌∷◌, ◌++◌, length, get_or, take, drop, length-append, refl, ap, sym, Bool, true, false, not, inl, inr, arith, append_assoc}
use Rattle.std.specs.Prelude.{Some, slice_get, filter, map, sum_by, ◌^◌, ◌==◌}
use Rattle.std.specs.Str.{bytes_eq}
use Rattle.std.proofs.lemmas.Bool.{cases_Bool}
use Rattle.std.proofs.lemmas.List.{append-nil, map-append, length-map}
use Rattle.kl_base.specs.declared.limits.TheConstants.{SYMBOL_COUNT_LIMIT}
use Rattle.kl_elf.specs.declared.abi.TheConstants.{STB_LOCAL}
use Rattle.kl_model.specs.Lists.{each, each_from, once, only_if, among}
use Rattle.kl_model.specs.Kept.{input_at, no_input, no_symbol}
use Rattle.kl_model.specs.Names.{Occurrence, occurrences}
use Rattle.kl_model.specs.declared.object.Input.{Input}
use Rattle.kl_model.specs.declared.object.Symbol.{Symbol}
use Rattle.kl_model.proofs.Each.{each_more, each_all, each-split, length-each-le}
use Rattle.kl_names.specs.Numbers.{AreNumbered, place_in, with_name, names_in}
use Rattle.kl_names.specs.Walked.{occurrence, occurs, occurring_in, occurring_before}
use Rattle.kl_names.proofs.NameLists.{names_push, number_leads, get_left}

-- the occurrences up to a symbol
abbrev pub occurring_up_to : List Input → ℕ → ℕ → List Occurrence
occurring_up_to inputs i m = occurring_before inputs i ++ each (take m (input_at inputs i).object.symbols) (occurs i (input_at inputs i))

module _ (inputs : List Input) (i n : ℕ) (h : i < length inputs) where
  pub whole : length (input_at inputs i).object.symbols ≤ n → occurring_up_to inputs i n ≡ occurring_before inputs (i + 1)
  whole past =
      ap (λ d. occurring_before inputs i ++ d) (each_all (occurs i (input_at inputs i)) (input_at inputs i).object.symbols n past)
      ∙ sym (each_more occurring_in inputs i no_input h)

  module _ (l : n < length (input_at inputs i).object.symbols) where
    abbrev pub y : Symbol
    y = get_or (input_at inputs i).object.symbols n no_symbol

    pub occurring_more : occurring_up_to inputs i (n + 1) ≡ occurring_up_to inputs i n ++ occurs i (input_at inputs i) n y
    occurring_more =
        ap (λ d. occurring_before inputs i ++ d) (each_more (occurs i (input_at inputs i)) (input_at inputs i).object.symbols n no_symbol l)
        ∙ sym (append_assoc (occurring_before inputs i) _ _)

    pub more_one : (y.binding == STB_LOCAL) ≡ false → occurring_up_to inputs i (n + 1) ≡ occurring_up_to inputs i n ++ occurrence i (input_at inputs i) n y ∷ []
    more_one e = occurring_more ∙ rw e refl

    pub more_none : (y.binding == STB_LOCAL) ≡ true → occurring_up_to inputs i (n + 1) ≡ occurring_up_to inputs i n
    more_none e = occurring_more ∙ rw e (append-nil _)

    -- all occurrences: those up to a symbol, that symbol, and the rest
    abbrev pub rest_of : List Occurrence
    rest_of = each_from (suc n) (occurs i (input_at inputs i)) (drop (suc n) (input_at inputs i).object.symbols) ++ each_from (suc i) occurring_in (drop (suc i) inputs)

    pub split : occurrences inputs ≡ occurring_up_to inputs i n ++ (occurs i (input_at inputs i) n y ++ rest_of)
    split =
        let x = input_at inputs i in
        let f = occurs i x in
        let rest_y : List Occurrence = each_from (suc n) f (drop (suc n) x.object.symbols) in
        let rest_i : List Occurrence = each_from (suc i) occurring_in (drop (suc i) inputs) in
        let zero_i : 0 + i ≡ i = omega arith in
        let zero_n : 0 + n ≡ n = omega arith in
        let outer : each inputs occurring_in ≡ occurring_before inputs i ++ (occurring_in i x ++ rest_i) = rw zero_i at (each-split 0 occurring_in inputs i no_input h) in
        let inner : occurring_in i x ≡ each (take n x.object.symbols) f ++ (f n y ++ rest_y) = rw zero_n at (each-split 0 f x.object.symbols n no_symbol l) in
        outer ∙ (ap (λ l. occurring_before inputs i ++ (l ++ rest_i)) inner
        ∙ (ap (λ l. occurring_before inputs i ++ l) (append_assoc (each (take n x.object.symbols) f) (f n y ++ rest_y) rest_i ∙ ap (λ l. each (take n x.object.symbols) f ++ l) (append_assoc (f n y) rest_y rest_i))
        ∙ sym (append_assoc (occurring_before inputs i) (each (take n x.object.symbols) f) (f n y ++ (rest_y ++ rest_i)))))

-- how many there are at most
occurs-le : (i : ℕ) (x : Input) (n : ℕ) (ys : List Symbol) → length (each_from n (occurs i x) ys) ≤ length ys
occurs-le i x n [] = omega arith
occurs-le i x n (y ∷ ys) = elim (cases_Bool (y.binding == STB_LOCAL)) [
  | inl a ↦ rw a (let r = occurs-le i x (suc n) ys in omega arith)
  | inr a ↦ rw a (let r = occurs-le i x (suc n) ys in omega arith)
]

filter-le : (p : List ℕ → Bool) (ts : List (List ℕ)) → length (filter p ts) ≤ length ts
filter-le p [] = omega arith
filter-le p (t ∷ ts) = elim (cases_Bool (p t)) [
  | inl a ↦ rw a (let r = filter-le p ts in omega arith)
  | inr a ↦ rw a (let r = filter-le p ts in omega arith)
]

pub once-le : (ts : List (List ℕ)) → length (once bytes_eq ts) ≤ length ts
once-le [] = omega arith
once-le (t ∷ ts) = let few = filter-le (λ y. not (bytes_eq t y)) (once bytes_eq ts) in let r = once-le ts in omega arith

pub occurrences-le : (inputs : List Input) → length (occurrences inputs) ≤ sum_by (λ x. length x.object.symbols) inputs
occurrences-le inputs = length-each-le 0 occurring_in (λ x. length x.object.symbols) inputs (λ k x. occurs-le k x 0 x.object.symbols)

pub symbols-small : (inputs : List Input) (i n : ℕ) → i < length inputs → n < length (input_at inputs i).object.symbols → sum_by (λ x. length x.object.symbols) inputs ≤ SYMBOL_COUNT_LIMIT
    → length (occurring_up_to inputs i n) < 2 ^ 32
symbols-small inputs i n h l few =
    let all = occurrences-le inputs in
    let cut = ap length (split inputs i n h l) ∙ length-append (occurring_up_to inputs i n) _ in
    omega (arith, all, cut)

pub names-small : (inputs : List Input) (i n : ℕ) → i < length inputs → n < length (input_at inputs i).object.symbols → sum_by (λ x. length x.object.symbols) inputs ≤ SYMBOL_COUNT_LIMIT
    → length (names_in (occurring_up_to inputs i n)) < 2 ^ 32
names-small inputs i n h l few =
    let all = occurrences-le inputs in
    let cut = ap length (split inputs i n h l) ∙ length-append (occurring_up_to inputs i n) _ in
    let once = once-le (map (λ o. o.name) (occurring_up_to inputs i n)) in
    let same = length-map (occurring_up_to inputs i n) (λ o. o.name) in
    omega (arith, all, cut, once, same)

pub names_in_push : (os : List Occurrence) (o : Occurrence) → names_in (os ++ o ∷ []) ≡ with_name (names_in os) o.name
names_in_push os o = ap (once bytes_eq) (map-append (λ o. o.name) os (o ∷ [])) ∙ names_push (map (λ o. o.name) os) o.name

-- the numbers stay good as names are added
numbers_stay : (names more : List (List ℕ)) (numbers : List ℕ) (os : List Occurrence) → map (slice_get names) numbers ≡ map (λ o. Some o.name) os
    → map (slice_get (names ++ more)) numbers ≡ map (λ o. Some o.name) os
numbers_stay names more [] [] e = refl
numbers_stay names more [] (o ∷ os) e = cc
numbers_stay names more (n ∷ ns) [] e = cc
numbers_stay names more (n ∷ ns) (o ∷ os) e =
    let first : slice_get names n ≡ Some o.name = cc in
    let rest : map (slice_get names) ns ≡ map (λ o. Some o.name) os = cc in
    rw (get_left names more n o.name first, numbers_stay names more ns os rest) refl

pub numbered_more : (os : List Occurrence) (o : Occurrence) (names new : List (List ℕ)) (numbers : List ℕ) (k : ℕ) → AreNumbered os names numbers
    → new ≡ with_name names o.name → place_in new o.name ≡ Some k → AreNumbered (os ++ o ∷ []) new (numbers ++ k ∷ [])
numbered_more os o names new numbers k before more number = record {
  once = more ∙ (ap (λ l. with_name l o.name) before.once ∙ sym (names_in_push os o));
  named =
      let old : map (slice_get new) numbers ≡ map (λ o. Some o.name) os = ap (λ l. map (slice_get l) numbers) more ∙ numbers_stay names (only_if (not (among names o.name)) o.name) numbers os before.named in
      let last : slice_get new k ≡ Some o.name = number_leads new o.name k number in
      map-append (slice_get new) numbers (k ∷ []) ∙ (rw (old, last) refl ∙ sym (map-append (λ o. Some o.name) os (o ∷ [])));
}
