-- Each thing stands once where it should, and what is in order ascends.
use Rattle.std.proofs.Common.{ℕ, zero, suc, ◌≡◌, ◌+◌, ◌<◌, ◌≤◌, ◌∙◌, List, [], ◌∷◌, ◌++◌, length, get_or, map, refl, ap, sym, arith, Bool, true, false, not, ◌&&◌, ◌||◌, inl, inr, nat_eq, eqb-true, eq-eqb}
use Rattle.std.specs.Prelude.{All, AllPairs, ◌↔◌, ◌==◌, filter, find, nat_lt, Option, Some, None, option_to_list}
use Rattle.std.specs.Option.{option_map}
use Rattle.std.specs.Cmp.{IsEquivalence}
use Rattle.std.specs.List.{list_any}
use Rattle.std.specs.List.Sorted.{IsPermutation}
use Rattle.std.specs.Str.{bytes_eq}
use Rattle.std.specs.Ordering.{nat_cmp}
use Rattle.std.specs.Cmp.Lexicographic.{slice_cmp}
use Rattle.std.specs.declared.cmp.Ordering.{Ordering}
use Rattle.std.specs.declared.cmp.Ordering.TheVariants.{Less, Equal, Greater}
use Rattle.std.proofs.lemmas.Bool.{cases_Bool, ltb-false}
use Rattle.std.proofs.lemmas.Cmp.{nat_eq_equiv, nat_list_cmp_total, nat_list_eq_equiv}
use Rattle.std.proofs.lemmas.List.Elements.{All-cons, All-head, All-tail}
use Rattle.std.proofs.lemmas.List.Kept.{AllPairs-cons}
use Rattle.std.proofs.lemmas.List.MinMax.{IsStrictWeakOrder-by_number}
use Rattle.std.proofs.lemmas.List.Sorted.{list_any-IsPermutation}
use Rattle.std.proofs.lemmas.Map.Text.{is_eq-slice_cmp}
use Rattle.kl_model.specs.Faults.{doubled, doubled_after, is_global_definition}
use Rattle.kl_model.specs.Lists.{among, once}
use Rattle.kl_model.specs.Names.{Occurrence, comes_before, common_names, edge_lines, holds_common, is_less, lines_in_order, occurrences, sorted_names}
use Rattle.kl_model.specs.Slots.{name_of, same_flag, same_target, slots, stubs, takes_slot, takes_stub, way_of}
use Rattle.kl_model.specs.declared.graph.Field.{Field}
use Rattle.kl_model.specs.declared.graph.Graph.{Graph}
use Rattle.kl_model.specs.declared.graph.Target.{Target}
use Rattle.kl_model.specs.declared.graph.Target.TheVariants.{Place, Abs, Edge, Name, Zero, Gone}
use Rattle.kl_model.specs.declared.link.LinkFault.TheVariants as fault
use Rattle.kl_model.specs.declared.object.Input.{Input}
use Rattle.kl_model.specs.declared.kit.Kit.{Kit}
use Rattle.kl_model.proofs.ListWords.{in_order-ordered, in_order-pairs, in_order-permutes, names_order, once-apart, once-has}

pub any-map : {X Y : Type 0} (p : Y → Bool) (f : X → Y) (xs : List X) → list_any p (map f xs) ≡ list_any (λ x. p (f x)) xs
any-map p f [] = refl
any-map p f (x ∷ xs) = ap (λ b. p (f x) || b) (any-map p f xs)

pub any-filter : {X : Type 0} (p q : X → Bool) (xs : List X) → list_any p (filter q xs) ≡ list_any (λ x. q x && p x) xs
any-filter p q [] = refl
any-filter p q (x ∷ xs) = elim (cases_Bool (q x)) [ inl a ↦ rw a (ap (λ b. p x || b) (any-filter p q xs)) | inr a ↦ rw a (any-filter p q xs) ]

-- what `once` makes of what a filter lets pass has what passes, by name
picked : {X Y : Type 0} (same : Y → Y → Bool) → IsEquivalence same → (f : X → Y) (q : X → Bool) (xs : List X) (t : Y)
    → list_any (same t) (once same (map f (filter q xs))) ≡ list_any (λ x. q x && same t (f x)) xs
picked same e f q xs t = once-has same e t (map f (filter q xs)) ∙ (any-map (same t) f (filter q xs) ∙ any-filter (λ x. same t (f x)) q xs)

pub target-refl : (t : Target) → same_target t t ≡ true
target-refl (Place n k) = rw (eq-eqb n n refl, eq-eqb k k refl) refl
target-refl (Abs n) = eq-eqb n n refl
target-refl (Edge n true) = rw (eq-eqb n n refl) refl
target-refl (Edge n false) = rw (eq-eqb n n refl) refl
target-refl (Name n) = eq-eqb n n refl
target-refl Zero = refl
target-refl Gone = refl

both_left : (a b : Bool) → (a && b) ≡ true → a ≡ true
both_left true b e = refl
both_left false b e = cc

both_right : (a b : Bool) → (a && b) ≡ true → b ≡ true
both_right true b e = e
both_right false b e = cc

flag_is : (e d : Bool) → same_flag e d ≡ true → e ≡ d
flag_is true true h = refl
flag_is true false h = cc
flag_is false true h = cc
flag_is false false h = refl

pub target-is : (t u : Target) → same_target t u ≡ true → t ≡ u
target-is (Place n k) (Place m j) h = rw (eqb-true n m (both_left (n == m) (k == j) h), eqb-true k j (both_right (n == m) (k == j) h)) refl
target-is (Abs n) (Abs m) h = rw (eqb-true n m h) refl
target-is (Edge n e) (Edge m d) h = rw (eqb-true n m (both_left (n == m) (same_flag e d) h), flag_is e d (both_right (n == m) (same_flag e d) h)) refl
target-is (Name n) (Name m) h = rw (eqb-true n m h) refl
target-is Zero Zero h = refl
target-is Gone Gone h = refl
target-is t u h = cc

pub targets_alike : IsEquivalence same_target
targets_alike = record {
  refl = target-refl;
  symm = λ t u. elim (cases_Bool (same_target t u)) [
    | inl a ↦ let is = target-is t u a in rw is refl
    | inr a ↦ elim (cases_Bool (same_target u t)) [
      | inl b ↦ let is = target-is u t b in rw is refl
      | inr b ↦ a ∙ sym b
    ]
  ];
  congr = λ t u v h. let is = target-is t u h in rw is refl;
}

pub commons : (kit : Kit) (inputs : List Input) (name : List ℕ)
    → among (common_names kit inputs) name ≡ list_any (λ o. holds_common kit inputs o && bytes_eq name o.name) (occurrences inputs)
commons kit inputs name = picked bytes_eq nat_list_eq_equiv (λ (o : Occurrence). o.name) (holds_common kit inputs) (occurrences inputs) name

pub slots_are : (g : Graph) (t : Target) → list_any (same_target t) (slots g) ≡ list_any (λ f. takes_slot (way_of f) && same_target t f.target) g.fields
slots_are g t = picked same_target targets_alike (λ (f : Field). f.target) (λ f. takes_slot (way_of f)) g.fields t

pub stubs_are : (g : Graph) (n : ℕ) → list_any (nat_eq n) (stubs g) ≡ list_any (λ f. takes_stub (way_of f) && nat_eq n (name_of f.target)) g.fields
stubs_are g n = picked nat_eq nat_eq_equiv (λ (f : Field). name_of f.target) (λ f. takes_stub (way_of f)) g.fields n

abbrev once_names : List Input → List (List ℕ)
once_names inputs = once bytes_eq (map (λ o. o.name) (occurrences inputs))

pub names_are : (inputs : List Input) (name : List ℕ) → among (sorted_names inputs) name ≡ list_any (λ o. bytes_eq name o.name) (occurrences inputs)
names_are inputs name =
    sym (list_any-IsPermutation (bytes_eq name) (once_names inputs) (sorted_names inputs) (in_order-permutes comes_before (once_names inputs)))
    ∙ (once-has bytes_eq nat_list_eq_equiv name (map (λ o. o.name) (occurrences inputs)) ∙ any-map (bytes_eq name) (λ (o : Occurrence). o.name) (occurrences inputs))

pub lines_ascend : (kit : Kit) → AllPairs (λ x y. x.0 ≤ y.0) (lines_in_order kit)
lines_ascend kit i j d l m =
    ltb-false _ _ (in_order-ordered (λ (x y : ℕ × List (List ℕ × Target)). nat_lt x.0 y.0) (IsStrictWeakOrder-by_number (λ (x : ℕ × List (List ℕ × Target)). x.0)) (edge_lines kit) i j d l m)

-- one text doesn't come before the other, nor the other before it: they are one
less_or_same : (x y : List ℕ) (a b : Ordering) → slice_cmp nat_cmp x y ≡ a → slice_cmp nat_cmp y x ≡ b → is_less b ≡ false → bytes_eq x y ≡ false → is_less a ≡ true
less_or_same x y Less b ea eb h apart = refl
less_or_same x y Equal b ea eb h apart = let same : true ≡ bytes_eq x y = rw ea at (is_eq-slice_cmp x y) in cc
less_or_same x y Greater b ea eb h apart =
    let turned = nat_list_cmp_total.antisymm y x in
    let back : slice_cmp nat_cmp y x ≡ Less = rw ea at turned in
    let less : b ≡ Less = sym eb ∙ back in
    let no : true ≡ false = rw less at h in cc

pub names_ascend : (inputs : List Input) → AllPairs (λ x y. comes_before x y ≡ true) (sorted_names inputs)
names_ascend inputs i j d l m =
    let x = get_or (sorted_names inputs) i d in
    let y = get_or (sorted_names inputs) j d in
    less_or_same x y (slice_cmp nat_cmp x y) (slice_cmp nat_cmp y x) refl refl
    (in_order-ordered comes_before names_order (once_names inputs) i j d l m)
    (apart i j d l m)
  where
    turned : (x y : List ℕ) → bytes_eq x y ≡ false → bytes_eq y x ≡ false
    turned x y h = nat_list_eq_equiv.symm y x ∙ h

    apart : AllPairs (λ x y. bytes_eq x y ≡ false) (sorted_names inputs)
    apart = in_order-pairs comes_before (λ x y. bytes_eq x y ≡ false) turned (once_names inputs) (once-apart bytes_eq (map (λ o. o.name) (occurrences inputs)))

-- NAMES THAT ARE DOUBLED
abbrev Apart : Occurrence → Occurrence → Type 0
Apart x y = bytes_eq x.name y.name ≡ false

empty_left : {X : Type 0} (xs ys : List X) → xs ++ ys ≡ [] → xs ≡ []
empty_left [] ys e = refl
empty_left (x ∷ xs) ys e = cc

empty_right : {X : Type 0} (xs ys : List X) → xs ++ ys ≡ [] → ys ≡ []
empty_right [] ys e = e
empty_right (x ∷ xs) ys e = cc

-- nothing is found where all fail the test, and else something is
found_none : {X Y : Type 0} (p : X → Bool) (f : X → Y) (xs : List X) → option_to_list (option_map f (find p xs)) ≡ [] → All (λ x. p x ≡ false) xs
found_none p f [] e = λ k d h. absurd (omega arith)
found_none p f (x ∷ xs) e =
    elim (cases_Bool (p x)) [
      | inl a ↦ let no : f x ∷ [] ≡ [] = rw a at e in cc
      | inr a ↦ All-cons (λ x. p x ≡ false) x xs a (found_none p f xs (rw a at e))
    ]

none_found : {X Y : Type 0} (p : X → Bool) (f : X → Y) (xs : List X) → All (λ x. p x ≡ false) xs → option_to_list (option_map f (find p xs)) ≡ []
none_found p f [] all = refl
none_found p f (x ∷ xs) all = let here = All-head (λ x. p x ≡ false) x xs all in rw here (none_found p f xs (All-tail (λ x. p x ≡ false) x xs all))

apart_seen : (seen os : List Occurrence) → doubled_after seen os ≡ [] → AllPairs Apart os × All (λ o. All (λ d. bytes_eq d.name o.name ≡ false) seen) os
apart_seen seen [] e = ((λ i j d l m. absurd (omega arith)), (λ k d h. absurd (omega arith)))
apart_seen seen (o ∷ os) e =
    let here = found_none (λ d. bytes_eq d.name o.name) _ seen (empty_left _ (doubled_after (o ∷ seen) os) e) in
    let rest = apart_seen (o ∷ seen) os (empty_right _ (doubled_after (o ∷ seen) os) e) in (
      AllPairs-cons Apart o os (λ k d h. All-head (λ x. bytes_eq x.name (get_or os k d).name ≡ false) o seen (rest.1 k d h)) rest.0,
      All-cons (λ o. All (λ d. bytes_eq d.name o.name ≡ false) seen) o os here (λ k d h. All-tail (λ x. bytes_eq x.name (get_or os k d).name ≡ false) o seen (rest.1 k d h)),
    )

seen_apart : (seen os : List Occurrence) → AllPairs Apart os → All (λ o. All (λ d. bytes_eq d.name o.name ≡ false) seen) os → doubled_after seen os ≡ []
seen_apart seen [] pairs all = refl
seen_apart seen (o ∷ os) pairs all =
    let here = none_found (λ d. bytes_eq d.name o.name) (λ d. fault.Doubled o.name (d.input, d.number) (o.input, o.number)) seen (All-head (λ o. All (λ d. bytes_eq d.name o.name ≡ false) seen) o os all) in
    let rest = seen_apart (o ∷ seen) os (λ i j d l m. pairs (suc i) (suc j) d (omega arith) (omega arith))
    (λ k d h. All-cons (λ x. bytes_eq x.name (get_or os k d).name ≡ false) o seen (pairs 0 (suc k) d (omega arith) (omega arith)) (All-tail (λ o. All (λ d. bytes_eq d.name o.name ≡ false) seen) o os all k d h)) in
    rw (here, rest) refl

pub none_doubled : (kit : Kit) (inputs : List Input) → (doubled kit inputs ≡ []) ↔ AllPairs Apart (filter (is_global_definition kit inputs) (occurrences inputs))
none_doubled kit inputs =
    let os = filter (is_global_definition kit inputs) (occurrences inputs) in
    ((λ e. (apart_seen [] os e).0), (λ pairs. seen_apart [] os pairs (λ k d h j e m. absurd (omega arith))))
