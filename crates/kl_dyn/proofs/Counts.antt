-- How many entries there are.
use Rattle.std.proofs.Common.{ℕ, suc, ◌≡◌, ◌+◌, ◌*◌, ◌<◌, ◌≤◌, ◌∙◌, List, [], ◌∷◌, ◌++◌, length, get_or, map, refl, ap, sym, arith, length-append, Bool, true, false, not, ◌&&◌, ◌||◌, cond, inl, inr, nat_eq, eqb-true}
use Rattle.std.specs.Prelude.{All, AllPairs, count_by, filter, option_to_list, sum_by}
use Rattle.std.specs.List.{IsDistinct, list_any}
use Rattle.std.proofs.lemmas.Bool.{cases_Bool}
use Rattle.std.proofs.lemmas.Cmp.{nat_eq_equiv}
use Rattle.std.proofs.lemmas.List.{get_or-map, length-map}
use Rattle.std.proofs.lemmas.List.Elements.{All-head, All-tail, filter-append, filter_passes}
use Rattle.std.proofs.lemmas.List.Kept.{AllPairs-filter}
use Rattle.std.proofs.lemmas.List.Folds.{list_any_none}
use Rattle.std.proofs.lemmas.List.Sums.{length-filter, sum_by-cons}
use Rattle.std.proofs.lemmas.Map.Keys.{IsDistinct-from_apart}
use Rattle.std.proofs.lemmas.Map.Made.{length-from_same_keys}
use Rattle.kl_model.specs.Lists.{each_from, number_in, once, only_if}
use Rattle.kl_model.specs.Relocations.{is_slot_kind}
use Rattle.kl_model.specs.Slots.{entries, field_entry, is_jump, is_loaded, is_moving, is_name, jump_entries, Way, Directly, BySlot, ByStub, Nowhere, name_of, rela_entries, same_target, slot_entry, slots, stubs, takes_slot, takes_stub, way, way_of}
use Rattle.kl_model.specs.declared.graph.Field.{Field}
use Rattle.kl_model.specs.declared.graph.Graph.{Graph}
use Rattle.kl_model.specs.declared.graph.Target.{Target}
use Rattle.kl_model.specs.declared.graph.Target.TheVariants.{Place, Abs, Edge, Name, Zero, Gone}
use Rattle.kl_model.proofs.Each.{each-none, filter-each}
use Rattle.kl_model.proofs.ListWords.{once-apart}
use Rattle.kl_model.proofs.StandOnce.{any-filter, any-map, slots_are, stubs_are}
use Rattle.kl_dyn.specs.Entries.{field_entries, slot_entries}

-- how many there are of what each item gives once or not at all
abbrev pub one_if : Bool → ℕ
one_if b = cond b 1 0

pub length-some : {X Y : Type 0} (n : ℕ) (f : ℕ → X → List Y) (p : X → Bool) (xs : List X) → ((k : ℕ) (x : X) → length (f k x) ≡ one_if (p x)) → length (each_from n f xs) ≡ length (filter p xs)
length-some n f p [] same = refl
length-some n f p (x ∷ xs) same =
    length-append (f n x) (each_from (suc n) f xs)
    ∙ (let first = same n x in let rest = length-some (suc n) f p xs same in
    elim (cases_Bool (p x)) [ inl a ↦ rw (first, rest, a) (omega arith) | inr a ↦ rw (first, rest, a) (omega arith) ])

length-only : {X : Type 0} (b : Bool) (x : X) → length (only_if b x) ≡ one_if b
length-only true x = refl
length-only false x = refl

pub field_count : (fs : List Field) → length (field_entries fs) ≡ count_by (λ f. is_loaded f.kind f.target) fs
field_count fs =
    length-some 0 (λ k f. only_if (is_loaded f.kind f.target) (field_entry f f.target)) (λ f. is_loaded f.kind f.target) fs (λ k f. length-only (is_loaded f.kind f.target) (field_entry f f.target))
    ∙ length-filter (λ (f : Field). is_loaded f.kind f.target) fs

slot_given : (g : Graph) (k : ℕ) (t : Target) → length (option_to_list (slot_entry g k t)) ≡ one_if (is_moving t || is_name t)
slot_given g k (Place n j) = refl
slot_given g k (Abs n) = refl
slot_given g k (Edge n e) = refl
slot_given g k (Name n) = refl
slot_given g k Zero = refl
slot_given g k Gone = refl

pub slot_count : (g : Graph) (ts : List Target) → length (slot_entries g ts) ≡ count_by (λ t. is_moving t || is_name t) ts
slot_count g ts = length-some 0 (λ k t. option_to_list (slot_entry g k t)) (λ t. is_moving t || is_name t) ts (slot_given g) ∙ length-filter (λ t. is_moving t || is_name t) ts

-- no field has an entry of the type JUMP_SLOT
field_plain : (b : Bool) (f : Field) (t : Target) → filter is_jump (only_if b (field_entry f t)) ≡ []
field_plain false f t = refl
field_plain true f (Place n k) = refl
field_plain true f (Abs n) = refl
field_plain true f (Edge n e) = refl
field_plain true f (Name n) = refl
field_plain true f Zero = refl
field_plain true f Gone = refl

pub no_field_jumps : (fs : List Field) → filter is_jump (field_entries fs) ≡ []
no_field_jumps fs =
    filter-each is_jump 0 (λ k f. only_if (is_loaded f.kind f.target) (field_entry f f.target)) fs
    ∙ each-none 0 (λ k f. filter is_jump (only_if (is_loaded f.kind f.target) (field_entry f f.target))) fs (λ k d h. field_plain (is_loaded (get_or fs k d).kind (get_or fs k d).target) (get_or fs k d) (get_or fs k d).target)

-- the slot of a name that has a stub
abbrev pub is_stubbed : Graph → Target → Bool
is_stubbed g (Name n) = number_in (stubs g) n
is_stubbed g _ = false

slot_jumps : (g : Graph) (k : ℕ) (t : Target) → length (filter is_jump (option_to_list (slot_entry g k t))) ≡ one_if (is_stubbed g t)
slot_jumps g k (Place n j) = refl
slot_jumps g k (Abs n) = refl
slot_jumps g k (Edge n e) = refl
slot_jumps g k (Name n) = elim (cases_Bool (number_in (stubs g) n)) [ inl a ↦ rw a refl | inr a ↦ rw a refl ]
slot_jumps g k Zero = refl
slot_jumps g k Gone = refl

jump_count : (g : Graph) → length (jump_entries g) ≡ length (filter (is_stubbed g) (slots g))
jump_count g =
    ap length (filter-append is_jump (field_entries g.fields) (slot_entries g (slots g)))
    ∙ (ap (λ l. length (l ++ filter is_jump (slot_entries g (slots g)))) (no_field_jumps g.fields)
    ∙ (ap length (filter-each is_jump 0 (λ k t. option_to_list (slot_entry g k t)) (slots g))
    ∙ length-some 0 (λ k t. filter is_jump (option_to_list (slot_entry g k t))) (is_stubbed g) (slots g) (slot_jumps g)))

-- THE STUBS ARE THE NAMES OF THOSE SLOTS
pub in-any : (ns : List ℕ) (n : ℕ) → number_in ns n ≡ list_any (nat_eq n) ns
in-any [] n = refl
in-any (m ∷ ns) n = rw (nat_eq_equiv.symm m n, in-any ns n) refl

stubbed_is : (g : Graph) (q : ℕ) (t : Target) → (is_stubbed g t && nat_eq q (name_of t)) ≡ (same_target (Name q) t && list_any (nat_eq q) (stubs g))
stubbed_is g q (Place n j) = refl
stubbed_is g q (Abs n) = refl
stubbed_is g q (Edge n e) = refl
stubbed_is g q (Name n) = elim (cases_Bool (nat_eq q n)) [
  | inl a ↦ let s : q ≡ n = eqb-true q n a in rw (← s, in-any (stubs g) q) (and_turned (list_any (nat_eq q) (stubs g)) (nat_eq q q))
  | inr a ↦ rw a (and_none (number_in (stubs g) n))
]
  where
    and_turned : (a b : Bool) → (a && b) ≡ (b && a)
    and_turned true true = refl
    and_turned true false = refl
    and_turned false true = refl
    and_turned false false = refl

    and_none : (a : Bool) → (a && false) ≡ false
    and_none true = refl
    and_none false = refl
stubbed_is g q Zero = refl
stubbed_is g q Gone = refl

-- a stub's name has a slot
no_stub : (kind : ℕ) (t : Target) (q : ℕ) → (takes_stub (way kind t) && nat_eq q (name_of t)) ≡ true → (takes_slot (way kind t) && same_target (Name q) t) ≡ true
no_stub kind (Place n k) q e = elim (cases_Bool (is_slot_kind kind)) [ inl a ↦ (let no : false ≡ true = rw a at e in cc) | inr a ↦ (let no : false ≡ true = rw a at e in cc) ]
no_stub kind (Abs n) q e = elim (cases_Bool (is_slot_kind kind)) [ inl a ↦ (let no : false ≡ true = rw a at e in cc) | inr a ↦ (let no : false ≡ true = rw a at e in cc) ]
no_stub kind (Edge n k) q e = elim (cases_Bool (is_slot_kind kind)) [ inl a ↦ (let no : false ≡ true = rw a at e in cc) | inr a ↦ (let no : false ≡ true = rw a at e in cc) ]
no_stub kind (Name n) q e = stub_slot (way kind (Name n)) (nat_eq q n) e
  where
    stub_slot : (w : Way) (b : Bool) → (takes_stub w && b) ≡ true → (takes_slot w && b) ≡ true
    stub_slot Directly b h = cc
    stub_slot BySlot b h = cc
    stub_slot ByStub b h = h
    stub_slot Nowhere b h = cc
no_stub kind Zero q e = elim (cases_Bool (is_slot_kind kind)) [ inl a ↦ (let no : false ≡ true = rw a at e in cc) | inr a ↦ (let no : false ≡ true = rw a at e in cc) ]
no_stub kind Gone q e = cc

any-weaker : {X : Type 0} (p q : X → Bool) → ((x : X) → p x ≡ true → q x ≡ true) → (xs : List X) → list_any p xs ≡ true → list_any q xs ≡ true
any-weaker p q h [] e = cc
any-weaker p q h (x ∷ xs) e = elim (cases_Bool (p x)) [
  | inl a ↦ let b = h x a in rw b refl
  | inr a ↦ let rest = any-weaker p q h xs (rw a at e) in or_true (q x) (list_any q xs) rest
]
  where
    or_true : (a b : Bool) → b ≡ true → (a || b) ≡ true
    or_true true b e = refl
    or_true false b e = e

any-same : {X : Type 0} (p q : X → Bool) → ((x : X) → p x ≡ q x) → (xs : List X) → list_any p xs ≡ list_any q xs
any-same p q h [] = refl
any-same p q h (x ∷ xs) = rw (h x, any-same p q h xs) refl

pub stub_slot : (g : Graph) (q : ℕ) → list_any (nat_eq q) (stubs g) ≡ true → list_any (same_target (Name q)) (slots g) ≡ true
stub_slot g q e =
    slots_are g (Name q)
    ∙ any-weaker (λ (f : Field). takes_stub (way_of f) && nat_eq q (name_of f.target)) (λ f. takes_slot (way_of f) && same_target (Name q) f.target)
    (λ f h. no_stub f.kind f.target q h) g.fields (sym (stubs_are g q) ∙ e)

-- the names of the slots that have a stub
stubbed_names : Graph → List ℕ
stubbed_names g = map name_of (filter (is_stubbed g) (slots g))

members : (g : Graph) (q : ℕ) → list_any (nat_eq q) (stubbed_names g) ≡ list_any (nat_eq q) (stubs g)
unfolding stubbed_names
members g q =
    any-map (nat_eq q) name_of (filter (is_stubbed g) (slots g))
    ∙ (any-filter (λ t. nat_eq q (name_of t)) (is_stubbed g) (slots g)
    ∙ (any-same (λ t. is_stubbed g t && nat_eq q (name_of t)) (λ t. same_target (Name q) t && list_any (nat_eq q) (stubs g)) (stubbed_is g q) (slots g)
    ∙ go (list_any (nat_eq q) (stubs g)) refl))
  where
    and_true : (a : Bool) → (a && true) ≡ a
    and_true true = refl
    and_true false = refl

    and_false : (a : Bool) → (a && false) ≡ false
    and_false true = refl
    and_false false = refl

    go : (b : Bool) → list_any (nat_eq q) (stubs g) ≡ b → list_any (λ t. same_target (Name q) t && b) (slots g) ≡ b
    go true e = any-same (λ t. same_target (Name q) t && true) (same_target (Name q)) (λ t. and_true (same_target (Name q) t)) (slots g) ∙ stub_slot g q e
    go false e = list_any_none (λ t. same_target (Name q) t && false) (slots g) (λ k d h. and_false (same_target (Name q) (get_or (slots g) k d)))

-- names of distinct targets, all of them names, are distinct
names_differ : (g : Graph) (t u : Target) → is_stubbed g t ≡ true → is_stubbed g u ≡ true → same_target t u ≡ false → nat_eq (name_of t) (name_of u) ≡ false
names_differ g (Name n) (Name m) a b e = e
names_differ g (Name n) (Place m k) a b e = cc
names_differ g (Name n) (Abs m) a b e = cc
names_differ g (Name n) (Edge m k) a b e = cc
names_differ g (Name n) Zero a b e = cc
names_differ g (Name n) Gone a b e = cc
names_differ g (Place n k) u a b e = cc
names_differ g (Abs n) u a b e = cc
names_differ g (Edge n k) u a b e = cc
names_differ g Zero u a b e = cc
names_differ g Gone u a b e = cc

names_apart : (g : Graph) (ts : List Target) → AllPairs (λ x y. same_target x y ≡ false) ts → IsDistinct nat_eq (map name_of (filter (is_stubbed g) ts))
names_apart g ts apart =
    let kept = filter (is_stubbed g) ts in
    let pairs = AllPairs-filter (λ x y. same_target x y ≡ false) (is_stubbed g) ts apart in
    let many = length-map kept name_of in
    IsDistinct-from_apart nat_eq (map name_of kept) (λ i j d h l.
    let last : j < length kept = omega arith in
    let first : i < length kept = omega arith in
    ap (λ n. nat_eq n (get_or (map name_of kept) j d)) (get_or-map name_of kept i Zero d first)
    ∙ (ap (nat_eq (name_of (get_or kept i Zero))) (get_or-map name_of kept j Zero d last)
    ∙ names_differ g (get_or kept i Zero) (get_or kept j Zero) (filter_passes (is_stubbed g) ts i Zero first) (filter_passes (is_stubbed g) ts j Zero last) (pairs i j Zero h last)))

pub jump_total : (g : Graph) → length (jump_entries g) ≡ length (stubs g)
unfolding stubbed_names
jump_total g =
    jump_count g
    ∙ (sym (length-map (filter (is_stubbed g) (slots g)) name_of)
    ∙ length-from_same_keys nat_eq_equiv (stubbed_names g) (stubs g) (names_apart g (slots g) (once-apart same_target (map (λ f. f.target) (filter (λ f. takes_slot (way_of f)) g.fields))))
    (IsDistinct-from_apart nat_eq (stubs g) (once-apart nat_eq (map (λ f. name_of f.target) (filter (λ f. takes_stub (way_of f)) g.fields))))
    (members g))

-- all entries are in one table or the other
pub split_count : {X : Type 0} (p : X → Bool) (xs : List X) → length (filter (λ x. not (p x)) xs) + length (filter p xs) ≡ length xs
split_count p [] = refl
split_count p (x ∷ xs) = let rest = split_count p xs in elim (cases_Bool (p x)) [ inl a ↦ rw a (omega arith) | inr a ↦ rw a (omega arith) ]

pub entry_total : (g : Graph) → length (rela_entries g) + length (stubs g) ≡ length (field_entries g.fields) + length (slot_entries g (slots g))
entry_total g = omega (arith, jump_total g, split_count is_jump (entries g), length-append (field_entries g.fields) (slot_entries g (slots g)))

-- there are no more slots and stubs than fields
filter-le : {X : Type 0} (p : X → Bool) (xs : List X) → length (filter p xs) ≤ length xs
filter-le p [] = omega arith
filter-le p (x ∷ xs) = elim (cases_Bool (p x)) [
  | inl a ↦ rw a (let r = filter-le p xs in omega arith)
  | inr a ↦ rw a (let r = filter-le p xs in omega arith)
]

once-le : {X : Type 0} (same : X → X → Bool) (xs : List X) → length (once same xs) ≤ length xs
once-le same [] = omega arith
once-le same (x ∷ xs) = let few = filter-le (λ y. not (same x y)) (once same xs) in let r = once-le same xs in omega arith

once-picked : {X Y : Type 0} (same : Y → Y → Bool) (f : X → Y) (p : X → Bool) (xs : List X) → length (once same (map f (filter p xs))) ≤ length xs
once-picked same f p xs = omega (arith, once-le same (map f (filter p xs)), length-map (filter p xs) f, filter-le p xs)

pub slots-few : (g : Graph) → length (slots g) ≤ length g.fields
slots-few g = once-picked same_target (λ (f : Field). f.target) (λ f. takes_slot (way_of f)) g.fields

pub stubs-few : (g : Graph) → length (stubs g) ≤ length g.fields
stubs-few g = once-picked nat_eq (λ (f : Field). name_of f.target) (λ f. takes_stub (way_of f)) g.fields

pub sum_by-most : {X : Type 0} (f : X → ℕ) (m : ℕ) (xs : List X) → All (λ x. f x ≤ m) xs → sum_by f xs ≤ m * length xs
sum_by-most f m [] all = omega arith
sum_by-most f m (x ∷ xs) all =
    omega (arith, sum_by-cons f x xs, All-head (λ x. f x ≤ m) x xs all, sum_by-most f m xs (All-tail (λ x. f x ≤ m) x xs all))
