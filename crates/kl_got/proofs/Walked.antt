-- One field more.
use Rattle.std.proofs.Common.{ℕ, ◌≡◌, ◌+◌, ◌<◌, ◌≤◌, ◌∙◌, List, [], ◌∷◌, ◌++◌, length, length-take-le, get_or, take, map, refl, ap, sym, Bool, true, false, not, inl, inr, arith, nat_eq, eqb-true, eq-eqb}
use Rattle.std.specs.Prelude.{All, AllPairs, pos, Some, None, filter}
use Rattle.std.specs.List.{list_any}
use Rattle.std.proofs.lemmas.Bool.{cases_Bool}
use Rattle.std.proofs.lemmas.List.{append-nil, get_or-take, get_or_default, length-map, map-append, take_more}
use Rattle.std.proofs.lemmas.List.Folds.{list_any_none}
use Rattle.std.proofs.lemmas.List.Elements.{All-head, All-tail, filter-append}
use Rattle.kl_model.specs.Lists.{once}
use Rattle.kl_model.specs.Relocations.{is_slot_kind}
use Rattle.kl_model.specs.Slots.{name_of, same_target, takes_slot, takes_stub, way, way_of}
use Rattle.kl_model.specs.Sound.{IsSoundField, IsSoundTarget}
use Rattle.kl_model.specs.declared.graph.Field.{Field}
use Rattle.kl_model.specs.declared.graph.Graph.{Graph}
use Rattle.kl_model.specs.declared.graph.Target.{Target}
use Rattle.kl_model.specs.declared.graph.Target.TheVariants.{Place, Abs, Edge, Name, Zero, Gone}
use Rattle.kl_model.specs.declared.kit.Kit.{Kit}
use Rattle.kl_model.proofs.StandOnce.{target-is, target-refl}
use Rattle.kl_got.specs.Numbered.{same_value, with_target}
use Rattle.kl_got.specs.Made.{slots_of, stub_name, stubs_of, with_slot, with_stub}
use Rattle.kl_got.proofs.Once.{once_push, other_way}

-- `==` compares targets as values
pub value-is : (t u : Target) → same_value t u ≡ same_target t u
value-is (Place n k) (Place m j) = refl
value-is (Place n k) (Abs m) = refl
value-is (Place n k) (Edge m j) = refl
value-is (Place n k) (Name m) = refl
value-is (Place n k) Zero = refl
value-is (Place n k) Gone = refl
value-is (Abs n) (Place m j) = refl
value-is (Abs n) (Abs m) = refl
value-is (Abs n) (Edge m j) = refl
value-is (Abs n) (Name m) = refl
value-is (Abs n) Zero = refl
value-is (Abs n) Gone = refl
value-is (Edge n k) (Place m j) = refl
value-is (Edge n k) (Abs m) = refl
value-is (Edge n true) (Edge m true) = refl
value-is (Edge n true) (Edge m false) = refl
value-is (Edge n false) (Edge m true) = refl
value-is (Edge n false) (Edge m false) = refl
value-is (Edge n k) (Name m) = refl
value-is (Edge n k) Zero = refl
value-is (Edge n k) Gone = refl
value-is (Name n) (Place m j) = refl
value-is (Name n) (Abs m) = refl
value-is (Name n) (Edge m j) = refl
value-is (Name n) (Name m) = refl
value-is (Name n) Zero = refl
value-is (Name n) Gone = refl
value-is Zero (Place m j) = refl
value-is Zero (Abs m) = refl
value-is Zero (Edge m j) = refl
value-is Zero (Name m) = refl
value-is Zero Zero = refl
value-is Zero Gone = refl
value-is Gone (Place m j) = refl
value-is Gone (Abs m) = refl
value-is Gone (Edge m j) = refl
value-is Gone (Name m) = refl
value-is Gone Zero = refl
value-is Gone Gone = refl

pub number-is : (n m : ℕ) → nat_eq n m ≡ true → n ≡ m
number-is n m h = eqb-true n m h

pub number-refl : (n : ℕ) → nat_eq n n ≡ true
number-refl n = eq-eqb n n refl

-- what a place past the end reads as
abbrev pub zero_field : Field
zero_field = record { from = record { input = 0; section = 0; index = 0 }; piece = 0; offset = 0; kind = 0; addend = pos 0; target = Place 0 0 }

-- one field more
slots_push : (fs : List Field) (f : Field) → slots_of (fs ++ f ∷ []) ≡ with_slot (slots_of fs) f
slots_push fs f =
    let takes = λ (x : Field). takes_slot (way_of x) in
    ap (λ l. once same_target (map (λ x. x.target) l)) (filter-append takes fs (f ∷ []))
    ∙ (ap (once same_target) (map-append (λ (x : Field). x.target) (filter takes fs) (filter takes (f ∷ [])))
    ∙ elim (cases_Bool (takes f)) [
      | inl a ↦ rw a (once_push same_target target-is target-refl (map (λ x. x.target) (filter takes fs)) f.target)
      | inr a ↦ rw a (ap (once same_target) (append-nil _))
    ])

stubs_push : (fs : List Field) (f : Field) → stubs_of (fs ++ f ∷ []) ≡ with_stub (stubs_of fs) f
stubs_push fs f =
    let takes = λ (x : Field). takes_stub (way_of x) in
    ap (λ l. once nat_eq (map (λ x. name_of x.target) l)) (filter-append takes fs (f ∷ []))
    ∙ (ap (once nat_eq) (map-append (λ (x : Field). name_of x.target) (filter takes fs) (filter takes (f ∷ [])))
    ∙ elim (cases_Bool (takes f)) [
      | inl a ↦ rw a (once_push nat_eq number-is number-refl (map (λ x. name_of x.target) (filter takes fs)) (name_of f.target))
      | inr a ↦ rw a (ap (once nat_eq) (append-nil _))
    ])

pub slots_more : (fs : List Field) (i : ℕ) (d : Field) → i < length fs → slots_of (take (i + 1) fs) ≡ with_slot (slots_of (take i fs)) (get_or fs i d)
slots_more fs i d h = ap slots_of (take_more fs i d h) ∙ slots_push (take i fs) (get_or fs i d)

pub stubs_more : (fs : List Field) (i : ℕ) (d : Field) → i < length fs → stubs_of (take (i + 1) fs) ≡ with_stub (stubs_of (take i fs)) (get_or fs i d)
stubs_more fs i d h = ap stubs_of (take_more fs i d h) ∙ stubs_push (take i fs) (get_or fs i d)

-- there are no more slots than fields
filter-le : {X : Type 0} (p : X → Bool) (xs : List X) → length (filter p xs) ≤ length xs
filter-le p [] = omega arith
filter-le p (x ∷ xs) = elim (cases_Bool (p x)) [
  | inl a ↦ rw a (let r = filter-le p xs in omega arith)
  | inr a ↦ rw a (let r = filter-le p xs in omega arith)
]

once-le : {X : Type 0} (same : X → X → Bool) (xs : List X) → length (once same xs) ≤ length xs
once-le same [] = omega arith
once-le same (x ∷ xs) = let few = filter-le (λ y. not (same x y)) (once same xs) in let r = once-le same xs in omega arith

pub slots-few : (fs : List Field) → length (slots_of fs) ≤ length fs
slots-few fs =
    let takes = λ (x : Field). takes_slot (way_of x) in
    let few = once-le same_target (map (λ (x : Field). x.target) (filter takes fs)) in
    let same = length-map (filter takes fs) (λ (x : Field). x.target) in
    let passing = filter-le takes fs in omega (arith, few, same, passing)

pub stubs-few : (fs : List Field) → length (stubs_of fs) ≤ length fs
stubs-few fs =
    let takes = λ (x : Field). takes_stub (way_of x) in
    let few = once-le nat_eq (map (λ (x : Field). name_of x.target) (filter takes fs)) in
    let same = length-map (filter takes fs) (λ (x : Field). name_of x.target) in
    let passing = filter-le takes fs in omega (arith, few, same, passing)

-- a stub's name is one of the graph's
no_stub : (kind : ℕ) (t : Target) → (b : Bool) → is_slot_kind kind ≡ b → takes_stub (way kind t) ≡ true → (n : ℕ) × (t ≡ Name n)
no_stub kind (Place n k) true e h = let no : false ≡ true = rw e at h in cc
no_stub kind (Place n k) false e h = let no : false ≡ true = rw e at h in cc
no_stub kind (Abs n) true e h = let no : false ≡ true = rw e at h in cc
no_stub kind (Abs n) false e h = let no : false ≡ true = rw e at h in cc
no_stub kind (Edge n k) true e h = let no : false ≡ true = rw e at h in cc
no_stub kind (Edge n k) false e h = let no : false ≡ true = rw e at h in cc
no_stub kind (Name n) b e h = (n, refl)
no_stub kind Zero true e h = let no : false ≡ true = rw e at h in cc
no_stub kind Zero false e h = let no : false ≡ true = rw e at h in cc
no_stub kind Gone b e h = cc

pub stub_known : (kit : Kit) (g : Graph) (f : Field) → IsSoundTarget kit g f.target → takes_stub (way_of f) ≡ true → name_of f.target < length g.names
stub_known kit g f sound h =
    let named = no_stub f.kind f.target (is_slot_kind f.kind) refl h in
    let at : IsSoundTarget kit g (Name named.0) = rw named.1 at sound in
    rw named.1 at

pub stub_name-known : (kit : Kit) (g : Graph) (f : Field) → IsSoundTarget kit g f.target → (n : ℕ) → stub_name f ≡ Some n → n < length g.names
stub_name-known kit g f sound n e = elim (cases_Bool (takes_stub (way_of f))) [
  | inl a ↦ let is : Some (name_of f.target) ≡ Some n = rw a at e in let same : name_of f.target ≡ n = cc in rw (← same) (stub_known kit g f sound a)
  | inr a ↦ let is : None ≡ Some n = rw a at e in cc
]

none_pass : (kit : Kit) (g : Graph) → g.names ≡ [] → (fs : List Field) → All (IsSoundField kit g) fs → filter (λ f. takes_stub (way_of f)) fs ≡ []
none_pass kit g none [] sound = refl
none_pass kit g none (f ∷ fs) sound = elim (cases_Bool (takes_stub (way_of f))) [
  | inl a ↦
      let known = stub_known kit g f (All-head (IsSoundField kit g) f fs sound).target a in
      let empty : length g.names ≡ 0 = ap length none in absurd (omega arith)
  | inr a ↦ rw a (none_pass kit g none fs (All-tail (IsSoundField kit g) f fs sound))
]

-- where there are no dynamic names there are no stubs
pub no_stubs : (kit : Kit) (g : Graph) → g.names ≡ [] → All (IsSoundField kit g) g.fields → stubs_of g.fields ≡ []
no_stubs kit g none sound = ap (λ l. once nat_eq (map (λ f. name_of f.target) l)) (none_pass kit g none g.fields sound)

-- a target that stands behind others, which all stand once
pub target_more : (ts : List Target) (i : ℕ) (d : Target) → AllPairs (λ x y. same_target x y ≡ false) ts → i < length ts → with_target (take i ts) (get_or ts i d) ≡ take (i + 1) ts
target_more ts i d apart h =
    let t = get_or ts i d in
    let none : list_any (same_target t) (take i ts) ≡ false = list_any_none (same_target t) (take i ts) (λ k e l.
    let low : k < i = omega (arith, length-take-le i ts) in
    rw (get_or-take i ts k e low, get_or_default ts k e d (omega arith)) (other_way same_target target-is target-refl (get_or ts k d) t (apart k i d low h))) in
    rw none (sym (take_more ts i d h))
