-- Headers that are kept by their addresses.
use Rattle.std.proofs.Common.{ℕ, zero, suc, ◌≡◌, ◌≢◌, ◌+◌, ◌<◌, ◌≤◌, ◌∙◌, ◌⊎◌, inl, inr, Bool, true, false, not, List, length, get_or, take, refl, ap, sym, arith, eq-eqb, lt-ltb, ne_eqb}
use Rattle.std.specs.Prelude.{◌==◌, nat_lt, All, AllPairs, find, Option, Some, None}
use Rattle.std.specs.Ordering.{nat_cmp, is_gt, is_lt}
use Rattle.std.specs.BTreeMap.{BTreeMap, get}
use Rattle.std.proofs.lemmas.Bool.{and_parts, cases_lt, cases_order, le-ltb}
use Rattle.std.proofs.lemmas.List.{take_all}
use Rattle.std.proofs.lemmas.List.Elements.{All-more}
use Rattle.kl_elf.specs.declared.records.Phdr.{Phdr}
use Rattle.kl_model.specs.Memory.{covers}
use Rattle.kl_image.specs.Headers.{is_load}
use Rattle.kl_image.specs.Loadable.{CoverNoByte}
use Rattle.kl_image.specs.Covers.{IsCoverOf, IsFirstThere, IsHeld, takes_memory}
use Rattle.kl_image.proofs.Covering.{cover_is, cover_parts, found, found_at, found_there}

-- which headers take up memory
pub memory_takes : (s : Phdr) → is_load s ≡ true → 0 < s.memsz → takes_memory s ≡ true
memory_takes s load some = let none : (s.memsz == 0) ≡ false = ne_eqb s.memsz 0 (λ z. omega (arith, z)) in rw (load, none) refl

pub covers_start : (s : Phdr) → takes_memory s ≡ true → covers s.vaddr s ≡ true
covers_start s takes =
    let x = and_parts (is_load s) (not (s.memsz == 0)) takes in
    cover_is s.vaddr s x.0 (omega arith) (more s.memsz refl (not-true (s.memsz == 0) x.1))
  where
    more : (n : ℕ) → s.memsz ≡ n → (s.memsz == 0) ≡ false → s.vaddr < s.vaddr + s.memsz
    more zero e none = let bad : true ≡ false = rw e at none in cc
    more (suc n) e none = omega (arith, e)

    not-true : (x : Bool) → not x ≡ true → x ≡ false
    not-true true e = cc
    not-true false e = refl

-- the last that begins at an address or before, where it covers it
pub covers_found : (starts : BTreeMap ℕ Phdr) (ss : List Phdr) (p a : ℕ) (s : Phdr) → IsCoverOf starts ss → get nat_cmp starts p ≡ Some s → p ≤ a → a < p + s.memsz
    → Some s ≡ find (covers a) ss
covers_found starts ss p a s is at low high =
    let here = is.first p s at in
    let start = here.0 in
    let one = cover_parts p s (found (covers p) ss s here.1).passes in
    sym (found_there a p ss s is.apart here.1 (cover_is a s one.load (omega (arith, start)) (omega (arith, start))))

-- and where it doesn't, none does
pub covers_none : (starts : BTreeMap ℕ Phdr) (ss : List Phdr) (p a : ℕ) (s : Phdr) → IsCoverOf starts ss → get nat_cmp starts p ≡ Some s → p ≤ a → p + s.memsz ≤ a
    → ((q : ℕ) (t : Phdr) → q ≤ a → get nat_cmp starts q ≡ Some t → q ≤ p) → None ≡ find (covers a) ss
covers_none starts ss p a s is at low high last = go (find (covers a) ss) refl
  where
    go : (o : Option Phdr) → find (covers a) ss ≡ o → None ≡ find (covers a) ss
    go None e = sym e
    go (Some t) e =
        let one = found (covers a) ss t e in
        let c = cover_parts a t one.passes in
        let starts_at = c.starts in
        let ends_at = c.ends in
        let some : 0 < t.memsz = omega (arith, starts_at, ends_at) in
        let kept : get nat_cmp starts t.vaddr ≡ Some t = rw one.same at (is.held one.place t one.inside (rw one.same (memory_takes t c.load some))) in
        let before = last t.vaddr t starts_at kept in
        let there = found_there p a ss t is.apart e (cover_is p t c.load before (omega (arith, low, ends_at))) in
        let here = is.first p s at in
        let start = here.0 in
        let both : Some s ≡ Some t = sym here.1 ∙ there in
        let equal : s ≡ t = cc in
        let other : s.memsz ≡ t.memsz = ap (λ (x : Phdr). x.memsz) equal in
        let begin : s.vaddr ≡ t.vaddr = ap (λ (x : Phdr). x.vaddr) equal in
        absurd (omega (arith, high, ends_at, start, other, begin))

-- nor where none begins there or before
pub covers_empty : (starts : BTreeMap ℕ Phdr) (ss : List Phdr) (a : ℕ) → IsCoverOf starts ss → ((q : ℕ) → q ≤ a → get nat_cmp starts q ≡ None) → None ≡ find (covers a) ss
covers_empty starts ss a is none = go (find (covers a) ss) refl
  where
    go : (o : Option Phdr) → find (covers a) ss ≡ o → None ≡ find (covers a) ss
    go None e = sym e
    go (Some t) e =
        let one = found (covers a) ss t e in
        let c = cover_parts a t one.passes in
        let starts_at = c.starts in
        let ends_at = c.ends in
        let some : 0 < t.memsz = omega (arith, starts_at, ends_at) in
        let kept : get nat_cmp starts t.vaddr ≡ Some t = rw one.same at (is.held one.place t one.inside (rw one.same (memory_takes t c.load some))) in
        let bad : None ≡ Some t = sym (none t.vaddr starts_at) ∙ kept in
        cc

-- at equal addresses
same_found : (p q : ℕ) (ss : List Phdr) (o : Option Phdr) → p ≡ q → find (covers p) ss ≡ o → find (covers q) ss ≡ o
same_found p q ss o same e = rw (← same) e

same_get : (m : BTreeMap ℕ Phdr) (p q : ℕ) (o : Option Phdr) → p ≡ q → get nat_cmp m p ≡ o → get nat_cmp m q ≡ o
same_get m p q o same e = rw (← same) e

-- one header more, which takes up memory
pub cover_more : (old new : BTreeMap ℕ Phdr) (ss : List Phdr) (i : ℕ) (d : Phdr) → AllPairs CoverNoByte ss → i < length ss → takes_memory (get_or ss i d) ≡ true
    → All (IsHeld old) (take i ss) → IsFirstThere old ss
    → get nat_cmp new (get_or ss i d).vaddr ≡ Some (get_or ss i d) → ((q : ℕ) → q ≢ (get_or ss i d).vaddr → get nat_cmp new q ≡ get nat_cmp old q)
    → (All (IsHeld new) (take (i + 1) ss)) × IsFirstThere new ss
cover_more old new ss i d apart h takes held first here others = (
  All-more (IsHeld new) ss i d h (λ k x l is. kept (get_or (take i ss) k x) (held k x l is) (same_or (get_or (take i ss) k x).vaddr)) (λ is. here),
  λ a s at. there a s at (same_or a),
)
  where
    same_or : (q : ℕ) → (q ≡ (get_or ss i d).vaddr) ⊎ (q ≢ (get_or ss i d).vaddr)
    same_or q = elim (cases_order q (get_or ss i d).vaddr) [
      | inl same ↦ inl same
      | inr (inl less) ↦ inr (λ z. omega (arith, z, less))
      | inr (inr more) ↦ inr (λ z. omega (arith, z, more))
    ]

    -- it is the first that covers its address
    its : find (covers (get_or ss i d).vaddr) ss ≡ Some (get_or ss i d)
    its = found_at (get_or ss i d).vaddr ss i d apart h (covers_start (get_or ss i d) takes)

    kept : (t : Phdr) → get nat_cmp old t.vaddr ≡ Some t → (t.vaddr ≡ (get_or ss i d).vaddr) ⊎ (t.vaddr ≢ (get_or ss i d).vaddr) → get nat_cmp new t.vaddr ≡ Some t
    kept t was (inr other) = others t.vaddr other ∙ was
    kept t was (inl same) =
        let one = same_found t.vaddr (get_or ss i d).vaddr ss (Some t) same (first t.vaddr t was).1 in
        same_get new (get_or ss i d).vaddr t.vaddr (Some t) (sym same) (here ∙ sym its ∙ one)

    there : (a : ℕ) (s : Phdr) → get nat_cmp new a ≡ Some s → (a ≡ (get_or ss i d).vaddr) ⊎ (a ≢ (get_or ss i d).vaddr) → (s.vaddr ≡ a) × (find (covers a) ss ≡ Some s)
    there a s at (inr other) = first a s (sym (others a other) ∙ at)
    there a s at (inl same) =
        let both : Some (get_or ss i d) ≡ Some s = sym here ∙ same_get new a (get_or ss i d).vaddr (Some s) same at in
        let equal : get_or ss i d ≡ s = cc in
        (ap (λ (x : Phdr). x.vaddr) (sym equal) ∙ sym same, same_found (get_or ss i d).vaddr a ss (Some s) (sym same) (its ∙ both))

-- one that takes up none
pub cover_same : (starts : BTreeMap ℕ Phdr) (ss : List Phdr) (i : ℕ) (d : Phdr) → i < length ss → takes_memory (get_or ss i d) ≡ false
    → All (IsHeld starts) (take i ss) → All (IsHeld starts) (take (i + 1) ss)
cover_same starts ss i d h none held = All-more (IsHeld starts) ss i d h held (λ is. let bad : true ≡ false = sym is ∙ none in cc)

-- all of them
pub held_all : (starts : BTreeMap ℕ Phdr) (ss : List Phdr) (i : ℕ) → length ss ≤ i → All (IsHeld starts) (take i ss) → All (IsHeld starts) ss
held_all starts ss i end held = let all = take_all i ss end in rw all at held

-- orders of addresses, as a search of the map tells them
pub up_to : (p a : ℕ) → is_gt (nat_cmp p a) ≡ false → p ≤ a
up_to p a e = elim (cases_order p a) [
  | inl same ↦ omega (arith, same)
  | inr (inl less) ↦ omega (arith, less)
  | inr (inr more) ↦
      let above : nat_lt p a ≡ false = le-ltb p a (omega arith) in
      let apart : (p == a) ≡ false = ne_eqb p a (λ same. omega (arith, same)) in
      let bad : true ≡ false = rw (above, apart) at e in
      cc
]

pub there_is : (p a : ℕ) → p ≤ a → is_gt (nat_cmp p a) ≡ false
there_is p a low = elim (cases_lt p a) [
  | inl less ↦ rw (lt-ltb p a less) refl
  | inr high ↦
      let above : nat_lt p a ≡ false = le-ltb p a high in
      let same : (p == a) ≡ true = eq-eqb p a (omega arith) in
      rw (above, same) refl
]

pub below_last : (p q : ℕ) → is_lt (nat_cmp p q) ≡ false → q ≤ p
below_last p q e = elim (cases_lt p q) [
  | inl less ↦ let is : nat_lt p q ≡ true = lt-ltb p q less in absurd (let bad : true ≡ false = rw is at e in cc)
  | inr high ↦ high
]
