-- The memory of program headers: whether two share a byte, and what is kept of several.
use Rattle.std.proofs.Common.{ℕ, zero, suc, ◌≡◌, ◌≢◌, ◌+◌, ◌<◌, ◌≤◌, ◌∙◌, ◌&&◌, ◌⊎◌, inl, inr, Bool, true, false, List, [], ◌∷◌, ◌++◌, length, get_or, refl, ap, sym, arith, lt-ltb, ne_eqb, length-append}
use Rattle.std.specs.Prelude.{◌==◌, nat_lt, max, min, All, Any, Some, None, Option}
use Rattle.std.specs.Ordering.{nat_cmp, is_eq, is_lt}
use Rattle.std.specs.declared.cmp.Ordering.TheVariants.{Less}
use Rattle.std.specs.BTreeMap.{BTreeMap, get}
use Rattle.std.specs.List.{list_any}
use Rattle.std.specs.Option.{option_map_or}
use Rattle.std.proofs.lemmas.Bool.{and_parts, ltb-true, le-ltb, cases_lt, cases_order}
use Rattle.std.proofs.lemmas.List.{get_or_append_left, get_or-append-add}
use Rattle.std.proofs.lemmas.List.Folds.{list_any_none, list_any-from_Any}
use Rattle.std.proofs.lemmas.List.Elements.{All-append}
use Rattle.kl_elf.specs.declared.records.Phdr.{Phdr}
use Rattle.kl_image.specs.Headers.{is_load, share_memory}
use Rattle.kl_image.specs.Occupied.{memory_of, IsKept, IsMemoryOf}

-- equal pairs of numbers
pairs_same : (a b c d : ℕ) → ◌≡◌ {A = Option (ℕ × ℕ)} (Some (a, b)) (Some (c, d)) → (a ≡ c) × (b ≡ d)
pairs_same a b c d e = (ap (λ (o : Option (ℕ × ℕ)). option_map_or (λ p. p.0) o 0) e, ap (λ (o : Option (ℕ × ℕ)). option_map_or (λ p. p.1) o 0) e)

-- what the memory of a header says of it
pub memory_parts : (s : Phdr) (start end : ℕ) → memory_of s ≡ Some (start, end) → (is_load s ≡ true) × (s.vaddr ≡ start) × (s.vaddr + s.memsz ≡ end) × (start < end)
memory_parts s start end e = go (is_load s) (s.memsz == 0) refl refl
  where
    go : (l z : Bool) → is_load s ≡ l → (s.memsz == 0) ≡ z → (is_load s ≡ true) × (s.vaddr ≡ start) × (s.vaddr + s.memsz ≡ end) × (start < end)
    go false z is none = let bad : None ≡ Some (start, end) = rw is at e in cc
    go true true is none = let bad : None ≡ Some (start, end) = rw (is, none) at e in cc
    go true false is none =
        let same : Some (s.vaddr, s.vaddr + s.memsz) ≡ Some (start, end) = rw (is, none) at e in
        let parts = pairs_same s.vaddr (s.vaddr + s.memsz) start end same in
        let first = parts.0 in
        let last = parts.1 in
        let some : 0 < s.memsz = go_some s.memsz refl none in
        (is, first, last, omega (arith, first, last, some))
      where
        go_some : (n : ℕ) → s.memsz ≡ n → (s.memsz == 0) ≡ false → 0 < s.memsz
        go_some zero same other = let bad : true ≡ false = rw same at other in cc
        go_some (suc n) same other = omega (arith, same)

-- the memory of a header that has some
pub memory_is : (s : Phdr) → is_load s ≡ true → s.vaddr < s.vaddr + s.memsz → memory_of s ≡ Some (s.vaddr, s.vaddr + s.memsz)
memory_is s is some = let none : (s.memsz == 0) ≡ false = ne_eqb s.memsz 0 (λ z. omega (arith, z)) in rw (is, none) refl

-- two share a byte where their memory does
pub shares : (s t : Phdr) (a e p f : ℕ) → memory_of s ≡ Some (a, e) → memory_of t ≡ Some (p, f) → a < f → p < e → share_memory s t ≡ true
shares s t a e p f one two low high =
    let x = memory_parts s a e one in
    let y = memory_parts t p f two in
    let common : max s.vaddr t.vaddr < min (s.vaddr + s.memsz) (t.vaddr + t.memsz) = omega (arith, x.1, x.2, x.3, y.1, y.2, y.3) in
    rw (x.0, y.0, lt-ltb (max s.vaddr t.vaddr) (min (s.vaddr + s.memsz) (t.vaddr + t.memsz)) common) refl

pub record Shared (s t : Phdr) : Type 0 where
  pub first_load : is_load s ≡ true
  pub second_load : is_load t ≡ true
  pub common : max s.vaddr t.vaddr < min (s.vaddr + s.memsz) (t.vaddr + t.memsz)

pub shared : (s t : Phdr) → share_memory s t ≡ true → Shared s t
shared s t is =
    let meets = nat_lt (max s.vaddr t.vaddr) (min (s.vaddr + s.memsz) (t.vaddr + t.memsz)) in
    let all = and_parts (is_load s && is_load t) meets is in
    let loads = and_parts (is_load s) (is_load t) all.0 in
    record { first_load = loads.0; second_load = loads.1; common = ltb-true (max s.vaddr t.vaddr) (min (s.vaddr + s.memsz) (t.vaddr + t.memsz)) all.1 }

-- a header shares no byte with others where each it could share with is told not to
pub none_shared : (s : Phdr) (ss : List Phdr) → ((t : Phdr) (k : ℕ) (d : Phdr) → k < length ss → get_or ss k d ≡ t → Shared s t → true ≡ false) → list_any (share_memory s) ss ≡ false
none_shared s ss refused = list_any_none (share_memory s) ss (λ k d h. go k d h (share_memory s (get_or ss k d)) refl)
  where
    go : (k : ℕ) (d : Phdr) → k < length ss → (x : Bool) → share_memory s (get_or ss k d) ≡ x → share_memory s (get_or ss k d) ≡ false
    go k d h false e = e
    go k d h true e = let bad = refused (get_or ss k d) k d h refl (shared s (get_or ss k d) e) in cc

-- one without memory shares none
pub none_without : (s : Phdr) (ss : List Phdr) → memory_of s ≡ None → list_any (share_memory s) ss ≡ false
none_without s ss none = none_shared s ss (λ t k d h is both.
    let mine = memory_is s both.first_load (let c = both.common in omega (arith, c)) in
    cc)

-- where the furthest end of those that begin before a header's end is past its start, it shares a byte with one
pub part_found : (ends : BTreeMap ℕ ℕ) (ss : List Phdr) (s : Phdr) (a e r : ℕ) → IsMemoryOf ends ss → memory_of s ≡ Some (a, e)
    → (r ≡ 0) ⊎ ((start : ℕ) × (start < e) × (get nat_cmp ends start ≡ Some r))
    → ((start end : ℕ) → get nat_cmp ends start ≡ Some end → start < e → end ≤ r)
    → nat_lt a r ≡ list_any (share_memory s) ss
part_found ends ss s a e r m mine found furthest = go (nat_lt a r) refl
  where
    some : a < r → (r ≡ 0) ⊎ ((start : ℕ) × (start < e) × (get nat_cmp ends start ≡ Some r)) → list_any (share_memory s) ss ≡ true
    some low (inl z) = absurd (omega (arith, z))
    some low (inr (start, high, is)) =
        let any = m.known start r is in
        list_any-from_Any (share_memory s) ss (any.0, any.1, any.2, any.3, shares s any.1 a e start r mine any.4 low high)

    go : (x : Bool) → nat_lt a r ≡ x → nat_lt a r ≡ list_any (share_memory s) ss
    go true is = is ∙ sym (some (ltb-true a r is) found)
    go false is = is ∙ sym (none_shared s ss (λ t k d h same both.
        let c = both.common in
        let parts = memory_parts s a e mine in
        let yours = rw (← same) at (memory_is t both.second_load (omega (arith, c))) in
        let kept = m.kept k d h (get_or ss k d).vaddr ((get_or ss k d).vaddr + (get_or ss k d).memsz) yours in
        let far = furthest _ _ kept (rw same (omega (arith, c, parts.1, parts.2))) in
        let far2 = rw same at far in
        let past : a < r = omega (arith, c, parts.1, parts.2, far2) in
        sym (lt-ltb a r past) ∙ is))

-- what begins after another ends after it
pub ends_after : (ends : BTreeMap ℕ ℕ) (ss : List Phdr) (p q e f : ℕ) → IsMemoryOf ends ss → get nat_cmp ends p ≡ Some e → get nat_cmp ends q ≡ Some f
    → is_lt (nat_cmp p q) ≡ false → f ≤ e
ends_after ends ss p q e f m one two last = elim (cases_order p q) [
  | inr (inl less) ↦ let is : nat_lt p q ≡ true = lt-ltb p q less in absurd (let bad : true ≡ false = rw is at last in cc)
  | inl same ↦ let other : Some e ≡ Some f = sym one ∙ (rw same two) in let equal : e ≡ f = cc in omega (arith, equal)
  | inr (inr more) ↦
      let any = m.known p e one in
      let parts = memory_parts any.1 p e any.4 in
      let low = m.apart q p f e two one more in
      omega (arith, low, parts.3)
]

any_left : {P : Phdr → Type 0} (xs ys : List Phdr) → Any P xs → Any P (xs ++ ys)
any_left xs ys any = let long = length-append xs ys in (any.0, any.1, omega (arith, any.2), get_or_append_left xs ys any.1 any.0 any.2 ∙ any.3, any.4)

-- one header more, without memory
pub memory_same : (ends : BTreeMap ℕ ℕ) (ss : List Phdr) (s : Phdr) → IsMemoryOf ends ss → memory_of s ≡ None → IsMemoryOf ends (ss ++ s ∷ [])
memory_same ends ss s m none = record {
  known = λ start end is. any_left ss (s ∷ []) (m.known start end is);
  kept = All-append (IsKept ends) ss (s ∷ []) m.kept one;
  apart = m.apart;
}
  where
    one : All (IsKept ends) (s ∷ [])
    one zero d h = λ start end is. cc
    one (suc k) d h = absurd (omega arith)

-- and with memory, which shares no byte with that of the others
pub memory_more : (old new : BTreeMap ℕ ℕ) (ss : List Phdr) (s : Phdr) (a e : ℕ) → IsMemoryOf old ss → list_any (share_memory s) ss ≡ false
    → memory_of s ≡ Some (a, e) → get nat_cmp new a ≡ Some e → ((q : ℕ) → q ≢ a → get nat_cmp new q ≡ get nat_cmp old q) → IsMemoryOf new (ss ++ s ∷ [])
memory_more old new ss s a e m free mine here others = record {
  known = λ start end is. known start end is (same_or start);
  kept = All-append (IsKept new) ss (s ∷ []) (λ k d h start end is. kept k d h start end is (same_or start)) last;
  apart = λ p q f g one two less. apart p q f g one two less (same_or p) (same_or q);
}
  where
    same_or : (q : ℕ) → (q ≡ a) ⊎ (q ≢ a)
    same_or q = elim (cases_order q a) [
      | inl same ↦ inl same
      | inr (inl less) ↦ inr (λ z. omega (arith, z, less))
      | inr (inr more) ↦ inr (λ z. omega (arith, z, more))
    ]

    -- none of the others has a byte of it
    clear : (start end : ℕ) → Any (λ t. memory_of t ≡ Some (start, end)) ss → start < e → a < end → true ≡ false
    clear start end any low high =
        sym (list_any-from_Any (share_memory s) ss (any.0, any.1, any.2, any.3, shares s any.1 a e start end mine any.4 high low)) ∙ free

    known : (start end : ℕ) → get nat_cmp new start ≡ Some end → (start ≡ a) ⊎ (start ≢ a) → Any (λ t. memory_of t ≡ Some (start, end)) (ss ++ s ∷ [])
    known start end is (inl same) =
        let other : Some e ≡ Some end = sym here ∙ (rw (← same) is) in
        let equal : e ≡ end = cc in
        let long = length-append ss (s ∷ []) in
        let at : get_or (ss ++ s ∷ []) (length ss + 0) s ≡ s = get_or-append-add ss (s ∷ []) 0 s in
        (length ss + 0, s, omega (arith, long), at, rw (same, ← equal) mine)
    known start end is (inr apart) = any_left ss (s ∷ []) (m.known start end (sym (others start apart) ∙ is))

    kept : (k : ℕ) (d : Phdr) → k < length ss → (start end : ℕ) → memory_of (get_or ss k d) ≡ Some (start, end) → (start ≡ a) ⊎ (start ≢ a) → get nat_cmp new start ≡ Some end
    kept k d h start end is (inl same) =
        let old_is = m.kept k d h start end is in
        let any = m.known start end old_is in
        let yours = memory_parts (get_or ss k d) start end is in
        let ours = memory_parts s a e mine in
        let bad = clear start end any (omega (arith, same, ours.3)) (omega (arith, same, yours.3)) in
        cc
    kept k d h start end is (inr apart) = others start apart ∙ m.kept k d h start end is

    last : All (IsKept new) (s ∷ [])
    last zero d h = λ start end is. let same = pairs_same a e start end (sym mine ∙ is) in rw (← same.0, ← same.1) here
    last (suc k) d h = absurd (omega arith)

    apart : (p q f g : ℕ) → get nat_cmp new p ≡ Some f → get nat_cmp new q ≡ Some g → p < q → (p ≡ a) ⊎ (p ≢ a) → (q ≡ a) ⊎ (q ≢ a) → f ≤ q
    apart p q f g one two less (inl x) (inl y) = absurd (omega (arith, x, y))
    apart p q f g one two less (inl x) (inr y) =
        let other : Some e ≡ Some f = sym here ∙ (rw (← x) one) in
        let equal : e ≡ f = cc in
        let any = m.known q g (sym (others q y) ∙ two) in
        let yours = memory_parts any.1 q g any.4 in
        elim (cases_lt q e) [
          | inl low ↦ let bad = clear q g any low (omega (arith, x, less, yours.3)) in cc
          | inr high ↦ omega (arith, high, equal)
        ]
    apart p q f g one two less (inr x) (inl y) =
        let any = m.known p f (sym (others p x) ∙ one) in
        let ours = memory_parts s a e mine in
        elim (cases_lt a f) [
          | inl low ↦ let bad = clear p f any (omega (arith, y, less, ours.3)) low in cc
          | inr high ↦ omega (arith, high, y)
        ]
    apart p q f g one two less (inr x) (inr y) = m.apart p q f g (sym (others p x) ∙ one) (sym (others q y) ∙ two) less

-- an address is before another
pub before_is : (q a : ℕ) → q < a → nat_cmp q a ≡ Less
before_is q a less = rw (lt-ltb q a less) refl

-- an address is at no other
pub apart_keys : (a q : ℕ) → q ≢ a → is_eq (nat_cmp a q) ≡ false
apart_keys a q other = elim (cases_order a q) [
  | inl same ↦ absurd (other (sym same))
  | inr (inl less) ↦ rw (lt-ltb a q less) refl
  | inr (inr more) ↦
      let above : nat_lt a q ≡ false = le-ltb a q (omega arith) in
      let apart : (a == q) ≡ false = ne_eqb a q (λ same. omega (arith, same)) in
      rw (above, apart) refl
]
