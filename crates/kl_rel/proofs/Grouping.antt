-- Members of groups, and the marks of those that are in one.
use Rattle.std.proofs.Common.{ℕ, ◌≡◌, ◌≢◌, ◌+◌, ◌-◌, ◌/◌, ◌%◌, ◌<◌, ◌≤◌, ◌∙◌, Bool, true, false, not, ◌&&◌, ◌||◌, List, [], ◌∷◌, ◌++◌, length, get_or, set, replicate, refl, ap, sym, arith, append_assoc, eqb-true, eq-eqb, le-ltb, lt-ltb}
use Rattle.std.specs.Prelude.{map, flat_map, Option, Some, None, ◌==◌, nat_le, nat_lt}
use Rattle.std.specs.List.{range_with_len}
use Rattle.std.proofs.lemmas.Bool.{leb-true, leb-false, eqb-false, ltb-false}
use Rattle.std.proofs.lemmas.List.{append-nil, get_or-set_same, get_or-set_other, get_or-replicate, length-replicate}
use Rattle.std.proofs.lemmas.List.Folds.{list_any-append}
use Rattle.std.proofs.Math.ListN.{length-set}
use Rattle.std.specs.Option.{option_or}
use Rattle.kl_base.specs.declared.class.Range.{Range}
use Rattle.kl_le.specs.Bytes.{num}
use Rattle.kl_elf.specs.declared.records.Shdr.{Shdr}
use Rattle.kl_model.specs.Kept.{no_symbol}
use Rattle.kl_model.specs.Lists.{number_in}
use Rattle.kl_rel.specs.Flaws.{first_of, flaw_if}
use Rattle.kl_rel.specs.Headers.{head, header_place, section}
use Rattle.kl_rel.specs.Sections.{sections_in}
use Rattle.kl_rel.specs.SymbolTables.{symbol_count, symbols_in}
use Rattle.kl_rel.specs.SectionGroups.{word, members, members_of, members_before, member_flaw, members_flaw, is_group, group_form_checks, group_checks, group_of, group_flaw_of, groups_at, signature}
use Rattle.kl_rel.specs.Grouped.{IsGrouped, is_free}
use Rattle.kl_rel.specs.declared.fault.ReadKind.TheVariants.{GroupForm}
use Rattle.kl_rel.specs.declared.fault.ReadFault.{ReadFault}
use Rattle.kl_rel.proofs.Places.{none_in, not_stands}
use Rattle.kl_rel.proofs.Passes.{map-more, flat_map-more}

-- a number is free where no condition of a bad member holds
free_is : (b : List ℕ) (grouped : List Bool) (before : List ℕ) (n m : ℕ) → IsGrouped b grouped before
    → is_free grouped n m ≡ not ((((m == 0) || nat_le (head b).shnum m) || (m == n)) || number_in before m)
free_is b grouped before n m is = go (m == 0) (nat_le (head b).shnum m) (m == n) refl
  where
    go : (x l y : Bool) → nat_le (head b).shnum m ≡ l
        → (((not x && not y) && nat_lt m (length grouped)) && not (get_or grouped m false)) ≡ not (((x || l) || y) || number_in before m)
    go true l y e = refl
    go false true true e = refl
    go false true false e =
        let past = leb-true (head b).shnum m e in
        let test = le-ltb m (length grouped) (omega (arith, past, is.count)) in
        rw test refl
    go false false true e = refl
    go false false false e =
        let below = leb-false (head b).shnum m e in
        let short : m < length grouped = omega (arith, below, is.count) in
        rw (lt-ltb m (length grouped) short, is.marks m short) refl

pub member_refused : (b : List ℕ) (grouped : List Bool) (before : List ℕ) (n place m : ℕ) → IsGrouped b grouped before → is_free grouped n m ≡ false
    → member_flaw (head b).shnum before n place m ≡ Some (record { kind = GroupForm; at = place })
unfolding member_flaw
member_refused b grouped before n place m is e = go ((((m == 0) || nat_le (head b).shnum m) || (m == n)) || number_in before m) (sym (free_is b grouped before n m is) ∙ e)
  where
    go : (x : Bool) → not x ≡ false → flaw_if x GroupForm place ≡ Some (record { kind = GroupForm; at = place })
    go true e = refl
    go false e = cc

pub member_free : (b : List ℕ) (grouped : List Bool) (before : List ℕ) (n place m : ℕ) → IsGrouped b grouped before → is_free grouped n m ≡ true
    → member_flaw (head b).shnum before n place m ≡ None
unfolding member_flaw
member_free b grouped before n place m is e = go ((((m == 0) || nat_le (head b).shnum m) || (m == n)) || number_in before m) (sym (free_is b grouped before n m is) ∙ e)
  where
    go : (x : Bool) → not x ≡ true → flaw_if x GroupForm place ≡ None
    go true e = cc
    go false e = refl

-- one member more
or_none : (x : Bool) → (x || false) ≡ x
or_none true = refl
or_none false = refl

number_more : (before : List ℕ) (m k : ℕ) → number_in (before ++ m ∷ []) k ≡ (number_in before k || (m == k))
number_more before m k = list_any-append (λ x. x == k) before (m ∷ []) ∙ ap (λ y. number_in before k || y) (or_none (m == k))

or_true : (x : Bool) → (x || true) ≡ true
or_true true = refl
or_true false = refl

pub grouped_more : (b : List ℕ) (grouped : List Bool) (before : List ℕ) (m : ℕ) → IsGrouped b grouped before → IsGrouped b (set grouped m true) (before ++ m ∷ [])
grouped_more b grouped before m is = record {
  count = length-set grouped m true ∙ is.count;
  marks = λ k short. marked k (rw length-set at short) (m == k) refl;
}
  where
    marked : (k : ℕ) → k < length grouped → (x : Bool) → (m == k) ≡ x → get_or (set grouped m true) k false ≡ number_in (before ++ m ∷ []) k
    marked k short true e =
        let same : m ≡ k = eqb-true m k e in
        let there : get_or (set grouped k true) k false ≡ true = get_or-set_same grouped k true false short in
        rw (same, there, number_more before k k, eq-eqb k k refl, or_true (number_in before k)) refl
    marked k short false e =
        let apart : k ≢ m = (λ h. eqb-false m k e (sym h)) in
        rw (number_more before m k, e, or_none (number_in before k), ← is.marks k short) (get_or-set_other grouped m k true false apart)

pub members-more : (b : List ℕ) (n j : ℕ) → 1 ≤ j → members_before b n (j + 1) ≡ members_before b n j ++ word b (section b n) j ∷ []
unfolding members_before
members-more b n j low =
    let e : j + 1 - 1 ≡ (j - 1) + 1 = omega arith in
    let f : 1 + (j - 1) ≡ j = omega arith in
    let more = rw f at (map-more (word b (section b n)) 1 (j - 1)) in
    rw (e, more) (sym (append_assoc (flat_map (members_of b) (range_with_len 1 (n - 1))) (map (word b (section b n)) (range_with_len 1 (j - 1))) (word b (section b n) j ∷ [])))

-- the members before section n + 1
members-section : (b : List ℕ) (n : ℕ) → 1 ≤ n → members_before b (n + 1) 1 ≡ flat_map (members_of b) (range_with_len 1 (n - 1)) ++ members_of b n
unfolding members_before
members-section b n low =
    let e : n + 1 - 1 ≡ (n - 1) + 1 = omega arith in
    let f : 1 + (n - 1) ≡ n = omega arith in
    let more = rw f at (flat_map-more (members_of b) 1 (n - 1)) in
    rw e (append-nil (flat_map (members_of b) (range_with_len 1 ((n - 1) + 1))) ∙ more)

pub members-group : (b : List ℕ) (n : ℕ) → 1 ≤ n → is_group (section b n) ≡ true → members_before b (n + 1) 1 ≡ members_before b n ((section b n).size / 4)
unfolding members_before members_of members
members-group b n low is = members-section b n low ∙ rw is refl

pub members-passed : (b : List ℕ) (n : ℕ) → 1 ≤ n → is_group (section b n) ≡ false → members_before b (n + 1) 1 ≡ members_before b n 1
unfolding members_before members_of
members-passed b n low is = members-section b n low ∙ rw is refl

pub members-start : (b : List ℕ) → members_before b 1 1 ≡ []
unfolding members_before
members-start b = refl

-- the form of a group without a flaw
pub record IsForm (b : List ℕ) (s : Shdr) : Type 0 where
  pub size : 4 ≤ s.size
  pub low : 1 ≤ s.info
  pub high : s.info < symbol_count b

pub form_of : (b : List ℕ) (place : ℕ) (s : Shdr) → None ≡ first_of (group_form_checks b place s) → IsForm b s
unfolding group_form_checks
form_of b place s e =
    let size = not_stands (nat_lt s.size 4 || not (s.size % 4 == 0)) GroupForm (place + 32) (none_in (group_form_checks b place s) 0 (sym e)) in
    let info = not_stands ((s.info == 0) || nat_le (symbol_count b) s.info) GroupForm (place + 44) (none_in (group_form_checks b place s) 2 (sym e)) in
    let apart = eqb-false s.info 0 (left (s.info == 0) (nat_le (symbol_count b) s.info) info) in
    let below = leb-false (symbol_count b) s.info (right (s.info == 0) (nat_le (symbol_count b) s.info) info) in
    let long = ltb-false s.size 4 (left (nat_lt s.size 4) (not (s.size % 4 == 0)) size) in
    record { size = long; low = omega (arith, apart); high = omega (arith, below) }
  where
    left : (x y : Bool) → (x || y) ≡ false → x ≡ false
    left true y e = cc
    left false y e = refl

    right : (x y : Bool) → (x || y) ≡ false → y ≡ false
    right true y e = cc
    right false y e = e

-- the flaw of a group by that of its form and those of its members
only : (x : Option ReadFault) → option_or x None ≡ x
only None = refl
only (Some f) = refl

pub group_some : (b : List ℕ) (n : ℕ) (f : ReadFault) → Some f ≡ first_of (group_form_checks b (header_place b n) (section b n)) → first_of (group_checks b n) ≡ Some f
unfolding group_checks
group_some b n f e = rw (← e) refl

pub group_members : (b : List ℕ) (n : ℕ) → None ≡ first_of (group_form_checks b (header_place b n) (section b n)) → first_of (group_checks b n) ≡ members_flaw b n
unfolding group_checks
group_members b n e = rw (← e) (only (members_flaw b n))

-- the group as it is made
pub made_group : (b : List ℕ) (n : ℕ) (ms : List ℕ) (comdat : Bool) (name : Range) → ms ≡ members b (section b n) → comdat ≡ (num b (section b n).offset 4 == 1)
    → name ≡ signature (sections_in b) (get_or (symbols_in b) (section b n).info no_symbol) → group_of b n ≡ record { section = n; comdat = comdat; signature = name; members = ms }
unfolding group_of
made_group b n ms comdat name em ec es = let e : (section b n).offset + 0 ≡ (section b n).offset = omega arith in rw (em, ec, es, e) refl

-- no section is in a group at first
pub grouped_start : (b : List ℕ) (n : ℕ) → n ≡ (head b).shnum → IsGrouped b (replicate n false) []
grouped_start b n e = record { count = length-replicate n false ∙ e; marks = λ m short. get_or-replicate n m false false (rw length-replicate at short) }

-- a section by whether it is a group
pub group_here : (b : List ℕ) (n : ℕ) → is_group (section b n) ≡ true → group_flaw_of b n ≡ first_of (group_checks b n)
group_here b n is = rw is refl

pub group_passed : (b : List ℕ) (n : ℕ) → is_group (section b n) ≡ false → group_flaw_of b n ≡ None
group_passed b n is = rw is refl

pub groups_here : (b : List ℕ) (n : ℕ) → is_group (section b n) ≡ true → groups_at b n ≡ group_of b n ∷ []
unfolding groups_at
groups_here b n is = rw is refl

pub groups_passed : (b : List ℕ) (n : ℕ) → is_group (section b n) ≡ false → groups_at b n ≡ []
unfolding groups_at
groups_passed b n is = rw is refl
