-- Chains of relocation sections, and the bytes that the fields before them stamp.
use Rattle.std.proofs.Common.{ℕ, zero, suc, ◌≡◌, ◌≢◌, ◌+◌, ◌-◌, ◌/◌, ◌<◌, ◌≤◌, ◌∙◌, inl, inr, Bool, true, false, not, ◌&&◌, ◌||◌, List, length, set, refl, sym, arith, eqb-true, eq-eqb, ne_eqb}
use Rattle.std.specs.Prelude.{◌==◌, nat_le, nat_lt, slice_index, map, Option, Some, None, unwrap_or}
use Rattle.std.specs.List.{list_any, range_with_len}
use Rattle.std.proofs.lemmas.Bool.{cases_eq, cases_Bool, and_parts, and_from, lt-ltb, le-leb}
use Rattle.std.proofs.lemmas.Bool.Decides.{nat_tests}
use Rattle.std.proofs.lemmas.List.{get_or-set_same, get_or-set_other, length-set}
use Rattle.kl_model.specs.Relocations.{width}
use Rattle.kl_model.specs.declared.object.RawField.{RawField}
use Rattle.kl_rel.specs.Flaws.{first_of}
use Rattle.kl_rel.specs.Headers.{head, header_place, section, ranges_flaw}
use Rattle.kl_rel.specs.Sections.{is_allocated, is_linked_type, sections_flaw, form_checks, section_name, names, no_name}
use Rattle.kl_rel.specs.Relocations.{is_read, is_taken, shares_byte, rela_checks, rela_flaw_of, relocations_flaw, field_of, fields_before}
use Rattle.kl_rel.specs.Chains.{changes, PassForms, ArePassed, IsKnown, IsNext, IsChained, AreStamped, AreOf}
use Rattle.kl_rel.specs.declared.fault.ReadFault.{ReadFault}
use Rattle.kl_rel.specs.declared.fault.ReadKind.TheVariants.{RelaLink, Unsupported}
use Rattle.kl_rel.specs.declared.fault.Feature.TheVariants.{SectionType}
use Rattle.kl_rel.specs.declared.first_flaw.Chains.{Chains}
use Rattle.kl_rel.specs.declared.first_flaw.Known.{Known}
use Rattle.kl_rel.proofs.Places.{none_in, not_stands, section_where, section_lies}
use Rattle.kl_rel.proofs.Bytes.{taken_more}
use Rattle.kl_rel.proofs.Allocated.{form_passes}
use Rattle.kl_rel.proofs.Entries.{before-start, before-read, before-passed, before-more, rela_none, target_allocated}
use Rattle.kl_elf.specs.declared.records.TheConstants.Rela as rela

-- one byte more is marked
pub mark_here : (stamps : List ℕ) (at stamp x low : ℕ) (before : Bool) → at < length stamps → low ≤ at
    → (slice_index stamps x == stamp) ≡ (before || (nat_le low x && nat_lt x at))
    → (slice_index (set stamps at stamp) x == stamp) ≡ (before || (nat_le low x && nat_lt x (at + 1)))
mark_here stamps at stamp x low before short order e = elim (cases_eq x at) [
  | inl same ↦
      let now : slice_index (set stamps at stamp) x ≡ stamp = rw same (get_or-set_same stamps at stamp 0 short) in
      eq-eqb _ stamp now ∙ sym (all before (nat_le low x) (nat_lt x (at + 1)) (le-leb low x (omega (arith, same, order)))
      (lt-ltb x (at + 1) (omega (arith, same))))
  | inr other ↦
      let now = get_or-set_other stamps at x stamp 0 other in
      let rest : nat_lt x at ≡ nat_lt x (at + 1) = grind (arith, nat_tests, other) in
      rw (now, e, rest) refl
]
  where
    all : (p q r : Bool) → q ≡ true → r ≡ true → (p || (q && r)) ≡ true
    all true q r eq er = refl
    all false q r eq er = rw (eq, er) refl

pub mark_other : (stamps old : List ℕ) (at stamp : ℕ) → at < length stamps → AreOf stamp old stamps → AreOf stamp old (set stamps at stamp)
mark_other stamps old at stamp short of = λ x. elim (cases_eq x at) [
  | inl same ↦ inr (rw same (get_or-set_same stamps at stamp 0 short))
  | inr other ↦ rw (get_or-set_other stamps at x stamp 0 other) (of x)
]

-- a test that agrees with another over a range
pub any_agree : (p q : ℕ → Bool) (a n : ℕ) → ((x : ℕ) → a ≤ x → x < a + n → p x ≡ q x)
    → list_any p (range_with_len a n) ≡ list_any q (range_with_len a n)
any_agree p q a zero same = refl
any_agree p q a (suc n) same =
    rw (same a (omega arith) (omega arith), any_agree p q (a + 1) n (λ x low high. same x (omega (arith, low)) (omega (arith, high)))) refl

-- the stamps that a field finds are those of its bytes that are taken
pub stamps_shared : (b : List ℕ) (n k : ℕ) (f : RawField) (stamps : List ℕ) → AreStamped b n k stamps → f.section ≡ (section b n).info
    → f.offset + width f.kind ≤ length stamps
    → list_any (λ x. slice_index stamps x == f.section) (range_with_len f.offset ((f.offset + width f.kind) - f.offset))
    ≡ shares_byte (fields_before b n k) f
stamps_shared b n k f stamps are same room =
    let e : (f.offset + width f.kind) - f.offset ≡ width f.kind = omega arith in
    rw (e, same) (any_agree (λ x. slice_index stamps x == (section b n).info) (is_taken (fields_before b n k) (section b n).info) f.offset
    (width f.kind) (λ x low high. are x (omega (arith, high, room))))

-- one field more is stamped
pub stamped_more : (b : List ℕ) (n k : ℕ) (old new : List ℕ) → AreStamped b n k old → length new ≡ length old
    → ((x : ℕ) → x < length old → (slice_index new x == (section b n).info)
    ≡ ((slice_index old x == (section b n).info)
    || (nat_le (field_of b n k).offset x && nat_lt x ((field_of b n k).offset + width (field_of b n k).kind))))
    → AreStamped b n (k + 1) new
stamped_more b n k old new are count marked = λ x short.
    let here : x < length old = omega (arith, count, short) in
    let same : ((section b n).info == (section b n).info) ≡ true = eq-eqb (section b n).info (section b n).info refl in
    marked x here ∙ rw (are x here, before-more b n k, taken_more (fields_before b n k) (field_of b n k) (section b n).info x, same) refl

-- what it says that a section changes another
pub changes_parts : (b : List ℕ) (t n : ℕ) → changes b t n ≡ true → (is_read b (section b n) ≡ true) × ((section b n).info ≡ t)
changes_parts b t n e =
    let p = and_parts (is_read b (section b n)) ((section b n).info == t) e in
    (p.0, eqb-true (section b n).info t p.1)

pub changes_from : (b : List ℕ) (t n : ℕ) → is_read b (section b n) ≡ true → (section b n).info ≡ t → changes b t n ≡ true
changes_from b t n is same = and_from (is_read b (section b n)) ((section b n).info == t) is (eq-eqb (section b n).info t same)

pub changes_none : (b : List ℕ) (t n : ℕ) → is_read b (section b n) ≡ false → changes b t n ≡ false
changes_none b t n is = rw is refl

pub changes_other : (b : List ℕ) (t n : ℕ) → (section b n).info ≢ t → changes b t n ≡ false
changes_other b t n other = rw (ne_eqb (section b n).info t other) (right (is_read b (section b n)))
  where
    right : (x : Bool) → (x && false) ≡ false
    right true = refl
    right false = refl

-- sections that don't change a section take none of its bytes
entries_untouched : (b : List ℕ) (t n x k : ℕ) → (section b n).info ≢ t
    → is_taken (fields_before b n k) t x ≡ is_taken (fields_before b n 0) t x
entries_untouched b t n x zero other = refl
entries_untouched b t n x (suc k) other =
    let e : suc k ≡ k + 1 = omega arith in
    rw (e, before-more b n k, taken_more (fields_before b n k) (field_of b n k) t x, ne_eqb (section b n).info t other)
    (none (is_taken (fields_before b n k) t x) ∙ entries_untouched b t n x k other)
  where
    none : (y : Bool) → (y || false) ≡ y
    none true = refl
    none false = refl

section_untouched : (b : List ℕ) (t n x : ℕ) → 1 ≤ n → changes b t n ≡ false
    → is_taken (fields_before b (n + 1) 0) t x ≡ is_taken (fields_before b n 0) t x
section_untouched b t n x low none = elim (cases_Bool (is_read b (section b n))) [
  | inl is ↦
      let other : (section b n).info ≢ t = λ same. (let bad : true ≡ false = sym (changes_from b t n is same) ∙ none in cc) in
      rw (before-read b n low is) (entries_untouched b t n x ((section b n).size / rela.SIZE) other)
  | inr isnt ↦ rw (before-passed b n low isnt) refl
]

pub untouched : (b : List ℕ) (t n x k : ℕ) → 1 ≤ n → ((m : ℕ) → n ≤ m → m < n + k → changes b t m ≡ false)
    → is_taken (fields_before b (n + k) 0) t x ≡ is_taken (fields_before b n 0) t x
untouched b t n x zero low none = let e : n + zero ≡ n = omega arith in rw e refl
untouched b t n x (suc k) low none =
    let e : n + suc k ≡ (n + k) + 1 = omega arith in
    rw e (section_untouched b t (n + k) x (omega (arith, low)) (none (n + k) (omega arith) (omega arith)) ∙ untouched b t n x k low
    (λ m from below. none m from (omega (arith, below))))

-- a relocation section of a chain: the fields before it have stamped their bytes
pub record IsTurn (b : List ℕ) (t n : ℕ) (stamps : List ℕ) : Type 0 where
  pub low : 1 ≤ n
  pub high : n < (head b).shnum
  pub is : changes b t n ≡ true
  pub stamped : (x : ℕ) → x < length stamps → (slice_index stamps x == t) ≡ is_taken (fields_before b n 0) t x

-- the first of a chain, where no byte is stamped yet
pub turn_first : (b : List ℕ) (t n : ℕ) (stamps : List ℕ) → IsNext b t 1 n → ((x : ℕ) → slice_index stamps x < t) → n ≢ 0
    → IsTurn b t n stamps
turn_first b t n stamps next below some =
    let found = next.found some in
    record {
      low = found.0;
      high = found.1;
      is = found.2;
      stamped = λ x short.
          let e : 1 + (n - 1) ≡ n = omega (arith, found.0) in
          let none = rw e at (untouched b t 1 x (n - 1) (omega arith)
          (λ m from under. next.others m from (omega (arith, found.1, under)) (λ _. omega (arith, under)))) in
          ne_eqb (slice_index stamps x) t (λ same. absurd (omega (arith, below x, same))) ∙ sym (none ∙ rw (before-start b) refl);
    }

-- the next of a chain
pub turn_next : (b : List ℕ) (t n m : ℕ) (stamps : List ℕ) → 1 ≤ n → changes b t n ≡ true → IsNext b t (n + 1) m
    → AreStamped b n ((section b n).size / rela.SIZE) stamps → m ≢ 0 → IsTurn b t m stamps
turn_next b t n m stamps low is next are some =
    let found = next.found some in
    let parts = changes_parts b t n is in
    record {
      low = omega (arith, found.0);
      high = found.1;
      is = found.2;
      stamped = λ x short.
          let e : (n + 1) + (m - (n + 1)) ≡ m = omega (arith, found.0) in
          let none = rw e at (untouched b t (n + 1) x (m - (n + 1)) (omega arith)
          (λ k from under. next.others k from (omega (arith, found.0, found.1, under)) (λ _. omega (arith, found.0, under)))) in
          let here = rw (← before-read b n low parts.0, parts.1) at (are x short) in
          here ∙ sym none;
    }

-- one section more before the chains
pub next_before : (b : List ℕ) (t n m : ℕ) → changes b t n ≡ false → IsNext b t (n + 1) m → IsNext b t n m
next_before b t n m none next = record {
  found = λ some. let found = next.found some in (omega (arith, found.0), found.1, found.2);
  others = λ k from below before. elim (cases_eq k n) [
    | inl same ↦ rw same none
    | inr other ↦ next.others k (omega (arith, from, other)) below before
  ];
}

pub next_here : (b : List ℕ) (t n : ℕ) → 1 ≤ n → n < (head b).shnum → changes b t n ≡ true → IsNext b t n n
next_here b t n low high is = record {
  found = λ some. (omega arith, high, is);
  others = λ k from below before. absurd (omega (arith, from, before (λ e. absurd (omega (arith, low, e)))));
}

pub next_none : (b : List ℕ) (t : ℕ) → IsNext b t (head b).shnum 0
next_none b t = record {
  found = λ some. absurd (some refl);
  others = λ k from below before. absurd (omega (arith, from, below));
}

pub chained_passed : (b : List ℕ) (n : ℕ) (chains : Chains) → is_read b (section b n) ≡ false → IsChained b (n + 1) chains
    → IsChained b n chains
chained_passed b n chains isnt is = record {
  firsts = is.firsts;
  nexts = is.nexts;
  first = λ t below. next_before b t n (slice_index chains.first.items t) (changes_none b t n isnt) (is.first t below);
  next = λ k from below reads. elim (cases_eq k n) [
    | inl same ↦ (let bad : true ≡ false = sym (rw same at reads) ∙ isnt in cc)
    | inr other ↦ is.next k (omega (arith, from, other)) below reads
  ];
}

pub chained_more : (b : List ℕ) (n : ℕ) (old new : Chains) → 1 ≤ n → n < (head b).shnum → is_read b (section b n) ≡ true
    → (section b n).info < (head b).shnum
    → new.first.items ≡ set old.first.items (section b n).info n
    → new.next.items ≡ set old.next.items n (slice_index old.first.items (section b n).info)
    → IsChained b (n + 1) old → IsChained b n new
chained_more b n old new low high reads inside first next is = record {
  firsts = rw first (length-set old.first.items (section b n).info n ∙ is.firsts);
  nexts = rw next (length-set old.next.items n (slice_index old.first.items (section b n).info) ∙ is.nexts);
  first = λ t below. elim (cases_eq t (section b n).info) [
    | inl same ↦
        let now = get_or-set_same old.first.items (section b n).info n 0 (omega (arith, inside, is.firsts)) in
        rw (first, same, now) (next_here b (section b n).info n low high (changes_from b (section b n).info n reads refl))
    | inr other ↦
        let now = get_or-set_other old.first.items (section b n).info t n 0 other in
        rw (first, now) (next_before b t n (slice_index old.first.items t) (changes_other b t n (λ same. other (sym same)))
        (is.first t below))
  ];
  next = λ k from below reads_k. elim (cases_eq k n) [
    | inl same ↦
        let now = get_or-set_same old.next.items n (slice_index old.first.items (section b n).info) 0 (omega (arith, high, is.nexts)) in
        rw (next, same, now) (is.first (section b n).info inside)
    | inr other ↦
        let now = get_or-set_other old.next.items n k (slice_index old.first.items (section b n).info) 0 other in
        rw (next, now) (is.next k (omega (arith, from, other)) below reads_k)
  ];
}

-- the first of a pass, where nothing before it has a flaw
pub first_here : (f : ℕ → Option ReadFault) (a n m : ℕ) (x : ReadFault) → a ≤ m → m < a + n → ((k : ℕ) → a ≤ k → k < m → f k ≡ None)
    → f m ≡ Some x → first_of (map f (range_with_len a n)) ≡ Some x
first_here f a zero m x low high none here = absurd (omega (arith, low, high))
first_here f a (suc n) m x low high none here = elim (cases_eq a m) [
  | inl same ↦ rw (same, here) refl
  | inr other ↦ rw (none a (omega arith) (omega (arith, low, other)))
      (first_here f (a + 1) n m x (omega (arith, low, other)) (omega (arith, high))
      (λ k from below. none k (omega (arith, from)) below) here)
]

pub first_nowhere : (f : ℕ → Option ReadFault) (a n : ℕ) → ((k : ℕ) → a ≤ k → k < a + n → f k ≡ None)
    → first_of (map f (range_with_len a n)) ≡ None
first_nowhere f a zero none = refl
first_nowhere f a (suc n) none =
    rw (none a (omega arith) (omega arith))
    (first_nowhere f (a + 1) n (λ k from below. none k (omega (arith, from)) (omega (arith, below))))

-- a section that is changed is one of the table
pub target_number : (b : List ℕ) (n : ℕ) → is_read b (section b n) ≡ true → (1 ≤ (section b n).info) × ((section b n).info < (head b).shnum)
target_number b n is = let at = section_where b (section b n).info is_allocated refl (target_allocated b n is) in (at.low, at.high)

-- where all sections before the known flaw have none, it is the first
pub known_is_first : (b : List ℕ) (known : Known) → IsKnown b known → PassForms b known.number
    → ((t : ℕ) → 1 ≤ t → t < (head b).shnum → ArePassed b t known.number) → known.fault ≡ relocations_flaw b
unfolding relocations_flaw
known_is_first b known is forms passed = elim is.flaw [
  | inl some ↦ some.3 ∙ sym (first_here (rela_flaw_of b) 1 ((head b).shnum - 1) known.number some.2 some.1
      (omega (arith, some.0)) each some.4)
  | inr none ↦ none.1 ∙ sym (first_nowhere (rela_flaw_of b) 1 ((head b).shnum - 1)
      (λ k from below. each k from (omega (arith, below, none.0))))
]
  where
    each : (n : ℕ) → 1 ≤ n → n < known.number → rela_flaw_of b n ≡ None
    each n low high = elim (cases_Bool (is_read b (section b n))) [
      | inl is ↦ (let at = target_number b n is in passed (section b n).info at.0 at.1 n low high
          (changes_from b (section b n).info n is refl))
      | inr isnt ↦ rela_none b n (forms n low high) isnt
    ]

-- the bytes of a section that is changed lie in the file
pub target_size : (b : List ℕ) (n : ℕ) → ranges_flaw b ≡ None → sections_flaw b ≡ None
    → None ≡ first_of (rela_checks b (header_place b n) (section b n)) → is_read b (section b n) ≡ true
    → (section b (section b n).info).size ≤ length b
unfolding rela_checks form_checks
target_size b n ranges sections checks is =
    let none = not_stands (is_read b (section b n) && ((section b (section b n).info).kind == 8)) RelaLink (header_place b n + 44)
    (none_in (rela_checks b (header_place b n) (section b n)) 2 (sym checks)) in
    let form = not_stands (not (is_linked_type (section b (section b n).info).kind)) (Unsupported SectionType)
    (header_place b (section b n).info + 4)
    (none_in (form_checks b (header_place b (section b n).info)
    (unwrap_or (section_name b (names b) (section b (section b n).info)) no_name) (section b (section b n).info)) 0
    (form_passes b (section b n).info sections (target_allocated b n is))) in
    let lies = section_lies b (section b n).info ranges
    (kinds ((section b (section b n).info).kind == 0) refl ((section b (section b n).info).kind == 8) (rw is at none) form) in
    omega (arith, lies)
  where
    kinds : (z : Bool) → ((section b (section b n).info).kind == 0) ≡ z → (y : Bool) → y ≡ false
        → not (is_linked_type (section b (section b n).info).kind) ≡ false → (not z && not y) ≡ true
    kinds false ez y ey form = rw ey refl
    kinds true ez y ey form = (let at = eqb-true (section b (section b n).info).kind 0 ez in let bad : true ≡ false = rw at at form in cc)
