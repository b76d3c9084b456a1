-- The fields of a file without a flaw are fit to be linked.
use Rattle.std.proofs.Common.{ℕ, zero, suc, ◌≡◌, ◌≢◌, ◌+◌, ◌-◌, ◌/◌, ◌<◌, ◌≤◌, ◌∙◌, inl, inr, Bool, true, false, cond, ◌&&◌, List, [], ◌∷◌, length, get_or, map, refl, sym, arith, eq-eqb, le-leb, lt-ltb}
use Rattle.std.specs.Prelude.{None, ◌==◌, nat_lt, nat_le, All, AllPairs, flat_map}
use Rattle.std.specs.List.{list_any, range_with_len}
use Rattle.std.proofs.lemmas.Bool.{ltb-false, leb-false, eqb-false}
use Rattle.std.proofs.lemmas.List.Elements.{All-append}
use Rattle.std.proofs.lemmas.List.Folds.{list_any_at}
use Rattle.std.proofs.lemmas.List.FromFn.{length-range_with_len, get_or-range_with_len}
use Rattle.std.proofs.lemmas.List.Quantifiers.{all_pairs_push}
use Rattle.std.specs.Int.{w64}
use Rattle.kl_le.specs.Bytes.{Within, num}
use Rattle.kl_model.specs.Kept.{no_section}
use Rattle.kl_model.specs.Relocations.{width}
use Rattle.kl_model.specs.Fit.{IsSectionNumber, IsFitField, ShareNoByte, ComesBefore, section_in}
use Rattle.kl_model.specs.declared.object.RawField.{RawField}
use Rattle.kl_rel.specs.Flaws.{first_of}
use Rattle.kl_rel.specs.Headers.{head, header_place, section, numbers}
use Rattle.kl_rel.specs.Sections.{is_allocated, sections_in, section_of, listed_section}
use Rattle.kl_rel.specs.SymbolTables.{symbol_count}
use Rattle.kl_rel.specs.Relocations.{is_read, rela_checks, rela_flaw_of, relocations_flaw, entries_flaw, entry_checks, entry_flaw_of, entry_place, field_of, fields_of, fields_before, fields_in, is_byte_of, is_taken, shares_byte}
use Rattle.kl_rel.specs.Objects.{object}
use Rattle.kl_rel.specs.declared.fault.ReadKind.TheVariants.{RelaLink, RelaPlace, FieldOverlap}
use Rattle.std.proofs.Math.Facts.{Fits-below, sfits_to_z}
use Rattle.kl_le.proofs.Num.{bounds}
use Rattle.kl_rel.proofs.Bytes.{AreBytes}
use Rattle.kl_rel.proofs.Places.{none_in, none_at, none_first, none_rest, not_stands, section_where, IsNumber}
use Rattle.kl_rel.proofs.Entries.{before-start, before-read, before-passed, before-all, before-more, target_allocated}
use Rattle.kl_rel.proofs.Symbols.{made-at, sections-length, symbols-length}
use Rattle.kl_rel.proofs.FitSections.{all_made}
use Rattle.kl_elf.specs.declared.records.TheConstants.Rela as rela

-- what holds of each item of lists that are made number by number
pub all_over : {X : Type 0} (P : X → Type 0) (f : ℕ → List X) (a n : ℕ) → ((i : ℕ) → i < n → All P (f (a + i))) → All P (flat_map f (range_with_len a n))
all_over P f a zero each = λ k d h. absurd (omega arith)
all_over P f a (suc n) each =
    let e : a + 0 ≡ a = omega arith in
    let first = rw e at (each 0 (omega arith)) in
    All-append P (f a) (flat_map f (range_with_len (a + 1) n)) first
    (all_over P f (a + 1) n (λ i h. let f : (a + 1) + i ≡ a + suc i = omega arith in rw f (each (suc i) (omega arith))))

-- a section of the object
pub number_of : (b : List ℕ) (n : ℕ) → 1 ≤ n → n < (head b).shnum → IsSectionNumber (object b) n
unfolding object
number_of b n low high = (low, rw sections-length (omega arith))

pub section_at : (b : List ℕ) (n : ℕ) → 1 ≤ n → n < (head b).shnum → section_in (object b) n ≡ section_of b n
unfolding object sections_in
section_at b n low high =
    let e : n ≡ suc (n - 1) = omega arith in
    let f : 1 + (n - 1) ≡ n = omega arith in
    let at = rw f at (made-at (section_of b) 1 ((head b).shnum - 1) (n - 1) no_section (omega arith)) in
    tail n (n - 1) e at
  where
    tail : (j i : ℕ) → j ≡ suc i → get_or (map (section_of b) (numbers b)) i no_section ≡ section_of b n → get_or (no_section ∷ map (section_of b) (numbers b)) j no_section ≡ section_of b n
    tail j i e at = rw e at

-- the checks of a relocation section that is read, and of its entries, find nothing
pub rela_passes : (b : List ℕ) (n : ℕ) → relocations_flaw b ≡ None → 1 ≤ n → n < (head b).shnum → rela_flaw_of b n ≡ None
unfolding relocations_flaw
rela_passes b n e low high = none_at (rela_flaw_of b) 1 ((head b).shnum - 1) n e low (omega arith)

pub entry_passes : (b : List ℕ) (n k : ℕ) → relocations_flaw b ≡ None → 1 ≤ n → n < (head b).shnum → is_read b (section b n) ≡ true → k < (section b n).size / rela.SIZE → entry_flaw_of b n k ≡ None
unfolding entries_flaw
entry_passes b n k e low high is h =
    let rest = none_rest (first_of (rela_checks b (header_place b n) (section b n))) _ (rela_passes b n e low high) in
    let entries = rw is at rest in
    none_at (entry_flaw_of b n) 0 ((section b n).size / rela.SIZE) k (none_first (entries_flaw b n) None entries) (omega arith) (omega arith)

-- a field of a file without a flaw
pub field_is_fit : (b : List ℕ) (n k : ℕ) → AreBytes b → relocations_flaw b ≡ None → 1 ≤ n → n < (head b).shnum → is_read b (section b n) ≡ true → k < (section b n).size / rela.SIZE → IsFitField (object b) (field_of b n k)
unfolding entry_checks rela_checks object listed_section
field_is_fit b n k small e low high is h = record {
  rela = number_of b n low high;
  section = number_of b (section b n).info target.low target.high;
  symbol = rw (symbols-length b) symbol;
  bytes = rw (section_at b (section b n).info target.low target.high) bytes;
  inside = rw (section_at b (section b n).info target.low target.high) inside;
  addend = sfits_to_z (Fits-below {w = w64} {n = 0xffffffffffffffff} tt word);
}
  where
    word : num b (entry_place b n k + 16) 8 ≤ 0xffffffffffffffff
    word = let l = bounds b (entry_place b n k + 16) 8 small in omega (arith, l)

    target : IsNumber b (section b n).info
    target = section_where b (section b n).info is_allocated refl (target_allocated b n is)

    checks : first_of (entry_checks (symbol_count b) (section b (section b n).info).size (fields_before b n k) (entry_place b n k) (field_of b n k)) ≡ None
    checks = entry_passes b n k e low high is h

    symbol : (field_of b n k).symbol < symbol_count b
    symbol =
        let none = not_stands (nat_le (symbol_count b) (field_of b n k).symbol) RelaLink (entry_place b n k + 8)
        (none_in (entry_checks (symbol_count b) (section b (section b n).info).size (fields_before b n k) (entry_place b n k) (field_of b n k)) 0 checks) in
        leb-false (symbol_count b) (field_of b n k).symbol none

    inside : (field_of b n k).offset + width (field_of b n k).kind ≤ (section b (section b n).info).size
    inside =
        let none = not_stands (nat_lt (section b (section b n).info).size ((field_of b n k).offset + width (field_of b n k).kind)) RelaPlace (entry_place b n k)
        (none_in (entry_checks (symbol_count b) (section b (section b n).info).size (fields_before b n k) (entry_place b n k) (field_of b n k)) 1 checks) in
        ltb-false (section b (section b n).info).size ((field_of b n k).offset + width (field_of b n k).kind) none

    second : (x y : Bool) → x ≡ true → (x && y) ≡ false → y ≡ false
    second true y ex e = e
    second false y ex e = cc

    bytes : (section b (section b n).info).kind ≢ 8
    bytes =
        let form = none_first (first_of (rela_checks b (header_place b n) (section b n))) _ (rela_passes b n e low high) in
        let none = not_stands (is_read b (section b n) && ((section b (section b n).info).kind == 8)) RelaLink (header_place b n + 44)
        (none_in (rela_checks b (header_place b n) (section b n)) 2 form) in
        eqb-false (section b (section b n).info).kind 8 (second (is_read b (section b n)) ((section b (section b n).info).kind == 8) is none)

pub fields_are_fit : (b : List ℕ) → AreBytes b → relocations_flaw b ≡ None → All (IsFitField (object b)) (fields_in b)
unfolding fields_in fields_of
fields_are_fit b small e = all_over (IsFitField (object b)) (fields_of b) 1 ((head b).shnum - 1) (λ i h. of_section (1 + i) (omega arith) (omega arith) (is_read b (section b (1 + i))) refl)
  where
    of_section : (n : ℕ) → 1 ≤ n → n < (head b).shnum → (x : Bool) → is_read b (section b n) ≡ x
        → All (IsFitField (object b)) (cond x (map (field_of b n) (range_with_len 0 ((section b n).size / rela.SIZE))) [])
    of_section n low high true is = all_made (IsFitField (object b)) (field_of b n) 0 ((section b n).size / rela.SIZE) (λ k h.
        let same : 0 + k ≡ k = omega arith in
        rw same (field_is_fit b n k small e low high is h))
    of_section n low high false is = λ k d h. absurd (omega arith)

-- two fields share no byte, where one shares none with those before it
apart : (fields : List RawField) (h : RawField) (i : ℕ) (d : RawField) → shares_byte fields h ≡ false → i < length fields → ShareNoByte (get_or fields i d) h
apart fields h i d none short = λ same q first second.
    let taken = list_any_at (is_byte_of h.section q) fields i d short (covers (get_or fields i d) h.section q same first) in
    let shared = in_range h.offset (width h.kind) q second.0 second.1 taken in
    cc (sym none ∙ shared)
  where
    covers : (f : RawField) (s q : ℕ) → f.section ≡ s → Within f.offset (width f.kind) q → is_byte_of s q f ≡ true
    covers f s q same in_f = rw (eq-eqb f.section s same, le-leb f.offset q in_f.0, lt-ltb q (f.offset + width f.kind) in_f.1) refl

    in_range : (a n q : ℕ) → a ≤ q → q < a + n → is_taken fields h.section q ≡ true → list_any (is_taken fields h.section) (range_with_len a n) ≡ true
    in_range a n q low high taken =
        let e : a + (q - a) ≡ q = omega arith in
        let short : q - a < n = omega arith in
        let at = get_or-range_with_len a n (q - a) 0 short in
        list_any_at (is_taken fields h.section) (range_with_len a n) (q - a) 0 (rw length-range_with_len short) (rw (at, e) taken)

entry_apart : (b : List ℕ) (n k : ℕ) → entry_flaw_of b n k ≡ None → shares_byte (fields_before b n k) (field_of b n k) ≡ false
unfolding entry_checks
entry_apart b n k e = not_stands (shares_byte (fields_before b n k) (field_of b n k)) FieldOverlap (entry_place b n k)
    (none_in (entry_checks (symbol_count b) (section b (section b n).info).size (fields_before b n k) (entry_place b n k) (field_of b n k)) 2 e)

-- each field before an entry comes before it
all_before : (b : List ℕ) (n k : ℕ) → All (λ f. ComesBefore f (field_of b n k)) (fields_before b n k)
unfolding fields_before fields_of
all_before b n k = All-append (λ f. ComesBefore f (field_of b n k)) (flat_map (fields_of b) (range_with_len 1 (n - 1))) (map (field_of b n) (range_with_len 0 k))
    (all_over (λ f. ComesBefore f (field_of b n k)) (fields_of b) 1 (n - 1) (λ i h. earlier (1 + i) (omega arith) (is_read b (section b (1 + i)))))
    (all_made (λ f. ComesBefore f (field_of b n k)) (field_of b n) 0 k (λ i h. inr (refl, omega arith)))
  where
    earlier : (m : ℕ) → m < n → (x : Bool) → All (λ f. ComesBefore f (field_of b n k)) (cond x (map (field_of b m) (range_with_len 0 ((section b m).size / rela.SIZE))) [])
    earlier m less true = all_made (λ f. ComesBefore f (field_of b n k)) (field_of b m) 0 ((section b m).size / rela.SIZE) (λ i h. inl less)
    earlier m less false = λ i d h. absurd (omega arith)

-- what holds of each entry and each field before it holds of any two fields
entries_pair : (b : List ℕ) (R : RawField → RawField → Type 0) (n count k : ℕ) → ((k : ℕ) → k < count → (i : ℕ) (d : RawField) → i < length (fields_before b n k) → R (get_or (fields_before b n k) i d) (field_of b n k))
    → k ≤ count → AllPairs R (fields_before b n 0) → AllPairs R (fields_before b n k)
entries_pair b R n count zero step le pairs = pairs
entries_pair b R n count (suc k) step le pairs =
    let e : suc k ≡ k + 1 = omega arith in
    let so_far = entries_pair b R n count k step (omega arith) pairs in
    rw (e, before-more b n k) (all_pairs_push R (fields_before b n k) (field_of b n k) so_far (step k (omega arith)))

sections_pair : (b : List ℕ) (R : RawField → RawField → Type 0) (m : ℕ)
    → ((n k : ℕ) → 1 ≤ n → n < (head b).shnum → is_read b (section b n) ≡ true → k < (section b n).size / rela.SIZE → (i : ℕ) (d : RawField) → i < length (fields_before b n k) → R (get_or (fields_before b n k) i d) (field_of b n k))
    → m < (head b).shnum → AllPairs R (fields_before b (m + 1) 0)
sections_pair b R zero step le = let e : zero + 1 ≡ 1 = omega arith in rw (e, before-start b) (λ i j d less short. absurd (omega arith))
sections_pair b R (suc m) step le =
    let e : suc m ≡ m + 1 = omega arith in
    let so_far = sections_pair b R m step (omega arith) in
    rw e (go (is_read b (section b (m + 1))) refl so_far)
  where
    go : (x : Bool) → is_read b (section b (m + 1)) ≡ x → AllPairs R (fields_before b (m + 1) 0) → AllPairs R (fields_before b (m + 1 + 1) 0)
    go true is so_far = rw (before-read b (m + 1) (omega arith) is)
        (entries_pair b R (m + 1) ((section b (m + 1)).size / rela.SIZE) ((section b (m + 1)).size / rela.SIZE) (λ k h. step (m + 1) k (omega arith) (omega arith) is h) (omega arith) so_far)
    go false is so_far = rw (before-passed b (m + 1) (omega arith) is) so_far

all_pairs : (b : List ℕ) (R : RawField → RawField → Type 0) → 0 < (head b).shnum
    → ((n k : ℕ) → 1 ≤ n → n < (head b).shnum → is_read b (section b n) ≡ true → k < (section b n).size / rela.SIZE → (i : ℕ) (d : RawField) → i < length (fields_before b n k) → R (get_or (fields_before b n k) i d) (field_of b n k))
    → AllPairs R (fields_in b)
all_pairs b R some step =
    let e : (head b).shnum - 1 + 1 - 1 ≡ (head b).shnum - 1 = omega arith in
    let whole = before-all b ((head b).shnum - 1 + 1) e in
    rw whole at (sections_pair b R ((head b).shnum - 1) step (omega arith))

pub fields_are_apart : (b : List ℕ) → 0 < (head b).shnum → relocations_flaw b ≡ None → AllPairs ShareNoByte (fields_in b)
fields_are_apart b some e = all_pairs b ShareNoByte some (λ n k low high is h i d short.
    apart (fields_before b n k) (field_of b n k) i d (entry_apart b n k (entry_passes b n k e low high is h)) short)

pub fields_ascend : (b : List ℕ) → 0 < (head b).shnum → AllPairs ComesBefore (fields_in b)
fields_ascend b some = all_pairs b ComesBefore some (λ n k low high is h i d short. all_before b n k i d short)
