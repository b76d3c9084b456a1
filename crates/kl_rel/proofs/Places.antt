-- What lies in a file whose sections lie in it.
use Rattle.std.proofs.Common.{ℕ, zero, suc, ◌≡◌, ◌≢◌, ◌+◌, ◌-◌, ◌<◌, ◌≤◌, Bool, true, false, cond, not, ◌&&◌, ◌||◌, List, [], ◌∷◌, length, refl, arith}
use Rattle.std.specs.Prelude.{map, Option, Some, None, ◌==◌, nat_le, slice_index_or}
use Rattle.std.specs.Option.{option_or}
use Rattle.std.specs.List.{range_with_len}
use Rattle.std.proofs.lemmas.Bool.{eqb-true, ltb-false, leb-false, eqb-false}
use Rattle.kl_elf.specs.Records.{shdr_at}
use Rattle.kl_elf.specs.declared.records.Shdr.{Shdr}
use Rattle.kl_rel.specs.Flaws.{first_of, flaw_if}
use Rattle.kl_rel.specs.Headers.{head, header_place, section, null_header, has_bytes, is_string_table, range_flaw, range_flaw_of, ranges_flaw, table_checks}
use Rattle.kl_rel.specs.declared.fault.ReadFault.{ReadFault}
use Rattle.kl_rel.specs.declared.fault.ReadKind.{ReadKind}
use Rattle.kl_rel.specs.declared.fault.ReadKind.TheVariants.{SectionTable}

-- of two flaws none stands
pub none_first : (x y : Option ReadFault) → option_or x y ≡ None → x ≡ None
none_first None y e = refl
none_first (Some f) y e = cc

pub none_rest : (x y : Option ReadFault) → option_or x y ≡ None → y ≡ None
none_rest None y e = e
none_rest (Some f) y e = cc

-- none of several checks finds a flaw
pub none_in : (xs : List (Option ReadFault)) (k : ℕ) → first_of xs ≡ None → slice_index_or xs k None ≡ None
none_in [] k e = refl
none_in (x ∷ xs) zero e = none_first x (first_of xs) e
none_in (x ∷ xs) (suc k) e = none_in xs k (none_rest x (first_of xs) e)

-- a flaw that doesn't stand
pub not_stands : (x : Bool) (kind : ReadKind) (at : ℕ) → flaw_if x kind at ≡ None → x ≡ false
not_stands true kind at e = cc
not_stands false kind at e = refl

pub not_false : (x : Bool) → not x ≡ false → x ≡ true
not_false true e = refl
not_false false e = cc

pub not_true : (x : Bool) → not x ≡ true → x ≡ false
not_true true e = cc
not_true false e = refl

-- no number of a pass has a flaw
pub none_at : (f : ℕ → Option ReadFault) (a n k : ℕ) → first_of (map f (range_with_len a n)) ≡ None → a ≤ k → k < a + n → f k ≡ None
none_at f a zero k e low high = absurd (omega arith)
none_at f a (suc n) k e low high =
    go (a == k) refl (λ apart. none_at f (a + 1) n k (none_rest (f a) (first_of (map f (range_with_len (a + 1) n))) e) (omega arith) (omega arith))
  where
    go : (x : Bool) → (a == k) ≡ x → (a ≢ k → f k ≡ None) → f k ≡ None
    go true same rest = let at = eqb-true a k same in rw (← at) (none_first (f a) (first_of (map f (range_with_len (a + 1) n))) e)
    go false other rest = rest (eqb-false a k other)

-- a section that has bytes
section_fits : (b : List ℕ) (place : ℕ) (s : Shdr) → range_flaw b place s ≡ None → has_bytes s ≡ true → s.offset + s.size ≤ length b
unfolding range_flaw
section_fits b place s e has =
    let none = not_stands _ _ _ e in
    ltb-false (length b) (s.offset + s.size) (rw has at none)

-- a section that passes a test which the null header doesn't pass is one of the table
pub record IsNumber (b : List ℕ) (n : ℕ) : Type 0 where
  pub low : 1 ≤ n
  pub high : n < (head b).shnum

pub section_where : (b : List ℕ) (n : ℕ) (test : Shdr → Bool) → test null_header ≡ false → test (section b n) ≡ true → IsNumber b n
unfolding section
section_where b n test null e = go (n == 0) (nat_le (head b).shnum n) refl refl e
  where
    go : (x y : Bool) → (n == 0) ≡ x → nat_le (head b).shnum n ≡ y → test (cond (x || y) null_header (shdr_at b (header_place b n))) ≡ true → IsNumber b n
    go true y ex ey e = cc
    go false true ex ey e = cc
    go false false ex ey e =
        let apart = eqb-false n 0 ex in
        let below = leb-false (head b).shnum n ey in
        record { low = omega (arith, apart, below); high = omega (arith, below) }

-- the bytes of a section lie in the file
pub section_lies : (b : List ℕ) (n : ℕ) → ranges_flaw b ≡ None → has_bytes (section b n) ≡ true → (section b n).offset + (section b n).size ≤ length b
unfolding ranges_flaw
section_lies b n e has =
    let here = section_where b n has_bytes refl has in
    let low = here.low in
    let high = here.high in
    section_fits b (header_place b n) (section b n) (none_at (range_flaw_of b) 1 ((head b).shnum - 1) n e low (omega arith)) has

-- of a type with bytes
pub section_of_type : (b : List ℕ) (n k : ℕ) → ranges_flaw b ≡ None → (section b n).kind ≡ k → (not (k == 0) && not (k == 8)) ≡ true → (section b n).offset + (section b n).size ≤ length b
section_of_type b n k e kind has = section_lies b n e (rw kind has)

-- the string table of section names is one
pub names_kind : (b : List ℕ) → first_of (table_checks b) ≡ None → (section b (head b).shstrndx).kind ≡ 3
unfolding table_checks
names_kind b form =
    let none = not_stands (not (is_string_table (section b (head b).shstrndx))) SectionTable 62 (none_in (table_checks b) 4 form) in
    eqb-true (section b (head b).shstrndx).kind 3 (not_false (is_string_table (section b (head b).shstrndx)) none)

pub names_lie : (b : List ℕ) → first_of (table_checks b) ≡ None → ranges_flaw b ≡ None → (section b (head b).shstrndx).offset + (section b (head b).shstrndx).size ≤ length b
names_lie b form e = section_of_type b (head b).shstrndx 3 e (names_kind b form) refl
