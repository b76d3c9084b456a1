-- The fields before an entry.
use Rattle.std.proofs.Common.{ℕ, zero, ◌≡◌, ◌+◌, ◌-◌, ◌/◌, ◌<◌, ◌≤◌, ◌∙◌, Bool, true, false, ◌&&◌, ◌||◌, eqb-true, length, List, [], ◌∷◌, ◌++◌, refl, sym, arith, append_assoc}
use Rattle.std.specs.Prelude.{map, flat_map, nat_le, Option, Some, None}
use Rattle.std.specs.List.{range_with_len}
use Rattle.std.proofs.lemmas.List.{append-nil, length-append}
use Rattle.std.proofs.lemmas.List.FromFn.{length-map-range_with_len}
use Rattle.std.specs.Option.{option_or}
use Rattle.std.proofs.lemmas.Bool.{leb-false}
use Rattle.kl_rel.specs.Flaws.{first_of}
use Rattle.kl_rel.specs.Headers.{head, header_place, section, ranges_flaw}
use Rattle.kl_rel.specs.Sections.{is_allocated}
use Rattle.kl_rel.specs.Relocations.{field_of, fields_of, fields_before, fields_in, is_read, is_rela, is_rel, rela_checks, rela_flaw_of, entries_flaw}
use Rattle.kl_rel.specs.declared.fault.ReadFault.{ReadFault}
use Rattle.kl_rel.specs.declared.fault.ReadKind.TheVariants.{RelaLink}
use Rattle.kl_rel.proofs.Places.{none_in, not_stands, section_of_type}
use Rattle.kl_rel.proofs.Passes.{map-more, flat_map-more, upto, upto-next}
use Rattle.kl_elf.specs.declared.records.TheConstants.Rela as rela

-- one entry more
pub before-more : (b : List ℕ) (n k : ℕ) → fields_before b n (k + 1) ≡ fields_before b n k ++ field_of b n k ∷ []
unfolding fields_before
before-more b n k =
    let e : zero + k ≡ k = omega arith in
    let more = rw e at (map-more (field_of b n) 0 k) in
    rw more (sym (append_assoc (flat_map (fields_of b) (range_with_len 1 (n - 1))) (map (field_of b n) (range_with_len 0 k)) (field_of b n k ∷ [])))

-- the fields before section n + 1 are those before section n and its own
before-section : (b : List ℕ) (n : ℕ) → 1 ≤ n → fields_before b (n + 1) 0 ≡ flat_map (fields_of b) (range_with_len 1 (n - 1)) ++ fields_of b n
unfolding fields_before
before-section b n low =
    let e : n + 1 - 1 ≡ (n - 1) + 1 = omega arith in
    let f : 1 + (n - 1) ≡ n = omega arith in
    let more = rw f at (flat_map-more (fields_of b) 1 (n - 1)) in
    rw e (append-nil (flat_map (fields_of b) (range_with_len 1 ((n - 1) + 1))) ∙ more)

pub before-read : (b : List ℕ) (n : ℕ) → 1 ≤ n → is_read b (section b n) ≡ true → fields_before b (n + 1) 0 ≡ fields_before b n ((section b n).size / rela.SIZE)
unfolding fields_before fields_of
before-read b n low is = before-section b n low ∙ rw is refl

pub before-passed : (b : List ℕ) (n : ℕ) → 1 ≤ n → is_read b (section b n) ≡ false → fields_before b (n + 1) 0 ≡ fields_before b n 0
unfolding fields_before fields_of
before-passed b n low is = before-section b n low ∙ rw is refl

pub before-start : (b : List ℕ) → fields_before b 1 0 ≡ []
unfolding fields_before
before-start b = refl

pub before-all : (b : List ℕ) (n : ℕ) → n - 1 ≡ (head b).shnum - 1 → fields_before b n 0 ≡ fields_in b
unfolding fields_before fields_in
before-all b n e = rw e (append-nil (flat_map (fields_of b) (range_with_len 1 ((head b).shnum - 1))))

-- the flaw of a section by those of its header and its entries
pub rela_none : (b : List ℕ) (n : ℕ) → None ≡ first_of (rela_checks b (header_place b n) (section b n)) → is_read b (section b n) ≡ false → rela_flaw_of b n ≡ None
rela_none b n e is = rw (← e, is) refl

pub rela_some : (b : List ℕ) (n : ℕ) (f : ReadFault) → Some f ≡ first_of (rela_checks b (header_place b n) (section b n)) → rela_flaw_of b n ≡ Some f
rela_some b n f e = rw (← e) refl

pub rela_read : (b : List ℕ) (n : ℕ) → None ≡ first_of (rela_checks b (header_place b n) (section b n)) → is_read b (section b n) ≡ true → rela_flaw_of b n ≡ entries_flaw b n
rela_read b n e is = rw (← e, is) (only (entries_flaw b n))
  where
    only : (x : Option ReadFault) → option_or x None ≡ x
    only None = refl
    only (Some f) = refl

-- the section that a relocation section changes is one of the table
pub info_below : (b : List ℕ) (n : ℕ) → None ≡ first_of (rela_checks b (header_place b n) (section b n)) → is_read b (section b n) ≡ true → (section b n).info < (head b).shnum
unfolding rela_checks
info_below b n e is =
    let none = not_stands ((is_rela (section b n) || is_rel (section b n)) && nat_le (head b).shnum (section b n).info) RelaLink (header_place b n + 44) (none_in (rela_checks b (header_place b n) (section b n)) 0 (sym e)) in
    go (is_rela (section b n)) (is_rel (section b n)) (nat_le (head b).shnum (section b n).info) (is_allocated (section b (section b n).info)) refl none is
  where
    go : (x y z w : Bool) → nat_le (head b).shnum (section b n).info ≡ z → ((x || y) && z) ≡ false → (x && w) ≡ true → (section b n).info < (head b).shnum
    go true y true w ez none is = cc
    go true y false w ez none is = let below = leb-false (head b).shnum (section b n).info ez in omega (arith, below)
    go false y z w ez none is = cc

-- its entries lie in the file
pub rela_lies : (b : List ℕ) (n : ℕ) → ranges_flaw b ≡ None → is_read b (section b n) ≡ true → (section b n).offset + (section b n).size ≤ length b
rela_lies b n e is = section_of_type b n 4 e (eqb-true (section b n).kind 4 (left (is_rela (section b n)) (is_allocated (section b (section b n).info)) is)) refl
  where
    left : (x y : Bool) → (x && y) ≡ true → x ≡ true
    left true y e = refl
    left false y e = cc

-- the section that is changed is allocated
pub target_allocated : (b : List ℕ) (n : ℕ) → is_read b (section b n) ≡ true → is_allocated (section b (section b n).info) ≡ true
target_allocated b n is = right (is_rela (section b n)) (is_allocated (section b (section b n).info)) is
  where
    right : (x y : Bool) → (x && y) ≡ true → y ≡ true
    right true y e = e
    right false y e = cc

-- how many a section has, and it with those after it
pub count_read : (b : List ℕ) (n : ℕ) → is_read b (section b n) ≡ true → length (fields_of b n) ≡ (section b n).size / rela.SIZE
unfolding fields_of
count_read b n is = rw is (length-map-range_with_len (field_of b n) 0 ((section b n).size / rela.SIZE))

pub count_none : (b : List ℕ) (n : ℕ) → is_read b (section b n) ≡ false → length (fields_of b n) ≡ 0
unfolding fields_of
count_none b n is = rw is refl

pub count_next : (b : List ℕ) (n c : ℕ) → n < c → length (flat_map (fields_of b) (upto n c)) ≡ length (fields_of b n) + length (flat_map (fields_of b) (upto (n + 1) c))
count_next b n c h = rw (upto-next n c h) (length-append (fields_of b n) (flat_map (fields_of b) (upto (n + 1) c)))

pub count_all : (b : List ℕ) → length (flat_map (fields_of b) (upto 1 (head b).shnum)) ≡ length (fields_in b)
unfolding fields_in
count_all b = refl
