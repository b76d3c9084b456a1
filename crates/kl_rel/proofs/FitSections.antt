-- The sections of a file without a flaw are fit to be linked.
use Rattle.std.proofs.Common.{ℕ, zero, suc, ◌≡◌, ◌≢◌, ◌+◌, ◌-◌, ◌*◌, ◌<◌, ◌≤◌, ◌^◌, ◌∙◌, ◌⊎◌, inl, inr, Bool, true, false, cond, not, ◌&&◌, ◌||◌, List, [], ◌∷◌, length, get_or, take, drop, map, refl, ap, sym, arith, eqb-true, ne_eqb, length-drop}
use Rattle.std.specs.Prelude.{Option, Some, None, ◌==◌, unwrap_or, is_none, All}
use Rattle.std.specs.List.{range_with_len}
use Rattle.std.proofs.lemmas.Bool.{eqb-false}
use Rattle.std.proofs.lemmas.List.{length-take, get_or-take}
use Rattle.std.proofs.lemmas.List.Sums.{fails_before_first}
use Rattle.kl_base.specs.declared.class.Range.{Range}
use Rattle.kl_elf.specs.declared.records.Shdr.{Shdr}
use Rattle.kl_model.specs.Texts.{has}
use Rattle.kl_model.specs.Fit.{IsName, IsAlignment, IsFitAllocated, IsFitSection}
use Rattle.kl_rel.specs.Flaws.{first_of}
use Rattle.kl_rel.specs.Headers.{head, header_place, section, has_bytes, string_in, table_checks, ranges_flaw}
use Rattle.kl_rel.specs.Sections.{no_name, section_name, names, is_allocated, is_linked_type, is_alignment, flags_checks, form_checks, section_checks, sections_flaw, sections_in, section_of, listed_section}
use Rattle.kl_rel.specs.declared.fault.Feature.TheVariants.{WriteExecute, SectionType}
use Rattle.kl_rel.specs.declared.fault.ReadKind.TheVariants.{Unsupported, NameRange, Align}
use Rattle.kl_rel.proofs.Places.{none_in, not_stands, not_false, section_lies, names_lie}
use Rattle.kl_rel.proofs.Strings.{IsString, string_of, string_inside, rest_of}
use Rattle.kl_rel.proofs.Symbols.{made-at, made-length}
use Rattle.kl_rel.proofs.Allocated.{section_passes, form_passes, flags_passes, size_limited}
use Rattle.kl_rel.proofs.Powers.{power_alignment}

-- what holds of each item of a list that is made number by number
pub all_made : {X : Type 0} (P : X → Type 0) (f : ℕ → X) (a n : ℕ) → ((i : ℕ) → i < n → P (f (a + i))) → All P (map f (range_with_len a n))
all_made P f a n each = λ k d h. let short : k < n = rw made-length at h in rw (made-at f a n k d short) (each k short)

pub empty_name : (b : List ℕ) → IsName b no_name
empty_name b = record { inside = omega arith; no_zero = λ k d h. absurd (omega arith) }

-- a name in a string table has no zero byte
pub string_name : (b : List ℕ) (t : Shdr) (p : ℕ) (r : Range) → string_in b t p ≡ Some r → t.offset + t.size ≤ length b → IsName b r
string_name b t p r e lies =
    let is = string_of b t p r e in
    let inside = string_inside b t p r e lies in
    record { inside = omega (arith, inside, lies); no_zero = λ k d h. clear is k d (rw length-take at h) }
  where
    clear : IsString b t p r → (k d : ℕ) → k < Rattle.std.proofs.Common.min r.len (length (drop r.at b)) → get_or (take r.len (drop r.at b)) k d ≢ 0
    clear is k d h =
        let early : k < r.len = omega arith in
        let within = rw length-take at is.short in
        let fails = fails_before_first (λ c. c == 0) (rest_of b t p) k d (rw is.first at early) in
        let here = get_or-take r.len (drop r.at b) k d early in
        let there = get_or-take (t.offset + t.size - (t.offset + p)) (drop (t.offset + p) b) k d (omega (arith, early, within)) in
        let nonzero = rw there at fails in
        rw (here, is.place) (eqb-false _ 0 nonzero)

-- the name of a section
pub section_is_named : (b : List ℕ) (n : ℕ) → first_of (table_checks b) ≡ None → ranges_flaw b ≡ None → sections_flaw b ≡ None → 1 ≤ n → n < (head b).shnum → IsName b (section_of b n).name
unfolding section_checks listed_section
section_is_named b n table ranges e low high =
    let none = not_stands (is_none (section_name b (names b) (section b n))) NameRange (header_place b n)
    (none_in (section_checks b (names b) (header_place b n) (section b n)) 0 (section_passes b n e low high)) in
    go (section_name b (names b) (section b n)) refl none
  where
    go : (o : Option Range) → section_name b (names b) (section b n) ≡ o → is_none o ≡ false → IsName b (unwrap_or o no_name)
    go None at none = cc
    go (Some r) at none = by_kind ((section b n).kind == 0) r at
      where
        by_kind : (x : Bool) (r : Range) → cond x (Some no_name) (string_in b (names b) (section b n).name) ≡ Some r → IsName b r
        by_kind true r at = let same : no_name ≡ r = cc in rw (← same) (empty_name b)
        by_kind false r at = string_name b (names b) (section b n).name r at (names_lie b table ranges)

-- an allocated section
pub section_is_fit : (b : List ℕ) (n : ℕ) → ranges_flaw b ≡ None → sections_flaw b ≡ None → is_allocated (section b n) ≡ true → IsFitAllocated b (section_of b n)
unfolding form_checks flags_checks listed_section
section_is_fit b n ranges e is = record {
  bytes = λ bits. section_lies b n ranges (linked bits);
  permission = λ write. second (has (section b n).flags 1) (has (section b n).flags 4) write permission;
  align = aligned ((section b n).addralign == 0) refl (is_alignment (section b n).addralign) refl alignment;
  size = size_limited b n e is;
}
  where
    form : first_of (form_checks b (header_place b n) (unwrap_or (section_name b (names b) (section b n)) no_name) (section b n)) ≡ None
    form = form_passes b n e is

    linked_type : is_linked_type (section b n).kind ≡ true
    linked_type = not_false (is_linked_type (section b n).kind) (not_stands (not (is_linked_type (section b n).kind)) (Unsupported SectionType) (header_place b n + 4)
        (none_in (form_checks b (header_place b n) (unwrap_or (section_name b (names b) (section b n)) no_name) (section b n)) 0 form))

    alignment : (not ((section b n).addralign == 0) && not (is_alignment (section b n).addralign)) ≡ false
    alignment = not_stands (not ((section b n).addralign == 0) && not (is_alignment (section b n).addralign)) Align (header_place b n + 48)
        (none_in (form_checks b (header_place b n) (unwrap_or (section_name b (names b) (section b n)) no_name) (section b n)) 2 form)

    permission : (has (section b n).flags 1 && has (section b n).flags 4) ≡ false
    permission = not_stands (has (section b n).flags 1 && has (section b n).flags 4) (Unsupported WriteExecute) (header_place b n + 8)
        (none_in (flags_checks (header_place b n) (section b n)) 2 (flags_passes b n e is))

    linked : (section b n).kind ≢ 8 → has_bytes (section b n) ≡ true
    linked bits = with_bytes ((section b n).kind == 0) refl
      where
        with_bytes : (x : Bool) → ((section b n).kind == 0) ≡ x → (not x && not ((section b n).kind == 8)) ≡ true
        with_bytes true ex = let none = rw (eqb-true (section b n).kind 0 ex) at linked_type in cc
        with_bytes false ex = rw (ne_eqb (section b n).kind 8 bits) refl

    second : (x y : Bool) → x ≡ true → (x && y) ≡ false → y ≡ false
    second true y ex e = e
    second false y ex e = cc

    aligned : (x : Bool) → ((section b n).addralign == 0) ≡ x → (y : Bool) → is_alignment (section b n).addralign ≡ y → (not x && not y) ≡ false → IsAlignment (section b n).addralign
    aligned true ex y ey none = inl (eqb-true (section b n).addralign 0 ex)
    aligned false ex true ey none = power_alignment (section b n).addralign ey
    aligned false ex false ey none = cc

pub sections_are_fit : (b : List ℕ) → first_of (table_checks b) ≡ None → ranges_flaw b ≡ None → sections_flaw b ≡ None → All (IsFitSection b) (sections_in b)
unfolding sections_in listed_section
sections_are_fit b table ranges e = all_made (IsFitSection b) (section_of b) 1 ((head b).shnum - 1) (λ i h.
    let high : 1 + i < (head b).shnum = omega arith in
    record { name = section_is_named b (1 + i) table ranges e (omega arith) high; allocated = fit (1 + i) })
  where
    fit : (n : ℕ) → has (section_of b n).flags 2 ≡ true → IsFitAllocated b (section_of b n)
    fit n is = section_is_fit b n ranges e is
