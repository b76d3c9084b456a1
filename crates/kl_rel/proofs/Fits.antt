-- What stands in a file without a flaw is fit to be linked.
use Rattle.std.proofs.Common.{ℕ, zero, suc, ◌≡◌, ◌+◌, ◌-◌, ◌/◌, ◌<◌, ◌≤◌, Bool, true, false, cond, not, ◌&&◌, ◌||◌, List, [], ◌∷◌, length, get_or, refl, sym, arith}
use Rattle.std.specs.Prelude.{Option, None, ◌==◌, nat_le, All}
use Rattle.std.proofs.lemmas.Bool.{leb-false, eqb-false}
use Rattle.kl_model.specs.Kept.{no_section, no_symbol}
use Rattle.kl_model.specs.Lists.{number_in}
use Rattle.kl_model.specs.Fit.{IsName, IsSectionNumber, IsFitGroup, IsFit}
use Rattle.kl_model.specs.declared.object.Input.{Input}
use Rattle.kl_model.specs.declared.object.Group.{Group}
use Rattle.kl_rel.specs.Flaws.{first_of}
use Rattle.kl_rel.specs.Headers.{head, head_flaw, header_place, section, table_checks, ranges_flaw}
use Rattle.kl_rel.specs.Sections.{sections_in, sections_flaw}
use Rattle.kl_rel.specs.SymbolTables.{symbol_count, symbol_table_checks, symbols_flaw, symbols_in, is_in_section, is_reserved}
use Rattle.kl_rel.specs.Relocations.{relocations_flaw}
use Rattle.kl_rel.specs.SectionGroups.{word, word_place, members, members_before, member_flaw, member_flaw_of, members_flaw, is_group, group_checks, group_flaw_of, groups_flaw, group_of, groups_at, groups_in, signature}
use Rattle.kl_rel.specs.Objects.{object, flaw}
use Rattle.kl_rel.specs.declared.fault.ReadFault.{ReadFault}
use Rattle.kl_rel.specs.declared.fault.ReadKind.TheVariants.{SectionTable, GroupForm}
use Rattle.kl_rel.proofs.Bytes.{AreBytes}
use Rattle.kl_rel.proofs.Places.{none_in, none_at, not_stands}
use Rattle.kl_rel.proofs.Symbols.{symbols-length, sections-length, symbol_fits}
use Rattle.kl_rel.proofs.Grouping.{form_of}
use Rattle.kl_rel.proofs.FitSections.{all_made, sections_are_fit}
use Rattle.kl_rel.proofs.FitSymbols.{symbols_are_fit, all_fit}
use Rattle.kl_rel.proofs.FitFields.{all_over, number_of, fields_are_fit, fields_are_apart, fields_ascend}

-- that a file's bytes are bytes, and no part of it has a flaw
pub record IsSound (b : List ℕ) : Type 0 where
  pub small : AreBytes b
  pub table : first_of (table_checks b) ≡ None
  pub ranges : ranges_flaw b ≡ None
  pub sections : sections_flaw b ≡ None
  pub form : first_of (symbol_table_checks b) ≡ None
  pub symbols : symbols_flaw b ≡ None
  pub fields : relocations_flaw b ≡ None
  pub groups : groups_flaw b ≡ None
  pub some : 0 < (head b).shnum

pub is_sound : (b : List ℕ) → AreBytes b → flaw b ≡ None → IsSound b
unfolding flaw table_checks
is_sound b small e = record {
  small = small;
  table = none_in (parts b) 1 e;
  ranges = none_in (parts b) 2 e;
  sections = none_in (parts b) 3 e;
  form = none_in (parts b) 4 e;
  symbols = none_in (parts b) 5 e;
  fields = none_in (parts b) 6 e;
  groups = none_in (parts b) 7 e;
  some = some (none_in (parts b) 1 e);
}
  where
    parts : List ℕ → List (Option ReadFault)
    parts b = head_flaw b ∷ first_of (table_checks b) ∷ ranges_flaw b ∷ sections_flaw b ∷ first_of (symbol_table_checks b) ∷ symbols_flaw b ∷ relocations_flaw b ∷ groups_flaw b ∷ []

    some : first_of (table_checks b) ≡ None → 0 < (head b).shnum
    some none =
        let apart = eqb-false (head b).shnum 0 (not_stands ((head b).shnum == 0) SectionTable 60 (none_in (table_checks b) 2 none)) in
        omega (arith, apart)

-- the checks of a group find nothing
group_passes : (b : List ℕ) (n : ℕ) → groups_flaw b ≡ None → is_group (section b n) ≡ true → 1 ≤ n → n < (head b).shnum → first_of (group_checks b n) ≡ None
unfolding groups_flaw
group_passes b n e is low high = let none = none_at (group_flaw_of b) 1 ((head b).shnum - 1) n e low (omega arith) in rw is at none

-- the name of its signature
signature_is_name : (b : List ℕ) (k : ℕ) → IsSound b → 1 ≤ k → k < symbol_count b → IsName b (signature (sections_in b) (get_or (symbols_in b) k no_symbol))
signature_is_name b k s low high = go ((get_or (symbols_in b) k no_symbol).kind == 3) (is_in_section (get_or (symbols_in b) k no_symbol).section) refl
  where
    named : IsName b (get_or (symbols_in b) k no_symbol).name
    named =
        let all = all_fit b (length (sections_in b)) s.small (sections-length b) s.some s.ranges s.form s.symbols in
        (all k no_symbol (rw symbols-length high)).name

    go : (x y : Bool) → is_in_section (get_or (symbols_in b) k no_symbol).section ≡ y
        → IsName b (cond (x && y) (get_or (sections_in b) ((get_or (symbols_in b) k no_symbol).section - 1) no_section).name (get_or (symbols_in b) k no_symbol).name)
    go false y ey = named
    go true false ey = named
    go true true ey =
        let fits = symbol_fits b k s.symbols low high ey in
        let all = sections_are_fit b s.table s.ranges s.sections in
        let several = above ey in
        (all ((get_or (symbols_in b) k no_symbol).section - 1) no_section (omega (arith, fits, several))).name
      where
        above : is_in_section (get_or (symbols_in b) k no_symbol).section ≡ true → 1 ≤ (get_or (symbols_in b) k no_symbol).section
        above is = one_or_more ((get_or (symbols_in b) k no_symbol).section == 0) refl is
          where
            one_or_more : (x : Bool) → ((get_or (symbols_in b) k no_symbol).section == 0) ≡ x → (not x && not (is_reserved (get_or (symbols_in b) k no_symbol).section)) ≡ true
                → 1 ≤ (get_or (symbols_in b) k no_symbol).section
            one_or_more true ex is = cc
            one_or_more false ex is = let apart = eqb-false (get_or (symbols_in b) k no_symbol).section 0 ex in omega (arith, apart)

-- its members
member_is_number : (b : List ℕ) (n j m place : ℕ) (before : List ℕ) → member_flaw (head b).shnum before n place m ≡ None → IsSectionNumber (object b) m
unfolding member_flaw
member_is_number b n j m place before e =
    let none = not_stands ((((m == 0) || nat_le (head b).shnum m) || (m == n)) || number_in before m) GroupForm place e in
    go (m == 0) refl (nat_le (head b).shnum m) refl (m == n) (number_in before m) none
  where
    go : (x : Bool) → (m == 0) ≡ x → (y : Bool) → nat_le (head b).shnum m ≡ y → (z w : Bool) → (((x || y) || z) || w) ≡ false → IsSectionNumber (object b) m
    go true ex y ey z w none = cc
    go false ex true ey z w none = cc
    go false ex false ey z w none =
        let apart = eqb-false m 0 ex in
        let below = leb-false (head b).shnum m ey in
        number_of b m (omega (arith, apart)) below

members_are_numbers : (b : List ℕ) (n : ℕ) → members_flaw b n ≡ None → All (IsSectionNumber (object b)) (members b (section b n))
unfolding members_flaw members
members_are_numbers b n e = all_made (IsSectionNumber (object b)) (word b (section b n)) 1 ((section b n).size / 4 - 1) (λ i h.
    member_is_number b n (1 + i) (word b (section b n) (1 + i)) (word_place (section b n) (1 + i)) (members_before b n (1 + i))
    (none_at (member_flaw_of b n) 1 ((section b n).size / 4 - 1) (1 + i) e (omega arith) (omega arith)))

group_is_fit : (b : List ℕ) (n : ℕ) → IsSound b → is_group (section b n) ≡ true → 1 ≤ n → n < (head b).shnum → IsFitGroup b (object b) (group_of b n)
unfolding group_of group_checks
group_is_fit b n s is low high =
    let checks = group_passes b n s.groups is low high in
    let form = form_of b (header_place b n) (section b n) (sym (none_in (group_checks b n) 0 checks)) in
    record {
      section = number_of b n low high;
      signature = signature_is_name b (section b n).info s form.low form.high;
      members = members_are_numbers b n (none_in (group_checks b n) 1 checks);
    }

groups_are_fit : (b : List ℕ) → IsSound b → All (IsFitGroup b (object b)) (groups_in b)
unfolding groups_in groups_at
groups_are_fit b s = all_over (IsFitGroup b (object b)) (groups_at b) 1 ((head b).shnum - 1) (λ i h. of_section (1 + i) (omega arith) (omega arith) (is_group (section b (1 + i))) refl)
  where
    of_section : (n : ℕ) → 1 ≤ n → n < (head b).shnum → (x : Bool) → is_group (section b n) ≡ x → All (IsFitGroup b (object b)) (cond x (group_of b n ∷ []) [])
    of_section n low high true is = λ k d h. only k d h
      where
        only : (k : ℕ) (d : Group) → k < 1 → IsFitGroup b (object b) (get_or (group_of b n ∷ []) k d)
        only zero d h = group_is_fit b n s is low high
        only (suc k) d h = absurd (omega arith)
    of_section n low high false is = λ k d h. absurd (omega arith)

-- an input of these bytes whose object is the one that stands in them
pub object_is_fit : (b : List ℕ) → AreBytes b → flaw b ≡ None → (x : Input) → x.bytes ≡ b → x.object ≡ object b → IsFit x
unfolding object
object_is_fit b small e x eb eo =
    let s = is_sound b small e in
    record {
      sections = rw (eb, eo) (sections_are_fit b s.table s.ranges s.sections);
      symbols = rw (eb, eo) (symbols_are_fit b s.small s.some s.ranges s.form s.symbols);
      fields = rw eo (fields_are_fit b s.small s.fields);
      apart = rw eo (fields_are_apart b s.some s.fields);
      ascending = rw eo (fields_ascend b s.some);
      groups = rw (eb, eo) (groups_are_fit b s);
    }
