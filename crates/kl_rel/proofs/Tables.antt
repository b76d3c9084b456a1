-- The symbol table of a file whose sections lie in it.
use Rattle.std.proofs.Common.{ℕ, ◌≡◌, ◌+◌, ◌*◌, ◌/◌, ◌<◌, ◌≤◌, Bool, true, false, cond, not, List, [], ◌∷◌, length, refl, sym, arith, eqb-true}
use Rattle.std.specs.Prelude.{filter, Option, Some, None, ◌==◌, unwrap_or, slice_get}
use Rattle.std.specs.Option.{option_or}
use Rattle.kl_rel.specs.Flaws.{first_of}
use Rattle.kl_rel.specs.Headers.{head, header_place, section, numbers, null_header, is_symbol_table, is_string_table, ranges_flaw}
use Rattle.kl_rel.specs.SymbolTables.{symbol_tables, table_number, symbol_table, symbol_count, strings, second_table_flaw, symbol_table_checks, table_form_checks}
use Rattle.kl_rel.specs.declared.fault.ReadFault.{ReadFault}
use Rattle.kl_rel.specs.declared.fault.ReadKind.TheVariants.{SymbolTable}
use Rattle.kl_rel.proofs.Places.{section_of_type, section_where, none_in, not_stands, not_false}
use Rattle.kl_elf.specs.declared.records.TheConstants.Sym as sym

-- the first that passes a test passes it
first_passes_it : (p : ℕ → Bool) (xs : List ℕ) (n : ℕ) → slice_get (filter p xs) 0 ≡ Some n → p n ≡ true
first_passes_it p [] n e = cc
first_passes_it p (x ∷ xs) n e = go (p x) refl e (first_passes_it p xs n)
  where
    go : (y : Bool) → p x ≡ y → slice_get (cond y (x ∷ filter p xs) (filter p xs)) 0 ≡ Some n → (slice_get (filter p xs) 0 ≡ Some n → p n ≡ true) → p n ≡ true
    go true is e rest = let at : x ≡ n = cc in rw (← at) is
    go false is e rest = rest e

-- the symbol table, where there is one, is of type SHT_SYMTAB
pub table_kind : (b : List ℕ) → (table_number b == 0) ≡ false → (section b (table_number b)).kind ≡ 2
unfolding symbol_tables
table_kind b e = go (slice_get (symbol_tables b) 0) refl e
  where
    go : (o : Option ℕ) → slice_get (symbol_tables b) 0 ≡ o → (unwrap_or o 0 == 0) ≡ false → (section b (unwrap_or o 0)).kind ≡ 2
    go None at e = cc
    go (Some n) at e = eqb-true (section b n).kind 2 (first_passes_it (λ n. is_symbol_table (section b n)) (numbers b) n at)

pub table_here : (b : List ℕ) → (table_number b == 0) ≡ false → table_number b < (head b).shnum
table_here b e =
    let kind = table_kind b e in
    let here = section_where b (table_number b) is_symbol_table refl (rw kind refl) in
    here.high

-- section 0 has the null header
pub section_zero : (b : List ℕ) → section b 0 ≡ null_header
unfolding section
section_zero b = refl

-- the symbols lie in the file
pub table_lies : (b : List ℕ) → ranges_flaw b ≡ None → (symbol_table b).offset + sym.SIZE * symbol_count b ≤ length b
unfolding symbol_table
table_lies b e = go (table_number b == 0) refl
  where
    go : (x : Bool) → (table_number b == 0) ≡ x → (section b (table_number b)).offset + sym.SIZE * ((section b (table_number b)).size / sym.SIZE) ≤ length b
    go true none =
        let at : table_number b ≡ 0 = eqb-true (table_number b) 0 none in
        rw (at, section_zero b) (omega arith)
    go false there =
        let lies = section_of_type b (table_number b) 2 e (table_kind b there) refl in
        omega (arith, lies)

-- the flaw of the symbol table, where there is no second one
only : (x : Option ReadFault) → option_or x None ≡ x
only None = refl
only (Some f) = refl

pub flaw_second : (b : List ℕ) (f : ReadFault) → Some f ≡ second_table_flaw b → Some f ≡ first_of (symbol_table_checks b)
unfolding symbol_table_checks
flaw_second b f e = rw (← e) refl

pub flaw_form : (b : List ℕ) → None ≡ second_table_flaw b → (table_number b == 0) ≡ false → first_of (symbol_table_checks b) ≡ first_of (table_form_checks b (header_place b (table_number b)) (symbol_table b))
unfolding symbol_table_checks
flaw_form b e there = rw (← e, there) (only (first_of (table_form_checks b (header_place b (table_number b)) (symbol_table b))))

pub flaw_none : (b : List ℕ) → None ≡ second_table_flaw b → (table_number b == 0) ≡ true → first_of (symbol_table_checks b) ≡ None
unfolding symbol_table_checks
flaw_none b e none = rw (← e, none) refl

-- the string table of the symbols' names is one, and lies in the file
pub strings_lie : (b : List ℕ) → ranges_flaw b ≡ None → first_of (symbol_table_checks b) ≡ None → (symbol_count b == 0) ≡ false → (strings b).offset + (strings b).size ≤ length b
unfolding symbol_table_checks table_form_checks symbol_table
strings_lie b e form some = go (table_number b == 0) refl
  where
    go : (x : Bool) → (table_number b == 0) ≡ x → (strings b).offset + (strings b).size ≤ length b
    go true none =
        let at : table_number b ≡ 0 = eqb-true (table_number b) 0 none in
        let zero_count = rw (at, section_zero b) at some in
        cc
    go false there =
        let second = none_in (symbol_table_checks b) 0 form in
        let same = flaw_form b (sym second) there in
        let checks = rw same at form in
        let kind = not_stands (not (is_string_table (strings b))) SymbolTable (header_place b (table_number b) + 40) (none_in (table_form_checks b (header_place b (table_number b)) (symbol_table b)) 2 checks) in
        section_of_type b (symbol_table b).link 3 e (eqb-true (strings b).kind 3 (not_false (is_string_table (strings b)) kind)) refl
