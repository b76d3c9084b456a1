-- What is read of a symbol table of three symbols, and of a relocation section of one entry, whose records are known.
use Rattle.std.proofs.Common.{ℕ, ◌≡◌, ◌+◌, ◌*◌, ◌∙◌, Bool, true, false, List, [], ◌∷◌, ◌++◌, length, refl, ap, sym, subst, arith}
use Rattle.std.specs.Prelude.{◌==◌, nat_le, nat_lt, map, Some, None, position}
use Rattle.std.specs.List.{position_or_len}
use Rattle.std.proofs.lemmas.Bool.Decides.{nat_tests}
use Rattle.std.proofs.lemmas.List.{length-append}
use Rattle.kl_base.specs.declared.class.Range.{Range}
use Rattle.kl_elf.specs.Records.{rela_at, sym_at}
use Rattle.kl_elf.specs.declared.records.Shdr.{Shdr}
use Rattle.kl_elf.specs.declared.records.Rela.{Rela}
use Rattle.kl_elf.specs.declared.records.Sym.{Sym}
use Rattle.kl_model.specs.Kept.{no_symbol}
use Rattle.kl_model.specs.Relocations.{width}
use Rattle.kl_model.specs.declared.object.RawField.{RawField}
use Rattle.kl_rel.specs.Flaws.{first_of}
use Rattle.kl_rel.specs.Headers.{head, is_symbol_table, section, string_in}
use Rattle.kl_rel.specs.Sections.{is_allocated}
use Rattle.kl_rel.specs.SymbolTables.{listed_symbol, symbol_checks, symbol_count, symbol_flaw_of, symbol_form_checks, symbol_in, symbol_numbers, symbol_of, symbol_place_checks, symbol_table, symbols_flaw, symbols_in}
use Rattle.kl_rel.specs.Relocations.{entries_flaw, entry_checks, entry_flaw_of, entry_place, field_of, fields_before, fields_of, listed_field, rela_checks, rela_flaw_of, shares_byte}
use Rattle.kl_elf.specs.declared.abi.TheConstants.{SHT_NOBITS, SHT_RELA}
use Rattle.kl_elf.specs.declared.records.TheConstants.Rela as rela
use Rattle.kl_elf.specs.declared.records.TheConstants.Sym as sym

-- a text without a zero byte ends before the first zero byte
abbrev pub HasNoZero : List ℕ → Type 0
HasNoZero [] = Unit {0}
HasNoZero (x ∷ xs) = ((x == 0) ≡ false) × HasNoZero xs

ends_before : (xs ys : List ℕ) → HasNoZero xs → position_or_len (λ c. c == 0) (xs ++ 0 ∷ ys) ≡ length xs
ends_before [] ys none = refl
ends_before (x ∷ xs) ys none = rw (none.0, ends_before xs ys none.1) (omega arith)

pub ended_text : (xs ys : List ℕ) → HasNoZero xs → position (λ c. c == 0) (xs ++ 0 ∷ ys) ≡ Some (length xs)
ended_text xs ys none =
    let inside : nat_lt (length xs) (length (xs ++ 0 ∷ ys)) ≡ true = rw (length-append xs (0 ∷ ys)) (grind (arith, nat_tests)) in
    rw (ends_before xs ys none, inside) refl

-- a symbol of known records
pub symbol_passes : (b : List ℕ) (count : ℕ) (strings : Shdr) (first : Bool) (place : ℕ) (y : Sym) (r : Range) → sym_at b place ≡ y
    → string_in b strings y.name ≡ Some r → first_of (symbol_form_checks (Some r) first place y) ≡ None → first_of (symbol_place_checks count place y) ≡ None
    → first_of (symbol_checks b count strings first place) ≡ None
unfolding symbol_checks
symbol_passes b count strings first place y r is name form stands =
    subst
    (λ (x : Sym). first_of (first_of (symbol_form_checks (string_in b strings x.name) first place x) ∷ first_of (symbol_place_checks count place x) ∷ []) ≡ None)
    (sym is) (rw (name, form, stands) refl)

pub symbol_listed : (b : List ℕ) (strings : Shdr) (place : ℕ) (y : Sym) (r : Range) → sym_at b place ≡ y → string_in b strings y.name ≡ Some r
    → symbol_in b strings place ≡ listed_symbol (Some r) y
unfolding symbol_in
symbol_listed b strings place y r is name =
    ap (λ (x : Sym). listed_symbol (string_in b strings x.name) x) is ∙ ap (λ x. listed_symbol x y) name

-- a table of three symbols
module _ (b : List ℕ) (table strings : Shdr) (is : symbol_table b ≡ table) (size : table.size ≡ 72) (link : section b table.link ≡ strings) where
  pub three_symbols : symbol_count b ≡ 3
  three_symbols = rw (is, size) refl

  numbers_are : symbol_numbers b ≡ 1 ∷ 2 ∷ []
  numbers_are = rw (is, size) refl

  flaw_of : (k : ℕ) → symbol_flaw_of b k ≡ first_of (symbol_checks b (head b).shnum strings (nat_lt k table.info) (table.offset + sym.SIZE * k))
  flaw_of k = rw (is, link) refl

  listed_of : (k : ℕ) → symbol_of b k ≡ symbol_in b strings (table.offset + sym.SIZE * k)
  listed_of k = rw (is, link) refl

  pub symbols_pass : first_of (symbol_checks b (head b).shnum strings (nat_lt 1 table.info) (table.offset + sym.SIZE * 1)) ≡ None
      → first_of (symbol_checks b (head b).shnum strings (nat_lt 2 table.info) (table.offset + sym.SIZE * 2)) ≡ None → symbols_flaw b ≡ None
  unfolding symbols_flaw
  symbols_pass one two =
      let first : symbol_flaw_of b 1 ≡ None = flaw_of 1 ∙ one in
      let second : symbol_flaw_of b 2 ≡ None = flaw_of 2 ∙ two in
      ap (λ ns. first_of (map (symbol_flaw_of b) ns)) numbers_are ∙ rw (first, second) refl

  pub symbols_listed : symbols_in b ≡ no_symbol ∷ symbol_in b strings (table.offset + sym.SIZE * 1) ∷ symbol_in b strings (table.offset + sym.SIZE * 2) ∷ []
  unfolding symbols_in
  symbols_listed = rw (is, size) (rw (listed_of 1, listed_of 2) refl)

-- a relocation section of one entry, for a section that is in memory
pub record IsEntrySection (b : List ℕ) (n : ℕ) (s changed : Shdr) (r : Rela) : Type 0 where
  pub is : section b n ≡ s
  pub kind : s.kind ≡ SHT_RELA
  pub known : nat_le (head b).shnum s.info ≡ false
  pub changes : section b s.info ≡ changed
  pub in_memory : is_allocated changed ≡ true
  pub has_bytes : (changed.kind == SHT_NOBITS) ≡ false
  pub symbols : is_symbol_table (section b s.link) ≡ true
  pub entsize : s.entsize ≡ rela.SIZE
  pub size : s.size ≡ rela.SIZE
  pub entry : rela_at b (s.offset + rela.SIZE * 0) ≡ r

module _ (b : List ℕ) (n : ℕ) (s changed : Shdr) (r : Rela) (e : IsEntrySection b n s changed r) where
  field_is : field_of b n 0 ≡ listed_field n 0 s.info r
  field_is = rw e.is (ap (λ (x : Rela). listed_field n 0 s.info x) e.entry)

  pub one_field : fields_of b n ≡ listed_field n 0 s.info r ∷ []
  unfolding fields_of
  one_field = rw (e.is, e.kind, e.changes, e.in_memory, e.size) (ap (λ (f : RawField). f ∷ []) field_is)

  entry_passes : (before : List RawField) → fields_before b n 0 ≡ before → nat_le (symbol_count b) (listed_field n 0 s.info r).symbol ≡ false
      → nat_lt changed.size (r.offset + width (listed_field n 0 s.info r).kind) ≡ false → shares_byte before (listed_field n 0 s.info r) ≡ false → entry_flaw_of b n 0 ≡ None
  unfolding entry_checks
  entry_passes before are symbol inside apart =
      subst
      (λ (f : RawField). first_of (entry_checks (symbol_count b) (section b (section b n).info).size (fields_before b n 0) (entry_place b n 0) f) ≡ None)
      (sym field_is) (rw (e.is, e.changes, are, symbol, inside, apart) refl)

  pub one_entry_passes : (before : List RawField) → fields_before b n 0 ≡ before → nat_le (symbol_count b) (listed_field n 0 s.info r).symbol ≡ false
      → nat_lt changed.size (r.offset + width (listed_field n 0 s.info r).kind) ≡ false → shares_byte before (listed_field n 0 s.info r) ≡ false → rela_flaw_of b n ≡ None
  unfolding rela_checks entries_flaw
  one_entry_passes before are symbol inside apart =
      rw (e.is, e.kind, e.known, e.changes, e.in_memory, e.has_bytes, e.symbols, e.entsize, e.size) (rw (entry_passes before are symbol inside apart) refl)
