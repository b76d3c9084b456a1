-- The symbol table of an object (gABI, "Symbol Table").
use Rattle.std.specs.Prelude.{ℕ, ◌+◌, ◌-◌, ◌*◌, ◌/◌, ◌%◌, ◌≤◌, ◌≡◌, Bool, true, if◌then◌else◌, not, ◌&&◌, ◌||◌, ◌==◌, nat_lt, nat_le, List, [], ◌∷◌, map, filter, length, Option, Some, None, unwrap_or, is_none, slice_get}
use Rattle.std.specs.Option.{option_map}
use Rattle.std.specs.List.{range_with_len}
use Rattle.kl_base.specs.declared.class.Range.{Range}
use Rattle.kl_elf.specs.Records.{sym_at}
use Rattle.kl_elf.specs.declared.records.Shdr.{Shdr}
use Rattle.kl_elf.specs.declared.records.Sym.{Sym}
use Rattle.kl_model.specs.Kept.{no_symbol}
use Rattle.kl_model.specs.declared.object.Symbol.{Symbol}
use Rattle.kl_rel.specs.Flaws.{flaw_if, first_of}
use Rattle.kl_rel.specs.Headers.{head, header_place, section, numbers, is_symbol_table, is_string_table, string_in}
use Rattle.kl_rel.specs.Sections.{no_name, is_alignment, is_too_large}
use Rattle.kl_rel.specs.declared.fault.Feature.TheVariants.{Extended, Tls, Binding, Ifunc, SymbolType}
use Rattle.kl_rel.specs.declared.fault.ReadFault.{ReadFault}
use Rattle.kl_rel.specs.declared.fault.ReadKind.TheVariants.{Unsupported, NameRange, Align, SymbolTable, SymbolSection}
use Rattle.kl_rel.specs.declared.symbol.SymbolTable.{SymbolTable as Table}
use Rattle.kl_elf.specs.declared.abi.TheConstants.{SHN_ABS, SHN_COMMON, SHN_LORESERVE, SHN_UNDEF, SHN_XINDEX, STB_LOCAL, STB_WEAK, STT_COMMON, STT_GNU_IFUNC, STT_TLS}
use Rattle.kl_elf.specs.declared.records.TheConstants.Shdr as shdr
use Rattle.kl_elf.specs.declared.records.TheConstants.Sym as sym

-- the numbers of the sections of type SHT_SYMTAB, in order
unfoldable pub symbol_tables : List ℕ → List ℕ
symbol_tables b = filter (λ n. is_symbol_table (section b n)) (numbers b)

-- the symbol table is the first; an object without one has the null header for it, and so no symbols
abbrev pub table_number : List ℕ → ℕ
table_number b = unwrap_or (slice_get (symbol_tables b) 0) 0

unfoldable pub symbol_table : List ℕ → Shdr
symbol_table b = section b (table_number b)

-- how many symbols there are, and the string table of their names
abbrev pub symbol_count : List ℕ → ℕ
symbol_count b = (symbol_table b).size / sym.SIZE

abbrev pub strings : List ℕ → Shdr
strings b = section b (symbol_table b).link

-- an object has one symbol table
abbrev pub second_table_flaw : List ℕ → Option ReadFault
second_table_flaw b = option_map (λ n. record { kind = SymbolTable; at = header_place b n + shdr.SH_TYPE }) (slice_get (symbol_tables b) 1)

-- its size, the size of an entry, its string table, and how many of its symbols are LOCAL, from number 0 on
unfoldable pub table_form_checks : List ℕ → ℕ → Shdr → List (Option ReadFault)
table_form_checks b place s =
    flaw_if ((s.size == 0) || not (s.size % sym.SIZE == 0)) SymbolTable (place + shdr.SH_SIZE)
    ∷ flaw_if (not (s.entsize == sym.SIZE)) SymbolTable (place + shdr.SH_ENTSIZE)
    ∷ flaw_if (not (is_string_table (section b s.link))) SymbolTable (place + shdr.SH_LINK)
    ∷ flaw_if ((s.info == 0) || nat_lt (s.size / sym.SIZE) s.info) SymbolTable (place + shdr.SH_INFO) ∷ []

-- there is no second symbol table, and the first has its form
unfoldable pub symbol_table_checks : List ℕ → List (Option ReadFault)
symbol_table_checks b =
    second_table_flaw b
    ∷ (if table_number b == 0 then None else first_of (table_form_checks b (header_place b (table_number b)) (symbol_table b))) ∷ []

-- the place of symbol k
abbrev pub symbol_place : List ℕ → ℕ → ℕ
symbol_place b k = (symbol_table b).offset + sym.SIZE * k

-- the halves of st_info and the visibility in st_other
abbrev pub binding : Sym → ℕ
binding y = y.info / 16

abbrev pub kind : Sym → ℕ
kind y = y.info % 16

abbrev pub visibility : Sym → ℕ
visibility y = y.other % 4

abbrev pub is_local : Sym → Bool
is_local y = binding y == STB_LOCAL

-- numbers from SHN_LORESERVE on are no section's
abbrev pub is_undefined : Sym → Bool
is_undefined y = y.shndx == SHN_UNDEF

abbrev pub is_common : Sym → Bool
is_common y = y.shndx == SHN_COMMON

abbrev pub is_reserved : ℕ → Bool
is_reserved n = nat_le SHN_LORESERVE n

-- the number of a section of a file with so many, or of none, or a reserved one that is known
abbrev pub has_section : ℕ → Sym → Bool
has_section count y = if is_reserved y.shndx then (y.shndx == SHN_ABS) || is_common y else nat_lt y.shndx count

-- the number of a section, of those that a symbol can name
abbrev pub is_in_section : ℕ → Bool
is_in_section n = not (n == SHN_UNDEF) && not (is_reserved n)

-- a name that doesn't end in the string table, or an empty one of a symbol that isn't LOCAL
abbrev pub is_empty : Option Range → Bool
is_empty None = true
is_empty (Some r) = r.len == 0

abbrev pub is_unnamed : Option Range → Sym → Bool
is_unnamed name y = is_none name || (not (is_local y) && is_empty name)

-- the name, the order and the type of a symbol: LOCAL ones stand first, and STT_COMMON is the last type that is linked
unfoldable pub symbol_form_checks : Option Range → Bool → ℕ → Sym → List (Option ReadFault)
symbol_form_checks name first place y =
    flaw_if (is_unnamed name y) NameRange place
    ∷ flaw_if (if first then not (is_local y) else is_local y) SymbolTable (place + sym.ST_INFO)
    ∷ flaw_if (nat_lt STB_WEAK (binding y)) (Unsupported Binding) (place + sym.ST_INFO)
    ∷ flaw_if (kind y == STT_TLS) (Unsupported Tls) (place + sym.ST_INFO)
    ∷ flaw_if (kind y == STT_GNU_IFUNC) (Unsupported Ifunc) (place + sym.ST_INFO)
    ∷ flaw_if (nat_lt STT_COMMON (kind y)) (Unsupported SymbolType) (place + sym.ST_INFO) ∷ []

-- the section, the value and the size of a symbol; a common symbol's value is its alignment
unfoldable pub symbol_place_checks : ℕ → ℕ → Sym → List (Option ReadFault)
symbol_place_checks count place y =
    flaw_if (y.shndx == SHN_XINDEX) (Unsupported Extended) (place + sym.ST_SHNDX)
    ∷ flaw_if (not (has_section count y)) SymbolSection (place + sym.ST_SHNDX)
    ∷ flaw_if (is_local y && (is_undefined y || is_common y)) SymbolSection (place + sym.ST_SHNDX)
    ∷ flaw_if (is_common y && not (is_alignment y.value)) Align (place + sym.ST_VALUE)
    ∷ flaw_if (is_in_section y.shndx && is_too_large y.value) SymbolSection (place + sym.ST_VALUE)
    ∷ flaw_if (is_common y && is_too_large y.size) SymbolSection (place + sym.ST_SIZE) ∷ []

-- as it is listed
abbrev pub listed_symbol : Option Range → Sym → Symbol
listed_symbol name y = record {
  name = unwrap_or name no_name;
  binding = binding y;
  kind = kind y;
  visibility = visibility y;
  section = y.shndx;
  value = y.value;
  size = y.size;
}

-- the symbol at a place, whose name stands in this string table
unfoldable pub symbol_in : List ℕ → Shdr → ℕ → Symbol
symbol_in b table place = listed_symbol (string_in b table (sym_at b place).name) (sym_at b place)

-- its checks in a file of so many sections; `first` says whether it stands before the end of the LOCAL symbols
unfoldable pub symbol_checks : List ℕ → ℕ → Shdr → Bool → ℕ → List (Option ReadFault)
symbol_checks b count table first place =
    first_of (symbol_form_checks (string_in b table (sym_at b place).name) first place (sym_at b place))
    ∷ first_of (symbol_place_checks count place (sym_at b place)) ∷ []

-- symbol k
abbrev pub symbol_flaw_of : List ℕ → ℕ → Option ReadFault
symbol_flaw_of b k = first_of (symbol_checks b (head b).shnum (strings b) (nat_lt k (symbol_table b).info) (symbol_place b k))

abbrev pub symbol_of : List ℕ → ℕ → Symbol
symbol_of b k = symbol_in b (strings b) (symbol_place b k)

abbrev pub symbol_numbers : List ℕ → List ℕ
symbol_numbers b = range_with_len 1 (symbol_count b - 1)

unfoldable pub symbols_flaw : List ℕ → Option ReadFault
symbols_flaw b = first_of (map (symbol_flaw_of b) (symbol_numbers b))

-- the symbols of an object, from number 0 on, which is all zero, whatever its bytes are
unfoldable pub symbols_in : List ℕ → List Symbol
symbols_in b = if symbol_count b == 0 then [] else no_symbol ∷ map (symbol_of b) (symbol_numbers b)

-- the table that a reader holds
pub record IsSymbolTable (b : List ℕ) (t : Table) : Type 0 where
  pub place : t.place ≡ (symbol_table b).offset
  pub count : t.count ≡ symbol_count b
  pub locals : t.locals ≡ (symbol_table b).info
  pub strings : t.strings ≡ (symbol_table b).link
  pub lies : t.place + sym.SIZE * t.count ≤ length b
