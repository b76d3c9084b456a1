-- The relocation entries of an object (gABI, "Relocation").
use Rattle.std.specs.Prelude.{ℕ, ◌+◌, ◌-◌, ◌*◌, ◌/◌, ◌%◌, ◌^◌, Bool, if◌then◌else◌, not, ◌&&◌, ◌||◌, ◌==◌, nat_lt, nat_le, List, [], ◌∷◌, ◌++◌, map, flat_map, Option, None}
use Rattle.std.specs.List.{list_any, range_with_len}
use Rattle.kl_elf.specs.Records.{rela_at}
use Rattle.kl_elf.specs.declared.records.Shdr.{Shdr}
use Rattle.kl_elf.specs.declared.records.Rela.{Rela}
use Rattle.kl_model.specs.Relocations.{width}
use Rattle.kl_model.specs.declared.object.RawField.{RawField}
use Rattle.kl_rel.specs.Flaws.{flaw_if, first_of}
use Rattle.kl_rel.specs.Headers.{head, header_place, section, numbers, is_symbol_table}
use Rattle.kl_rel.specs.Sections.{is_allocated}
use Rattle.kl_rel.specs.SymbolTables.{symbol_count}
use Rattle.kl_rel.specs.declared.fault.ReadFault.{ReadFault}
use Rattle.kl_rel.specs.declared.fault.ReadKind.TheVariants.{RelaLink, RelaKindForm, RelaPlace, FieldOverlap}
use Rattle.kl_elf.specs.declared.abi.TheConstants.{SHT_NOBITS, SHT_REL, SHT_RELA}
use Rattle.kl_elf.specs.declared.records.TheConstants.Shdr as shdr
use Rattle.kl_elf.specs.declared.records.TheConstants.Rela as rela

abbrev pub is_rela : Shdr → Bool
is_rela s = s.kind == SHT_RELA

abbrev pub is_rel : Shdr → Bool
is_rel s = s.kind == SHT_REL

-- entries that are read: those of a SHT_RELA for an allocated section; sh_info is the section that they change
abbrev pub is_read : List ℕ → Shdr → Bool
is_read b s = is_rela s && is_allocated (section b s.info)

-- a relocation section: the section that it changes, its symbol table, and the size of its entries
unfoldable pub rela_checks : List ℕ → ℕ → Shdr → List (Option ReadFault)
rela_checks b place s =
    flaw_if ((is_rela s || is_rel s) && nat_le (head b).shnum s.info) RelaLink (place + shdr.SH_INFO)
    ∷ flaw_if (is_rel s && is_allocated (section b s.info)) RelaKindForm (place + shdr.SH_TYPE)
    ∷ flaw_if (is_read b s && ((section b s.info).kind == SHT_NOBITS)) RelaLink (place + shdr.SH_INFO)
    ∷ flaw_if (is_read b s && not (is_symbol_table (section b s.link))) RelaLink (place + shdr.SH_LINK)
    ∷ flaw_if (is_read b s && not (s.entsize == rela.SIZE)) RelaLink (place + shdr.SH_ENTSIZE)
    ∷ flaw_if (is_read b s && not (s.size % rela.SIZE == 0)) RelaLink (place + shdr.SH_SIZE) ∷ []

-- entry k of section n
abbrev pub entry_place : List ℕ → ℕ → ℕ → ℕ
entry_place b n k = (section b n).offset + rela.SIZE * k

-- an entry as it is listed: the symbol's number is the upper half of r_info, the type the lower
abbrev pub listed_field : ℕ → ℕ → ℕ → Rela → RawField
listed_field n k changes r = record {
  rela = n;
  index = k;
  section = changes;
  offset = r.offset;
  kind = r.info % 2 ^ 32;
  symbol = r.info / 2 ^ 32;
  addend = r.addend;
}

abbrev pub field_of : List ℕ → ℕ → ℕ → RawField
field_of b n k = listed_field n k (section b n).info (rela_at b (entry_place b n k))

-- the fields of section n, and those of all entries before entry k of it
unfoldable pub fields_of : List ℕ → ℕ → List RawField
fields_of b n = if is_read b (section b n) then map (field_of b n) (range_with_len 0 ((section b n).size / rela.SIZE)) else []

unfoldable pub fields_before : List ℕ → ℕ → ℕ → List RawField
fields_before b n k = flat_map (fields_of b) (range_with_len 1 (n - 1)) ++ map (field_of b n) (range_with_len 0 k)

-- a byte of a section is one of a field's
abbrev pub is_byte_of : ℕ → ℕ → RawField → Bool
is_byte_of s x f = (f.section == s) && nat_le f.offset x && nat_lt x (f.offset + width f.kind)

-- or one of several fields'
abbrev pub is_taken : List RawField → ℕ → ℕ → Bool
is_taken fields s x = list_any (is_byte_of s x) fields

-- a field shares a byte with one of these
abbrev pub shares_byte : List RawField → RawField → Bool
shares_byte fields f = list_any (is_taken fields f.section) (range_with_len f.offset (width f.kind))

-- an entry: its symbol, its field in a section of this size, and the fields of the entries before it
unfoldable pub entry_checks : ℕ → ℕ → List RawField → ℕ → RawField → List (Option ReadFault)
entry_checks symbols size before place f =
    flaw_if (nat_le symbols f.symbol) RelaLink (place + rela.R_INFO)
    ∷ flaw_if (nat_lt size (f.offset + width f.kind)) RelaPlace place
    ∷ flaw_if (shares_byte before f) FieldOverlap place ∷ []

abbrev pub entry_flaw_of : List ℕ → ℕ → ℕ → Option ReadFault
entry_flaw_of b n k =
    first_of (entry_checks (symbol_count b) (section b (section b n).info).size (fields_before b n k) (entry_place b n k) (field_of b n k))

unfoldable pub entries_flaw : List ℕ → ℕ → Option ReadFault
entries_flaw b n = first_of (map (entry_flaw_of b n) (range_with_len 0 ((section b n).size / rela.SIZE)))

abbrev pub rela_flaw_of : List ℕ → ℕ → Option ReadFault
rela_flaw_of b n = first_of (first_of (rela_checks b (header_place b n) (section b n)) ∷ (if is_read b (section b n) then entries_flaw b n else None) ∷ [])

unfoldable pub relocations_flaw : List ℕ → Option ReadFault
relocations_flaw b = first_of (map (rela_flaw_of b) (numbers b))

-- the fields of an object, by section and entry
unfoldable pub fields_in : List ℕ → List RawField
fields_in b = flat_map (fields_of b) (numbers b)
