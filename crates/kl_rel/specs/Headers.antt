-- The section headers of an object (gABI, "Sections").
use Rattle.std.specs.Prelude.{ℕ, ◌+◌, ◌-◌, ◌*◌, ◌≤◌, ◌<◌, ◌≡◌, Bool, if◌then◌else◌, not, ◌&&◌, ◌||◌, ◌==◌, nat_le, nat_lt, List, [], ◌∷◌, length, map, Option, slice_range, position}
use Rattle.std.specs.Option.{option_map}
use Rattle.std.specs.List.{range_with_len}
use Rattle.kl_base.specs.declared.class.Range.{Range}
use Rattle.kl_elf.specs.Heads.{head_fault}
use Rattle.kl_elf.specs.Records.{ehdr_at, shdr_at}
use Rattle.kl_elf.specs.declared.records.Ehdr.{Ehdr}
use Rattle.kl_elf.specs.declared.records.Shdr.{Shdr}
use Rattle.kl_rel.specs.Flaws.{flaw_if, first_of}
use Rattle.kl_rel.specs.declared.fault.Feature.TheVariants.{Extended}
use Rattle.kl_rel.specs.declared.fault.ReadFault.{ReadFault}
use Rattle.kl_rel.specs.declared.fault.ReadKind.TheVariants.{Head, Unsupported, SectionTable, SectionRange}
use Rattle.kl_rel.specs.declared.table.Table.{Table}
use Rattle.kl_elf.specs.declared.abi.TheConstants.{SHN_XINDEX, SHT_NOBITS, SHT_NULL, SHT_STRTAB, SHT_SYMTAB}
use Rattle.kl_elf.specs.declared.records.TheConstants.Ehdr as ehdr
use Rattle.kl_elf.specs.declared.records.TheConstants.Shdr as shdr

abbrev pub head : List ℕ → Ehdr
head b = ehdr_at b 0

-- SHT_NULL, all zero
abbrev pub null_header : Shdr
null_header = record { name = 0; kind = SHT_NULL; flags = 0; addr = 0; offset = 0; size = 0; link = 0; info = 0; addralign = 0; entsize = 0 }

-- the place of section header n
abbrev pub header_place : List ℕ → ℕ → ℕ
header_place b n = (head b).shoff + shdr.SIZE * n

-- the header of section n; number 0 is of type SHT_NULL and without flags, whatever its header holds, and so is a number that no
-- section has
unfoldable pub section : List ℕ → ℕ → Shdr
section b n = if (n == 0) || nat_le (head b).shnum n then null_header else shdr_at b (header_place b n)

-- the numbers of the sections, from 1 on
abbrev pub numbers : List ℕ → List ℕ
numbers b = range_with_len 1 ((head b).shnum - 1)

abbrev pub is_symbol_table : Shdr → Bool
is_symbol_table s = s.kind == SHT_SYMTAB

abbrev pub is_string_table : Shdr → Bool
is_string_table s = s.kind == SHT_STRTAB

-- a flaw of the file header
abbrev pub head_flaw : List ℕ → Option ReadFault
head_flaw b = option_map (λ f. record { kind = Head f.0; at = f.1 }) (head_fault b)

-- the section header table lies in the file, and its string table is one
unfoldable pub table_checks : List ℕ → List (Option ReadFault)
table_checks b =
    flaw_if (((head b).shnum == 0) && not ((head b).shoff == 0)) (Unsupported Extended) ehdr.E_SHNUM
    ∷ flaw_if ((head b).shstrndx == SHN_XINDEX) (Unsupported Extended) ehdr.E_SHSTRNDX
    ∷ flaw_if ((head b).shnum == 0) SectionTable ehdr.E_SHNUM
    ∷ flaw_if (nat_lt (length b) ((head b).shoff + shdr.SIZE * (head b).shnum)) SectionTable ehdr.E_SHOFF
    ∷ flaw_if (not (is_string_table (section b (head b).shstrndx))) SectionTable ehdr.E_SHSTRNDX ∷ []

-- the table that a reader holds
pub record IsTable (b : List ℕ) (t : Table) : Type 0 where
  pub place : t.place ≡ (head b).shoff
  pub count : t.count ≡ (head b).shnum
  pub names : t.names ≡ (head b).shstrndx
  pub some : 0 < t.count
  pub lies : t.place + shdr.SIZE * t.count ≤ length b

-- a section has bytes in the file, but one of SHT_NULL or SHT_NOBITS
abbrev pub has_bytes : Shdr → Bool
has_bytes s = not (s.kind == SHT_NULL) && not (s.kind == SHT_NOBITS)

-- the bytes of a section, whose header stands at this place, lie in the file
unfoldable pub range_flaw : List ℕ → ℕ → Shdr → Option ReadFault
range_flaw b place s = flaw_if (has_bytes s && nat_lt (length b) (s.offset + s.size)) SectionRange (place + shdr.SH_OFFSET)

-- of section n
abbrev pub range_flaw_of : List ℕ → ℕ → Option ReadFault
range_flaw_of b n = range_flaw b (header_place b n) (section b n)

-- the first section whose bytes don't
unfoldable pub ranges_flaw : List ℕ → Option ReadFault
ranges_flaw b = first_of (map (range_flaw_of b) (numbers b))

-- the text that begins at a place of a string table, as a place in the file: a zero byte of the table ends it
unfoldable pub string_in : List ℕ → Shdr → ℕ → Option Range
string_in b table place =
    option_map (λ len. record { at = table.offset + place; len = len })
    (position (λ c. c == 0) (slice_range b (table.offset + place) (table.offset + table.size)))
