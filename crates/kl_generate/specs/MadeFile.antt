-- The objects of a kit that is made to be linked, each as a file (gABI, "Object Files").
use Rattle.std.specs.Prelude.{ℕ, ◌+◌, ◌-◌, ◌*◌, ◌^◌, pos, negsuc, List, [], ◌∷◌, ◌++◌, length, flat_map, replicate, codes}
use Rattle.kl_elf.specs.declared.records.Shdr.{Shdr}
use Rattle.kl_elf.specs.declared.records.Sym.{Sym}
use Rattle.kl_elf.specs.declared.records.Rela.{Rela}
use Rattle.kl_model.specs.Written.{ehdr_bytes, shdr_bytes, sym_bytes, rela_bytes}
use Rattle.kl_draw.specs.GapFile.{bytes_section, null_section, relocatable_head}
use Rattle.kl_generate.specs.Made.{callee, made_name, text_size}
use Rattle.kl_elf.specs.declared.abi.TheConstants.{R_X86_64_64, R_X86_64_PLT32, SHF_ALLOC, SHF_EXECINSTR, SHF_INFO_LINK, SHF_WRITE, SHN_UNDEF, SHT_PROGBITS, SHT_RELA, SHT_STRTAB, SHT_SYMTAB, STB_GLOBAL, STT_FUNC, STT_NOTYPE, STV_DEFAULT}
use Rattle.kl_elf.specs.declared.records.TheConstants.Ehdr as ehdr
use Rattle.kl_elf.specs.declared.records.TheConstants.Rela as rela
use Rattle.kl_elf.specs.declared.records.TheConstants.Shdr as shdr
use Rattle.kl_elf.specs.declared.records.TheConstants.Sym as sym
use Rattle.kl_model.specs.declared.area.TheConstants as area
use Rattle.kl_generate.specs.declared.object.TheConstants as made

-- the text of object k: a call whose distance is a field, no operations, and a return
abbrev pub text : ℕ → List ℕ
text k = made.CALL ∷ replicate 4 0 ++ (replicate (text_size k - 6) area.NOP ++ made.RETURN ∷ [])

-- its data, one field
abbrev pub data_size : ℕ
data_size = 8

-- the names of its symbols, each ended by a zero byte
abbrev pub strings : ℕ → ℕ → List ℕ
strings n k = 0 ∷ (made_name k ++ (0 ∷ (made_name (callee n k) ++ 0 ∷ [])))

-- the names of its sections, each ended by a zero byte, and zero bytes up to 64
abbrev pub section_names : List ℕ
section_names =
    0 ∷ codes ".text" ++ 0 ∷ codes ".data" ++ 0 ∷ codes ".rela.text" ++ 0 ∷ codes ".rela.data" ++ 0 ∷ codes ".symtab" ++ 0 ∷ codes ".strtab" ++ 0 ∷ codes ".shstrtab"
    ++ 0 ∷ []

abbrev pub padding : List ℕ
padding = replicate 3 0

abbrev pub names_room : ℕ
names_room = 64

-- the places of its parts, behind the header and the text
abbrev pub data_place : ℕ → ℕ
data_place k = ehdr.SIZE + text_size k

abbrev pub text_entries_place : ℕ → ℕ
text_entries_place k = data_place k + data_size

abbrev pub data_entries_place : ℕ → ℕ
data_entries_place k = text_entries_place k + rela.SIZE

abbrev pub symbols_place : ℕ → ℕ
symbols_place k = data_entries_place k + rela.SIZE

abbrev pub names_place : ℕ → ℕ
names_place k = symbols_place k + sym.SIZE * 3

abbrev pub headers_place : ℕ → ℕ
headers_place k = names_place k + names_room

abbrev pub strings_place : ℕ → ℕ
strings_place k = headers_place k + shdr.SIZE * 8

-- of a section of one relocation entry, which changes a section
abbrev pub entry_section : ℕ → ℕ → ℕ → Shdr
entry_section name place changes =
    record (bytes_section name SHT_RELA SHF_INFO_LINK place rela.SIZE 8) { link = 5; info = changes; entsize = rela.SIZE }

-- the headers of the sections `.text`, `.data`, `.rela.text`, `.rela.data`, `.symtab`, `.strtab`, by its size, and `.shstrtab`, which have
-- the numbers from 1 to 7; the first symbol alone is LOCAL
abbrev pub text_section : ℕ → Shdr
text_section k = bytes_section 1 SHT_PROGBITS (SHF_ALLOC + SHF_EXECINSTR) ehdr.SIZE (text_size k) 16

abbrev pub data_section : ℕ → Shdr
data_section k = bytes_section 7 SHT_PROGBITS (SHF_ALLOC + SHF_WRITE) (data_place k) data_size 8

abbrev pub text_entries_section : ℕ → Shdr
text_entries_section k = entry_section 13 (text_entries_place k) 1

abbrev pub data_entries_section : ℕ → Shdr
data_entries_section k = entry_section 24 (data_entries_place k) 2

abbrev pub symbol_section : ℕ → Shdr
symbol_section place = record (bytes_section 35 SHT_SYMTAB 0 place (sym.SIZE * 3) 8) { link = 6; info = 1; entsize = sym.SIZE }

abbrev pub symbols_section : ℕ → Shdr
symbols_section k = symbol_section (symbols_place k)

abbrev pub strings_section : ℕ → ℕ → Shdr
strings_section size k = bytes_section 43 SHT_STRTAB 0 (strings_place k) size 1

abbrev pub names_section : ℕ → Shdr
names_section k = bytes_section 51 SHT_STRTAB 0 (names_place k) (length section_names) 1

abbrev pub sections_from_one : ℕ → ℕ → List Shdr
sections_from_one size k =
    text_section k ∷ data_section k ∷ text_entries_section k ∷ data_entries_section k ∷ symbols_section k ∷ strings_section size k ∷ names_section k ∷ []

-- its own symbol, the function at the start of its text, and that of the callee, which counts as undefined
abbrev pub own_symbol : ℕ → Sym
own_symbol k = record { name = 1; info = STB_GLOBAL * 16 + STT_FUNC; other = STV_DEFAULT; shndx = 1; value = 0; size = text_size k }

abbrev pub undefined_symbol : ℕ → Sym
undefined_symbol name = record { name = name; info = STB_GLOBAL * 16 + STT_NOTYPE; other = STV_DEFAULT; shndx = SHN_UNDEF; value = 0; size = 0 }

abbrev pub callee_name : ℕ → ℕ
callee_name k = 2 + length (made_name k)

abbrev pub callee_symbol : ℕ → Sym
callee_symbol k = undefined_symbol (callee_name k)

-- the symbols of object k, from the null symbol on, by the place of the callee's name
abbrev pub symbols_bytes : ℕ → ℕ → List ℕ
symbols_bytes k name = replicate sym.SIZE 0 ++ (sym_bytes (own_symbol k) ++ sym_bytes (undefined_symbol name))

-- the call's distance to the callee, symbol 2, from the end of the call; and the address of its own function, symbol 1
abbrev pub text_entry : Rela
text_entry = record { offset = 1; info = 2 * 2 ^ 32 + R_X86_64_PLT32; addend = negsuc 3 }

abbrev pub data_entry : Rela
data_entry = record { offset = 0; info = 1 * 2 ^ 32 + R_X86_64_64; addend = pos 0 }

-- what stands between the header and the section headers
abbrev pub contents : ℕ → List ℕ
contents k =
    text k ++ (replicate data_size 0 ++ (rela_bytes text_entry ++ (rela_bytes data_entry ++ (symbols_bytes k (callee_name k)
    ++ (section_names ++ padding)))))

-- THE FILE of object k of n
unfoldable pub made_file : ℕ → ℕ → List ℕ
made_file n k =
    ehdr_bytes (relocatable_head (headers_place k) 8 7)
    ++ (contents k ++ (flat_map shdr_bytes (null_section ∷ sections_from_one (length (strings n k)) k) ++ strings n k))
