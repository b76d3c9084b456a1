-- The gap object of a kernel's kit, as a file: a relocatable object whose four sections are the gaps (gABI, "Object Files").
use Rattle.std.specs.Prelude.{ℕ, ◌+◌, List, [], ◌∷◌, ◌++◌, length, flat_map, replicate, codes}
use Rattle.kl_elf.specs.declared.records.Ehdr.{Ehdr}
use Rattle.kl_elf.specs.declared.records.Shdr.{Shdr}
use Rattle.kl_model.specs.Written.{ehdr_bytes, shdr_bytes}
use Rattle.kl_model.specs.declared.place.Gaps.{Gaps}
use Rattle.kl_elf.specs.declared.abi.TheConstants.{EM_X86_64, ET_REL, EV_CURRENT, IDENT, SHF_ALLOC, SHF_EXECINSTR, SHF_WRITE, SHT_NOBITS, SHT_NULL, SHT_PROGBITS, SHT_STRTAB}
use Rattle.kl_elf.specs.declared.records.TheConstants.Ehdr as ehdr
use Rattle.kl_elf.specs.declared.records.TheConstants.Shdr as shdr
use Rattle.kl_model.specs.declared.area.TheConstants as area

-- the empty name, and the names of the sections, each ended by a zero byte
abbrev pub section_names : List ℕ
section_names =
    0 ∷ codes ".text" ++ 0 ∷ codes ".rodata" ++ 0 ∷ codes ".data" ++ 0 ∷ codes ".bss" ++ 0 ∷ codes ".shstrtab" ++ 0 ∷ []

-- the places of the parts behind the text: rodata, data, the names, and the section headers, which stand at a multiple of 8
abbrev pub rodata_place : Gaps → ℕ
rodata_place z = ehdr.SIZE + z.text

abbrev pub rwdata_place : Gaps → ℕ
rwdata_place z = rodata_place z + z.rodata

abbrev pub names_place : Gaps → ℕ
names_place z = rwdata_place z + z.rwdata

abbrev pub padding : List ℕ
padding = replicate 4 0

abbrev pub headers_place : Gaps → ℕ
headers_place z = names_place z + (length section_names + length padding)

-- the section header that says nothing
abbrev pub null_section : Shdr
null_section = record { name = 0; kind = SHT_NULL; flags = 0; addr = 0; offset = 0; size = 0; link = 0; info = 0; addralign = 0; entsize = 0 }

-- the header of a section, by the place of its name, its type, its flags, its place, its size and its alignment
abbrev pub bytes_section : ℕ → ℕ → ℕ → ℕ → ℕ → ℕ → Shdr
bytes_section name kind flags place size align =
    record null_section { name = name; kind = kind; flags = flags; offset = place; size = size; addralign = align }

-- the headers of the sections `.text`, `.rodata`, `.data`, `.bss` and `.shstrtab`; `.bss` has no bytes in the file
abbrev pub gap_sections : Gaps → List Shdr
gap_sections z =
    null_section
    ∷ bytes_section 1 SHT_PROGBITS (SHF_ALLOC + SHF_EXECINSTR) ehdr.SIZE z.text 16
    ∷ bytes_section 7 SHT_PROGBITS SHF_ALLOC (rodata_place z) z.rodata 16
    ∷ bytes_section 15 SHT_PROGBITS (SHF_ALLOC + SHF_WRITE) (rwdata_place z) z.rwdata 16
    ∷ bytes_section 21 SHT_NOBITS (SHF_ALLOC + SHF_WRITE) (names_place z) z.bss 16
    ∷ bytes_section 26 SHT_STRTAB 0 (names_place z) (length section_names) 1 ∷ []

-- the file header of a relocatable object, by the place of its section headers, their number, and the number of their names' table
abbrev pub relocatable_head : ℕ → ℕ → ℕ → Ehdr
relocatable_head headers count names = record {
  ident = IDENT;
  kind = ET_REL;
  machine = EM_X86_64;
  version = EV_CURRENT;
  entry = 0;
  phoff = 0;
  shoff = headers;
  flags = 0;
  ehsize = ehdr.SIZE;
  phentsize = 0;
  phnum = 0;
  shentsize = shdr.SIZE;
  shnum = count;
  shstrndx = names;
}

-- THE GAP OBJECT: its text is the instruction `int3`, its rodata and data are zero, and it defines no symbol
unfoldable pub gap_file : Gaps → List ℕ
gap_file z =
    ehdr_bytes (relocatable_head (headers_place z) 6 5)
    ++ (replicate z.text area.INT3 ++ (replicate (z.rodata + z.rwdata) 0 ++ (section_names ++ (padding ++ flat_map shdr_bytes (gap_sections z)))))
