-- The sections of an object (gABI, "Section Attribute Flags" and "Section Types").
use Rattle.std.specs.Prelude.{ℕ, ◌+◌, Bool, if◌then◌else◌, not, ◌&&◌, ◌||◌, ◌==◌, nat_lt, nat_le, List, [], ◌∷◌, map, codes, Option, Some, None, unwrap_or, is_none}
use Rattle.std.specs.Int.{is_power_of_two}
use Rattle.std.specs.List.{starts_with}
use Rattle.kl_base.specs.declared.class.Range.{Range}
use Rattle.kl_elf.specs.declared.records.Shdr.{Shdr}
use Rattle.kl_model.specs.Texts.{text_at, has}
use Rattle.kl_model.specs.declared.object.Section.{Section}
use Rattle.kl_rel.specs.Flaws.{flaw_if, first_of}
use Rattle.kl_rel.specs.Headers.{head, header_place, section, numbers, string_in}
use Rattle.kl_rel.specs.declared.fault.Feature.TheVariants.{Tls, Compressed, WriteExecute, SectionType, Priority}
use Rattle.kl_rel.specs.declared.fault.ReadFault.{ReadFault}
use Rattle.kl_rel.specs.declared.fault.ReadKind.TheVariants.{Unsupported, SectionRange, NameRange, Align}
use Rattle.kl_elf.specs.declared.abi.TheConstants.{SHF_ALLOC, SHF_COMPRESSED, SHF_EXECINSTR, SHF_TLS, SHF_WRITE, SHT_FINI_ARRAY, SHT_INIT_ARRAY, SHT_NOBITS, SHT_NOTE, SHT_NULL, SHT_PROGBITS, SHT_X86_64_UNWIND}
use Rattle.kl_elf.specs.declared.records.TheConstants.Shdr as shdr
use Rattle.kl_base.specs.declared.limits.TheConstants.{ALIGN_LIMIT, SIZE_LIMIT}

-- the empty range at 0
abbrev pub no_name : Range
no_name = record { at = 0; len = 0 }

-- the name of a section in the string table of section names; one of SHT_NULL has none
abbrev pub section_name : List ℕ → Shdr → Shdr → Option Range
section_name b table s = if s.kind == SHT_NULL then Some no_name else string_in b table s.name

-- SHF_ALLOC: the section is in memory when a program runs
abbrev pub is_allocated : Shdr → Bool
is_allocated s = has s.flags SHF_ALLOC

-- the types of an allocated section
abbrev pub is_linked_type : ℕ → Bool
is_linked_type kind =
    (kind == SHT_PROGBITS) || (kind == SHT_NOTE) || (kind == SHT_NOBITS) || (kind == SHT_INIT_ARRAY) || (kind == SHT_FINI_ARRAY)
    || (kind == SHT_X86_64_UNWIND)

-- constructors and destructors that run in an order of their own
abbrev pub begins : List ℕ → List ℕ → Bool
begins name start = starts_with (λ x y. x == y) name start

abbrev pub has_priority : List ℕ → Bool
has_priority name =
    begins name (codes ".init_array.") || begins name (codes ".fini_array.") || begins name (codes ".ctors.") || begins name (codes ".dtors.")

-- the limits of an alignment and of a size
abbrev pub is_alignment : ℕ → Bool
is_alignment n = is_power_of_two n && nat_le n ALIGN_LIMIT

abbrev pub is_too_large : ℕ → Bool
is_too_large n = nat_lt SIZE_LIMIT n

-- the flags of an allocated section
unfoldable pub flags_checks : ℕ → Shdr → List (Option ReadFault)
flags_checks place s =
    flaw_if (has s.flags SHF_TLS) (Unsupported Tls) (place + shdr.SH_FLAGS)
    ∷ flaw_if (has s.flags SHF_COMPRESSED) (Unsupported Compressed) (place + shdr.SH_FLAGS)
    ∷ flaw_if (has s.flags SHF_WRITE && has s.flags SHF_EXECINSTR) (Unsupported WriteExecute) (place + shdr.SH_FLAGS) ∷ []

-- the type, the name, the alignment and the size of an allocated section
unfoldable pub form_checks : List ℕ → ℕ → Range → Shdr → List (Option ReadFault)
form_checks b place name s =
    flaw_if (not (is_linked_type s.kind)) (Unsupported SectionType) (place + shdr.SH_TYPE)
    ∷ flaw_if (has_priority (text_at b name)) (Unsupported Priority) place
    ∷ flaw_if (not (s.addralign == 0) && not (is_alignment s.addralign)) Align (place + shdr.SH_ADDRALIGN)
    ∷ flaw_if (is_too_large s.size) SectionRange (place + shdr.SH_SIZE) ∷ []

-- a section whose header stands at a place
unfoldable pub section_checks : List ℕ → Shdr → ℕ → Shdr → List (Option ReadFault)
section_checks b table place s =
    flaw_if (is_none (section_name b table s)) NameRange place
    ∷ (if is_allocated s then first_of (flags_checks place s) else None)
    ∷ (if is_allocated s then first_of (form_checks b place (unwrap_or (section_name b table s) no_name) s) else None) ∷ []

-- as it is listed
unfoldable pub listed_section : List ℕ → Shdr → Shdr → Section
listed_section b table s = record {
  name = unwrap_or (section_name b table s) no_name;
  kind = s.kind;
  flags = s.flags;
  at = s.offset;
  size = s.size;
  align = s.addralign;
}

-- the string table of section names
abbrev pub names : List ℕ → Shdr
names b = section b (head b).shstrndx

-- section n
abbrev pub section_flaw_of : List ℕ → ℕ → Option ReadFault
section_flaw_of b n = first_of (section_checks b (names b) (header_place b n) (section b n))

abbrev pub section_of : List ℕ → ℕ → Section
section_of b n = listed_section b (names b) (section b n)

unfoldable pub sections_flaw : List ℕ → Option ReadFault
sections_flaw b = first_of (map (section_flaw_of b) (numbers b))

-- the sections of an object, from number 1 on
unfoldable pub sections_in : List ℕ → List Section
sections_in b = map (section_of b) (numbers b)
