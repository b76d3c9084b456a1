-- What the header of a relocatable object for x86-64 must say, by the gABI and the psABI.
use Rattle.std.specs.Prelude.{ℕ, Bool, not, ◌==◌, nat_lt, List, [], ◌∷◌, length, slice_index, find, Option}
use Rattle.std.specs.List.{common_prefix_len}
use Rattle.std.specs.Option.{option_map}
use Rattle.kl_elf.specs.declared.head.HeadFault.{HeadFault}
use Rattle.kl_elf.specs.declared.head.HeadFault.TheVariants.{Truncated, Magic, IdentClass, IdentOrder, IdentVersion, FileType, Machine, FileVersion, HeadSize, SectionSize}
use Rattle.kl_elf.specs.declared.abi.TheConstants.{EI_CLASS, EI_DATA, EI_VERSION, ELFCLASS64, ELFDATA2LSB, ELFMAG, EM_X86_64, ET_REL, EV_CURRENT}
use Rattle.kl_elf.specs.declared.records.TheConstants.Ehdr as ehdr
use Rattle.kl_elf.specs.declared.records.TheConstants.Shdr as shdr
use Rattle.kl_elf.specs.Records.{ehdr_at}

-- how many of the first bytes are those of the magic
abbrev pub magic_len : List ℕ → ℕ
magic_len b = common_prefix_len (λ x y. x == y) ELFMAG b

-- the faults of a header, in the order in which they are told
abbrev pub head_faults : List HeadFault
head_faults = Truncated ∷ Magic ∷ IdentClass ∷ IdentOrder ∷ IdentVersion ∷ FileType ∷ Machine ∷ FileVersion ∷ HeadSize ∷ SectionSize ∷ []

-- whether a fault stands in the header at the start of b
abbrev pub stands : List ℕ → HeadFault → Bool
stands b Truncated = nat_lt (length b) ehdr.SIZE
stands b Magic = nat_lt (magic_len (ehdr_at b 0).ident) (length ELFMAG)
stands b IdentClass = not (slice_index (ehdr_at b 0).ident EI_CLASS == ELFCLASS64)
stands b IdentOrder = not (slice_index (ehdr_at b 0).ident EI_DATA == ELFDATA2LSB)
stands b IdentVersion = not (slice_index (ehdr_at b 0).ident EI_VERSION == EV_CURRENT)
stands b FileType = not ((ehdr_at b 0).kind == ET_REL)
stands b Machine = not ((ehdr_at b 0).machine == EM_X86_64)
stands b FileVersion = not ((ehdr_at b 0).version == EV_CURRENT)
stands b HeadSize = not ((ehdr_at b 0).ehsize == ehdr.SIZE)
stands b SectionSize = not ((ehdr_at b 0).shentsize == shdr.SIZE)

-- the place of a fault: the file's length, the first byte that differs, or the place of the field
abbrev pub place : List ℕ → HeadFault → ℕ
place b Truncated = length b
place b Magic = magic_len (ehdr_at b 0).ident
place b IdentClass = EI_CLASS
place b IdentOrder = EI_DATA
place b IdentVersion = EI_VERSION
place b FileType = ehdr.E_TYPE
place b Machine = ehdr.E_MACHINE
place b FileVersion = ehdr.E_VERSION
place b HeadSize = ehdr.E_EHSIZE
place b SectionSize = ehdr.E_SHENTSIZE

-- the first fault that stands, with its place
abbrev pub head_fault : List ℕ → Option (HeadFault × ℕ)
head_fault b = option_map (λ fault. (fault, place b fault)) (find (stands b) head_faults)
