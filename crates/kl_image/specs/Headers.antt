-- The flaws of an image's file header and of its program headers (gABI, "ELF Header", "Program Header").
use Rattle.std.specs.Prelude.{ℕ, ◌+◌, ◌*◌, ◌%◌, Bool, not, ◌&&◌, ◌||◌, ◌==◌, nat_lt, List, ◌++◌, take, length, max, min}
use Rattle.std.specs.Str.{bytes_eq}
use Rattle.std.specs.Int.{is_power_of_two}
use Rattle.std.specs.List.{list_any}
use Rattle.kl_elf.specs.Records.{ehdr_at}
use Rattle.kl_elf.specs.declared.records.Ehdr.{Ehdr}
use Rattle.kl_elf.specs.declared.records.Phdr.{Phdr}
use Rattle.kl_elf.specs.declared.abi.TheConstants.{EI_VERSION, EM_X86_64, ET_DYN, ET_EXEC, EV_CURRENT, IDENT, PT_LOAD}
use Rattle.kl_elf.specs.declared.records.TheConstants.Ehdr as ehdr
use Rattle.kl_elf.specs.declared.records.TheConstants.Phdr as phdr
use Rattle.kl_model.specs.Lists.{each, only_if}
use Rattle.kl_model.specs.Memory.{segments}
use Rattle.kl_image.specs.declared.header.TheConstants.{E_PHENTSIZE, E_PHOFF}
use Rattle.kl_image.specs.declared.fault.ImageFault.{ImageFault}
use Rattle.kl_image.specs.declared.fault.ImageFault.TheVariants.{Head, Segment}

-- the ident up to its version is that of a file of 64 bits for a machine with the low byte first
abbrev pub has_ident : Ehdr → Bool
has_ident h = bytes_eq (take (EI_VERSION + 1) h.ident) (take (EI_VERSION + 1) IDENT)

-- the flaws of the fields of a file header, with their places
unfoldable pub field_flaws : List ℕ → Ehdr → List ImageFault
field_flaws b h =
    only_if (not (has_ident h)) (Head 0)
    ++ only_if (not (h.machine == EM_X86_64)) (Head ehdr.E_MACHINE)
    ++ only_if (not (h.version == EV_CURRENT)) (Head ehdr.E_VERSION)
    ++ only_if (not (h.ehsize == ehdr.SIZE)) (Head ehdr.E_EHSIZE)
    ++ only_if (not (h.phentsize == phdr.SIZE)) (Head E_PHENTSIZE)
    ++ only_if (not (h.kind == ET_EXEC) && not (h.kind == ET_DYN)) (Head ehdr.E_TYPE)
    ++ only_if (nat_lt (length b) (h.phoff + phdr.SIZE * h.phnum)) (Head E_PHOFF)

-- a file without a whole header is told by its length
abbrev pub head_flaws : List ℕ → List ImageFault
head_flaws b = only_if (nat_lt (length b) ehdr.SIZE) (Head (length b)) ++ field_flaws b (ehdr_at b 0)

-- the bytes of a segment, if it has some in the file, pass the file's end
abbrev pub has_bytes_outside : List ℕ → Phdr → Bool
has_bytes_outside b s = not (s.filesz == 0) && nat_lt (length b) (s.offset + s.filesz)

-- a program header is wrong by itself: its bytes pass the file's end or are more than its memory, its alignment is no power of two, or
-- its address and its offset differ modulo its alignment
abbrev pub is_damaged : List ℕ → Phdr → Bool
is_damaged b s =
    has_bytes_outside b s || nat_lt s.memsz s.filesz || not (is_power_of_two s.align) || not (s.vaddr % s.align == s.offset % s.align)

abbrev pub is_load : Phdr → Bool
is_load s = s.kind == PT_LOAD

-- two PT_LOAD headers share a byte of memory
abbrev pub share_memory : Phdr → Phdr → Bool
share_memory s t = is_load s && is_load t && nat_lt (max s.vaddr t.vaddr) (min (s.vaddr + s.memsz) (t.vaddr + t.memsz))

-- the flaw of program header k behind others: it is wrong by itself, or shares memory with one of them
abbrev pub segment_flaws_of : List ℕ → List Phdr → ℕ → Phdr → List ImageFault
segment_flaws_of b before k s = only_if (is_damaged b s || list_any (share_memory s) before) (Segment k)

-- the program headers that are wrong, by their numbers
unfoldable pub segment_flaws : List ℕ → List ImageFault
segment_flaws b = each (segments b) (λ k s. segment_flaws_of b (take k (segments b)) k s)
