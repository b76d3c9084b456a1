-- What the standard asks of an image that is loaded (gABI, "ELF Header", "Program Header", "Dynamic Section").
use Rattle.std.specs.Prelude.{ℕ, ◌+◌, ◌*◌, ◌%◌, ◌<◌, ◌≤◌, ◌≡◌, ◌⊎◌, true, All, AllPairs, is_some, List, Some, length}
use Rattle.std.specs.Int.{is_power_of_two}
use Rattle.kl_elf.specs.Records.{ehdr_at}
use Rattle.kl_elf.specs.declared.records.Phdr.{Phdr}
use Rattle.kl_elf.specs.declared.abi.TheConstants.{EM_X86_64, ET_DYN, ET_EXEC}
use Rattle.kl_elf.specs.declared.records.Dyn.{Dyn}
use Rattle.kl_elf.specs.declared.records.TheConstants.Phdr as phdr
use Rattle.kl_elf.specs.declared.records.TheConstants.Rela as rela
use Rattle.kl_model.specs.Loaded.{dyn_entry, file_at}
use Rattle.kl_model.specs.Memory.{covers, segments}
use Rattle.kl_image.specs.Dynamic.{is_relocations, table_size}

-- a segment: its bytes lie in the file, p_filesz is no larger than p_memsz, p_align is a power of two, and p_vaddr equals p_offset modulo
-- p_align
pub record IsSegment (b : List ℕ) (s : Phdr) : Type 0 where
  pub in_file : 0 < s.filesz → s.offset + s.filesz ≤ length b
  pub in_memory : s.filesz ≤ s.memsz
  pub power : is_power_of_two s.align ≡ true
  pub congruent : s.vaddr % s.align ≡ s.offset % s.align

-- no byte of memory is covered by two PT_LOAD headers
abbrev pub CoverNoByte : Phdr → Phdr → Type 0
CoverNoByte s t = (a : ℕ) → covers a s ≡ true → covers a t ≡ true → ⊥

-- a table of the dynamic section that has bytes has them in the file, where one PT_LOAD header has all of them; relocation entries are
-- whole
pub record HasTables (b : List ℕ) : Type 0 where
  pub in_file : (tag size : ℕ) (d : Dyn) → dyn_entry b tag ≡ Some d → table_size b tag ≡ Some size → 0 < size → is_some (file_at b d.value size) ≡ true
  pub whole : (tag size : ℕ) (d : Dyn) → dyn_entry b tag ≡ Some d → table_size b tag ≡ Some size → is_relocations tag ≡ true → size % rela.SIZE ≡ 0

-- an executable or a shared object for the machine, whose program headers lie in the file and are segments that share no memory
pub record IsLoadable (b : List ℕ) : Type 0 where
  pub machine : (ehdr_at b 0).machine ≡ EM_X86_64
  pub kind : ((ehdr_at b 0).kind ≡ ET_EXEC) ⊎ ((ehdr_at b 0).kind ≡ ET_DYN)
  pub table : (ehdr_at b 0).phoff + phdr.SIZE * (ehdr_at b 0).phnum ≤ length b
  pub are_segments : All (IsSegment b) (segments b)
  pub apart : AllPairs CoverNoByte (segments b)
  pub tables : (ehdr_at b 0).kind ≡ ET_DYN → HasTables b
