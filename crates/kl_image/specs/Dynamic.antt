-- The flaws of the tables that the dynamic section of an image names (gABI, "Dynamic Section", "Hash Table").
use Rattle.std.specs.Prelude.{ℕ, ◌+◌, ◌*◌, ◌/◌, ◌%◌, Bool, false, not, ◌&&◌, ◌||◌, ◌==◌, nat_lt, if◌then◌else◌, List, [], ◌∷◌, ◌++◌, take, find, length, is_none, Option, Some, None}
use Rattle.std.specs.Option.{option_map_or}
use Rattle.std.specs.List.{list_any}
use Rattle.kl_le.specs.Bytes.{num}
use Rattle.kl_elf.specs.declared.records.Phdr.{Phdr}
use Rattle.kl_elf.specs.declared.records.Dyn.{Dyn}
use Rattle.kl_elf.specs.declared.abi.TheConstants.{DT_HASH, DT_JMPREL, DT_PLTRELSZ, DT_RELA, DT_RELASZ, DT_STRSZ, DT_STRTAB, DT_SYMTAB, PT_DYNAMIC}
use Rattle.kl_elf.specs.declared.records.TheConstants.Dyn as dyn
use Rattle.kl_elf.specs.declared.records.TheConstants.Rela as rela
use Rattle.kl_elf.specs.declared.records.TheConstants.Sym as sym
use Rattle.kl_model.specs.Lists.{each, only_if}
use Rattle.kl_model.specs.Memory.{segments}
use Rattle.kl_model.specs.Loaded.{chain_count, dyn_value, dynamics, file_at, table_at}
use Rattle.kl_image.specs.declared.dynamic.TheConstants.{HASH_COUNTS, HASH_WORD}
use Rattle.kl_image.specs.declared.header.TheConstants.{E_PHOFF}
use Rattle.kl_image.specs.declared.fault.ImageFault.{ImageFault}
use Rattle.kl_image.specs.declared.fault.ImageFault.TheVariants.{Tables}

-- how many buckets there are, by the first word of the hash table
abbrev pub bucket_count : List ℕ → ℕ
bucket_count b = option_map_or (λ at. num b at HASH_WORD) (table_at b DT_HASH HASH_COUNTS) 0

-- the size of the hash table: its two counts, the buckets and the chains
abbrev pub hash_size : List ℕ → ℕ
hash_size b = HASH_COUNTS + HASH_WORD * (bucket_count b + chain_count b)

-- the size of the table whose place an entry of this tag gives
unfoldable pub table_size : List ℕ → ℕ → Option ℕ
table_size b tag =
    if tag == DT_HASH then Some (hash_size b)
    else if tag == DT_SYMTAB then Some (sym.SIZE * chain_count b)
    else if tag == DT_STRTAB then Some (dyn_value b DT_STRSZ)
    else if tag == DT_RELA then Some (dyn_value b DT_RELASZ)
    else if tag == DT_JMPREL then Some (dyn_value b DT_PLTRELSZ)
    else None

-- a table of relocation entries
abbrev pub is_relocations : ℕ → Bool
is_relocations tag = (tag == DT_RELA) || (tag == DT_JMPREL)

-- a table that has bytes isn't inside the bytes that one PT_LOAD header has in the file, or one of relocation entries isn't of whole ones
abbrev pub is_wrong_table : List ℕ → Dyn → ℕ → Bool
is_wrong_table b d size = (not (size == 0) && is_none (file_at b d.value size)) || (is_relocations d.tag && not (size % rela.SIZE == 0))

-- an entry that names such a table
abbrev pub is_wrong_entry : List ℕ → Dyn → Bool
is_wrong_entry b d = option_map_or (is_wrong_table b d) (table_size b d.tag) false

-- an entry has this tag
abbrev pub has_tag : ℕ → Dyn → Bool
has_tag tag d = d.tag == tag

-- the flaw of entry k of a section at a place of the file; of two entries with one tag the first counts
abbrev pub entry_flaws_of : List ℕ → ℕ → List Dyn → ℕ → Dyn → List ImageFault
entry_flaws_of b at before k d = only_if (not (list_any (has_tag d.tag) before) && is_wrong_entry b d) (Tables (at + dyn.SIZE * k))

unfoldable pub entry_flaws : List ℕ → ℕ → List ImageFault
entry_flaws b at = each (dynamics b) (λ k d. entry_flaws_of b at (take k (dynamics b)) k d)

-- the flaws of a dynamic section, which has an entry DT_NULL where its entries end before its bytes do
abbrev pub section_flaws : List ℕ → Phdr → List ImageFault
section_flaws b s = entry_flaws b s.offset ++ only_if (not (nat_lt (length (dynamics b)) (s.filesz / dyn.SIZE))) (Tables E_PHOFF)

-- the first PT_DYNAMIC header
abbrev pub dynamic_header : List ℕ → Option Phdr
dynamic_header b = find (λ s. s.kind == PT_DYNAMIC) (segments b)

-- the flaws of the tables of a shared object, which has a dynamic section
unfoldable pub table_flaws : List ℕ → List ImageFault
table_flaws b = option_map_or (section_flaws b) (dynamic_header b) (Tables E_PHOFF ∷ [])
