-- The memory of an image that is loaded at a base, with names looked up (gABI, "Dynamic Linking"; psABI, "Relocation Types").
use Rattle.std.specs.Prelude.{ℕ, zero, suc, ◌+◌, ◌-◌, ◌*◌, ◌/◌, ◌%◌, ◌^◌, Bool, cond, if◌then◌else◌, ◌&&◌, ◌||◌, ◌==◌, nat_lt, nat_le, List, [], ◌∷◌, ◌++◌, fold, find, take, drop, Option, Some, None, is_some, option_map, option_and_then}
use Rattle.std.specs.Option.{option_map_or}
use Rattle.std.specs.List.{list_any}
use Rattle.std.specs.Int.{cast_unsigned, w64}
use Rattle.kl_le.specs.Bytes.{num, text}
use Rattle.kl_elf.specs.Records.{ehdr_at, dyn_at, rela_at}
use Rattle.kl_elf.specs.declared.records.Phdr.{Phdr}
use Rattle.kl_elf.specs.declared.records.Rela.{Rela}
use Rattle.kl_elf.specs.declared.records.Dyn.{Dyn}
use Rattle.kl_model.specs.Memory.{Cell, segments, mem}
use Rattle.kl_model.specs.Reaches.{plus}
use Rattle.kl_model.specs.Written.{byte_of}
use Rattle.kl_elf.specs.declared.abi.TheConstants.{DT_HASH, DT_JMPREL, DT_NULL, DT_PLTRELSZ, DT_RELA, DT_RELASZ, DT_STRSZ, DT_STRTAB, DT_SYMTAB, ET_DYN, PT_DYNAMIC, PT_LOAD, R_X86_64_64, R_X86_64_GLOB_DAT, R_X86_64_JUMP_SLOT, R_X86_64_RELATIVE}
use Rattle.kl_elf.specs.declared.records.TheConstants.Dyn as dyn
use Rattle.kl_elf.specs.declared.records.TheConstants.Rela as rela
use Rattle.kl_elf.specs.declared.records.TheConstants.Sym as sym

-- the place in the file of n bytes of memory, where one PT_LOAD header has all of them in the file
abbrev pub has_in_file : ℕ → ℕ → Phdr → Bool
has_in_file a n s = (s.kind == PT_LOAD) && (nat_le s.vaddr a && nat_le (a + n) (s.vaddr + s.filesz))

abbrev pub file_at : List ℕ → ℕ → ℕ → Option ℕ
file_at b a n = option_map (λ s. s.offset + (a - s.vaddr)) (find (has_in_file a n) (segments b))

-- at most n dynamic entries from a place on, up to the first DT_NULL
abbrev pub dyns_from : List ℕ → ℕ → ℕ → List Dyn
dyns_from b at zero = []
dyns_from b at (suc n) = if (dyn_at b at).tag == DT_NULL then [] else dyn_at b at ∷ dyns_from b (at + dyn.SIZE) n

-- those of the first PT_DYNAMIC header
abbrev pub dynamics : List ℕ → List Dyn
dynamics b = option_map_or (λ s. dyns_from b s.offset (s.filesz / dyn.SIZE)) (find (λ s. s.kind == PT_DYNAMIC) (segments b)) []

-- the value of the first entry with a tag, and 0 where there is none
abbrev pub dyn_entry : List ℕ → ℕ → Option Dyn
dyn_entry b tag = find (λ d. d.tag == tag) (dynamics b)

abbrev pub dyn_value : List ℕ → ℕ → ℕ
dyn_value b tag = option_map_or (λ d. d.value) (dyn_entry b tag) 0

-- the place in the file of the table of n bytes that an entry names
abbrev pub table_at : List ℕ → ℕ → ℕ → Option ℕ
table_at b tag n = option_and_then (λ d. file_at b d.value n) (dyn_entry b tag)

-- how many symbols there are, by the hash table
abbrev pub chain_count : List ℕ → ℕ
chain_count b = option_map_or (λ at. num b (at + 4) 4) (table_at b DT_HASH 8) 0

-- the strings
abbrev pub strings_in : List ℕ → List ℕ
strings_in b = option_map_or (λ at. take (dyn_value b DT_STRSZ) (drop at b)) (table_at b DT_STRTAB (dyn_value b DT_STRSZ)) []

-- the text at a place of the strings, where a zero byte ends it there
abbrev pub text_in : List ℕ → ℕ → Option (List ℕ)
text_in s at = if list_any (λ c. c == 0) (drop at s) then Some (text s at) else None

-- the name of a symbol, where both lie in the tables
abbrev pub name_in : List ℕ → ℕ → Option (List ℕ)
name_in b y = if nat_lt y (chain_count b) then
    option_and_then (λ at. text_in (strings_in b) (num b (at + sym.SIZE * y) 4)) (table_at b DT_SYMTAB (sym.SIZE * chain_count b)) else None

-- the entries of a table by the tags of its place and its size
abbrev pub relas_from : List ℕ → ℕ → ℕ → List Rela
relas_from b at zero = []
relas_from b at (suc n) = rela_at b at ∷ relas_from b (at + rela.SIZE) n

abbrev pub relas_in : List ℕ → ℕ → ℕ → List Rela
relas_in b tag size = option_map_or (λ at. relas_from b at (dyn_value b size / rela.SIZE)) (table_at b tag (dyn_value b size)) []

-- the entries of an image, those of DT_RELA, then those of DT_JMPREL; only an image of ET_DYN has some
abbrev pub relas : List ℕ → List Rela
relas b = if (ehdr_at b 0).kind == ET_DYN then relas_in b DT_RELA DT_RELASZ ++ relas_in b DT_JMPREL DT_PLTRELSZ else []

-- What an entry writes at a base, for a resolver of names: RELATIVE base + A, 64 S + A, GLOB_DAT and JUMP_SLOT S; it is passed over where its type is another, or its name isn't in the tables.
abbrev pub rela_value : List ℕ → ℕ → (List ℕ → ℕ) → Rela → Option ℕ
rela_value b base r e =
    let kind = e.info % 2 ^ 32 in
    let s = option_map r (name_in b (e.info / 2 ^ 32)) in
    if kind == R_X86_64_RELATIVE then Some (plus base (cast_unsigned w64 e.addend))
    else if kind == R_X86_64_64 then option_map (λ n. plus n (cast_unsigned w64 e.addend)) s
    else if (kind == R_X86_64_GLOB_DAT) || (kind == R_X86_64_JUMP_SLOT) then s else None

-- memory with the eight bytes of a number at an address
abbrev pub with_number : (ℕ → Option Cell) → ℕ → ℕ → ℕ → Option Cell
with_number m at v a = if nat_le at a && nat_lt a (at + 8) then option_map (λ c. record { byte = byte_of v (a - at); flags = c.flags }) (m a) else m a

-- eight bytes are covered by one PT_LOAD header
abbrev pub is_covered : List ℕ → ℕ → Bool
is_covered b a = list_any (λ s. (s.kind == PT_LOAD) && (nat_le s.vaddr a && nat_le (a + 8) (s.vaddr + s.memsz))) (segments b)

-- memory with an entry carried out
abbrev pub with_rela : List ℕ → ℕ → (List ℕ → ℕ) → (ℕ → Option Cell) → Rela → ℕ → Option Cell
with_rela b base r m e = if is_covered b e.offset then option_map_or (λ v. with_number m (base + e.offset) v) (rela_value b base r e) m else m

-- the memory of an image, moved by a base
abbrev pub moved : List ℕ → ℕ → ℕ → Option Cell
moved b base a = if nat_lt a base then None else mem b (a - base)

-- The memory of an image that is loaded at a base, where names have the numbers of a resolver.
abbrev pub loaded : List ℕ → ℕ → (List ℕ → ℕ) → ℕ → Option Cell
loaded b base r = fold (with_rela b base r) (moved b base) (relas b)
