-- The ELF64 records in bytes, at the places that the gABI's structures give their fields. The numbers of the places stand here once
-- more than in the tables of the code, whose `read` and `write` are proved to agree with them.
use Rattle.std.specs.Prelude.{ℕ, zero, suc, ◌+◌, List, [], ◌∷◌, take, drop}
use Rattle.std.specs.Int.{cast_signed, w64}
use Rattle.kl_le.specs.Bytes.{num}
use Rattle.kl_elf.specs.declared.records.Ehdr.{Ehdr}
use Rattle.kl_elf.specs.declared.records.Shdr.{Shdr}
use Rattle.kl_elf.specs.declared.records.Sym.{Sym}
use Rattle.kl_elf.specs.declared.records.Rela.{Rela}
use Rattle.kl_elf.specs.declared.records.Phdr.{Phdr}
use Rattle.kl_elf.specs.declared.records.Dyn.{Dyn}
use Rattle.kl_elf.specs.declared.records.TheConstants.Phdr as phdr

-- the file header at a place (Elf64_Ehdr)
abbrev pub ehdr_at : List ℕ → ℕ → Ehdr
ehdr_at b at = record {
  ident = take 16 (drop at b);
  kind = num b (at + 16) 2;
  machine = num b (at + 18) 2;
  version = num b (at + 20) 4;
  entry = num b (at + 24) 8;
  phoff = num b (at + 32) 8;
  shoff = num b (at + 40) 8;
  flags = num b (at + 48) 4;
  ehsize = num b (at + 52) 2;
  phentsize = num b (at + 54) 2;
  phnum = num b (at + 56) 2;
  shentsize = num b (at + 58) 2;
  shnum = num b (at + 60) 2;
  shstrndx = num b (at + 62) 2;
}

-- the section header at a place (Elf64_Shdr)
abbrev pub shdr_at : List ℕ → ℕ → Shdr
shdr_at b at = record {
  name = num b at 4;
  kind = num b (at + 4) 4;
  flags = num b (at + 8) 8;
  addr = num b (at + 16) 8;
  offset = num b (at + 24) 8;
  size = num b (at + 32) 8;
  link = num b (at + 40) 4;
  info = num b (at + 44) 4;
  addralign = num b (at + 48) 8;
  entsize = num b (at + 56) 8;
}

-- the symbol at a place (Elf64_Sym)
abbrev pub sym_at : List ℕ → ℕ → Sym
sym_at b at = record {
  name = num b at 4;
  info = num b (at + 4) 1;
  other = num b (at + 5) 1;
  shndx = num b (at + 6) 2;
  value = num b (at + 8) 8;
  size = num b (at + 16) 8;
}

-- the relocation entry at a place (Elf64_Rela); its addend is in two's complement
abbrev pub rela_at : List ℕ → ℕ → Rela
rela_at b at = record {
  offset = num b at 8;
  info = num b (at + 8) 8;
  addend = cast_signed w64 (num b (at + 16) 8);
}

-- the program header at a place (Elf64_Phdr)
abbrev pub phdr_at : List ℕ → ℕ → Phdr
phdr_at b at = record {
  kind = num b at 4;
  flags = num b (at + 4) 4;
  offset = num b (at + 8) 8;
  vaddr = num b (at + 16) 8;
  paddr = num b (at + 24) 8;
  filesz = num b (at + 32) 8;
  memsz = num b (at + 40) 8;
  align = num b (at + 48) 8;
}

-- the entry of a dynamic section at a place (Elf64_Dyn)
abbrev pub dyn_at : List ℕ → ℕ → Dyn
dyn_at b at = record {
  tag = num b at 8;
  value = num b (at + 8) 8;
}

-- n program headers in a row
abbrev pub phdrs_from : List ℕ → ℕ → ℕ → List Phdr
phdrs_from b at zero = []
phdrs_from b at (suc n) = phdr_at b at ∷ phdrs_from b (at + phdr.SIZE) n
