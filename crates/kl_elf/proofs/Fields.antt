-- A record is what its fields are.
use Rattle.std.proofs.Common.{ℕ, ◌≡◌, ◌+◌, List, take, drop, refl, arith}
use Rattle.std.specs.Int.{cast_signed, w64}
use Rattle.kl_le.specs.Bytes.{num}
use Rattle.kl_elf.specs.Records.{ehdr_at, shdr_at, sym_at, rela_at, phdr_at, dyn_at}
use Rattle.kl_elf.specs.declared.records.Ehdr.{Ehdr}
use Rattle.kl_elf.specs.declared.records.Shdr.{Shdr}
use Rattle.kl_elf.specs.declared.records.Sym.{Sym}
use Rattle.kl_elf.specs.declared.records.Rela.{Rela}
use Rattle.kl_elf.specs.declared.records.Phdr.{Phdr}
use Rattle.kl_elf.specs.declared.records.Dyn.{Dyn}

pub ehdr-reads : (b : List ℕ) (at : ℕ) (s : Ehdr) → take 16 (drop (at + 0) b) ≡ s.ident → num b (at + 16) 2 ≡ s.kind → num b (at + 18) 2 ≡ s.machine → num b (at + 20) 4 ≡ s.version
    → num b (at + 24) 8 ≡ s.entry → num b (at + 32) 8 ≡ s.phoff → num b (at + 40) 8 ≡ s.shoff → num b (at + 48) 4 ≡ s.flags
    → num b (at + 52) 2 ≡ s.ehsize → num b (at + 54) 2 ≡ s.phentsize → num b (at + 56) 2 ≡ s.phnum → num b (at + 58) 2 ≡ s.shentsize
    → num b (at + 60) 2 ≡ s.shnum → num b (at + 62) 2 ≡ s.shstrndx → ehdr_at b at ≡ s
ehdr-reads b at s e1 e2 e3 e4 e5 e6 e7 e8 e9 e10 e11 e12 e13 e14 = let start : at + 0 ≡ at = omega arith in let e0 = rw start at e1 in rw (e0, e2, e3, e4, e5, e6, e7, e8, e9, e10, e11, e12, e13, e14) refl

pub shdr-reads : (b : List ℕ) (at : ℕ) (s : Shdr) → num b (at + 0) 4 ≡ s.name → num b (at + 4) 4 ≡ s.kind → num b (at + 8) 8 ≡ s.flags → num b (at + 16) 8 ≡ s.addr
    → num b (at + 24) 8 ≡ s.offset → num b (at + 32) 8 ≡ s.size → num b (at + 40) 4 ≡ s.link → num b (at + 44) 4 ≡ s.info
    → num b (at + 48) 8 ≡ s.addralign → num b (at + 56) 8 ≡ s.entsize → shdr_at b at ≡ s
shdr-reads b at s e1 e2 e3 e4 e5 e6 e7 e8 e9 e10 = let start : at + 0 ≡ at = omega arith in let e0 = rw start at e1 in rw (e0, e2, e3, e4, e5, e6, e7, e8, e9, e10) refl

pub sym-reads : (b : List ℕ) (at : ℕ) (s : Sym) → num b (at + 0) 4 ≡ s.name → num b (at + 4) 1 ≡ s.info → num b (at + 5) 1 ≡ s.other → num b (at + 6) 2 ≡ s.shndx
    → num b (at + 8) 8 ≡ s.value → num b (at + 16) 8 ≡ s.size → sym_at b at ≡ s
sym-reads b at s e1 e2 e3 e4 e5 e6 = let start : at + 0 ≡ at = omega arith in let e0 = rw start at e1 in rw (e0, e2, e3, e4, e5, e6) refl

pub rela-reads : (b : List ℕ) (at : ℕ) (s : Rela) → num b (at + 0) 8 ≡ s.offset → num b (at + 8) 8 ≡ s.info → cast_signed w64 (num b (at + 16) 8) ≡ s.addend → rela_at b at ≡ s
rela-reads b at s e1 e2 e3 = let start : at + 0 ≡ at = omega arith in let e0 = rw start at e1 in rw (e0, e2, e3) refl

pub phdr-reads : (b : List ℕ) (at : ℕ) (s : Phdr) → num b (at + 0) 4 ≡ s.kind → num b (at + 4) 4 ≡ s.flags → num b (at + 8) 8 ≡ s.offset → num b (at + 16) 8 ≡ s.vaddr
    → num b (at + 24) 8 ≡ s.paddr → num b (at + 32) 8 ≡ s.filesz → num b (at + 40) 8 ≡ s.memsz → num b (at + 48) 8 ≡ s.align → phdr_at b at ≡ s
phdr-reads b at s e1 e2 e3 e4 e5 e6 e7 e8 = let start : at + 0 ≡ at = omega arith in let e0 = rw start at e1 in rw (e0, e2, e3, e4, e5, e6, e7, e8) refl

pub dyn-reads : (b : List ℕ) (at : ℕ) (s : Dyn) → num b (at + 0) 8 ≡ s.tag → num b (at + 8) 8 ≡ s.value → dyn_at b at ≡ s
dyn-reads b at s e1 e2 = let start : at + 0 ≡ at = omega arith in let e0 = rw start at e1 in rw (e0, e2) refl
