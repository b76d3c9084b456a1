-- Records whose bytes are known read as those records. What is known of a file is which bytes it has from a place on.
use Rattle.std.proofs.Common.{ℕ, ◌≡◌, ◌+◌, ◌-◌, ◌^◌, ◌<◌, ◌≤◌, ◌∙◌, List, [], ◌++◌, length, get_or, take, drop, refl, ap, sym, arith, append_assoc}
use Rattle.std.specs.Int.{cast_signed, cast_unsigned, w64}
use Rattle.std.specs.Prelude.{◌==◌, Some, position, slice_range}
use Rattle.std.proofs.Math.Nat.{mod-eq_of_lt}
use Rattle.std.proofs.Math.Seq.{drop-append_seam, take-append_seam}
use Rattle.std.proofs.lemmas.List.{drop-drop, get_or-drop, get_or_append_left, length-drop, take-append-le, drop-append-le}
use Rattle.kl_le.specs.Bytes.{num}
use Rattle.kl_elf.specs.Records.{ehdr_at, shdr_at, sym_at, rela_at}
use Rattle.kl_elf.specs.declared.records.Ehdr.{Ehdr}
use Rattle.kl_elf.specs.declared.records.Shdr.{Shdr}
use Rattle.kl_elf.specs.declared.records.Sym.{Sym}
use Rattle.kl_elf.specs.declared.records.Rela.{Rela}
use Rattle.kl_model.specs.Texts.{text_at}
use Rattle.kl_model.specs.Written.{bytes_of, ehdr_bytes, shdr_bytes, sym_bytes, rela_bytes}
use Rattle.kl_model.proofs.ImageBytes.{num_of_bytes, length-bytes_of, byte-bytes_of}
use Rattle.kl_rel.specs.Headers.{string_in}

-- what stands behind the first part
pub behind : (b : List ℕ) (at next : ℕ) (xs ys : List ℕ) → next ≡ at + length xs → drop at b ≡ xs ++ ys → drop next b ≡ ys
behind b at next xs ys e h = rw e (sym (drop-drop (length xs) at b) ∙ (ap (drop (length xs)) h ∙ drop-append_seam xs ys))

-- the bytes themselves
pub bytes_there : (b : List ℕ) (at n : ℕ) (xs ys : List ℕ) → length xs ≡ n → drop at b ≡ xs ++ ys → text_at b (record { at = at; len = n }) ≡ xs
bytes_there b at n xs ys e h = rw (h, ← e) (take-append_seam xs ys)

-- a number, and what stands behind it
pub number : (b : List ℕ) (at w v : ℕ) (ys : List ℕ) → v < 256 ^ w → drop at b ≡ bytes_of w v ++ ys → num b at w ≡ v
number b at w v ys small h =
    num_of_bytes b at w v (λ j l.
    sym (get_or-drop at b j 0)
    ∙ (ap (λ xs. get_or xs j 0) h ∙ (get_or_append_left (bytes_of w v) ys 0 j (omega (arith, l, length-bytes_of w v)) ∙ byte-bytes_of w v j l)))
    ∙ mod-eq_of_lt small

pub past : (b : List ℕ) (at next w v : ℕ) (ys : List ℕ) → next ≡ at + w → drop at b ≡ bytes_of w v ++ ys → drop next b ≡ ys
past b at next w v ys e h = behind b at next (bytes_of w v) ys (omega (arith, e, length-bytes_of w v)) h

-- a file header whose numbers fit
pub record IsSmallEhdr (h : Ehdr) : Type 0 where
  pub ident : length h.ident ≡ 16
  pub kind : h.kind < 256 ^ 2
  pub machine : h.machine < 256 ^ 2
  pub version : h.version < 256 ^ 4
  pub entry : h.entry < 256 ^ 8
  pub phoff : h.phoff < 256 ^ 8
  pub shoff : h.shoff < 256 ^ 8
  pub flags : h.flags < 256 ^ 4
  pub ehsize : h.ehsize < 256 ^ 2
  pub phentsize : h.phentsize < 256 ^ 2
  pub phnum : h.phnum < 256 ^ 2
  pub shentsize : h.shentsize < 256 ^ 2
  pub shnum : h.shnum < 256 ^ 2
  pub shstrndx : h.shstrndx < 256 ^ 2

-- its bytes from a place on, and what stands behind it
abbrev e62 : Ehdr → List ℕ → List ℕ
e62 h ys = bytes_of 2 h.shstrndx ++ ys

abbrev e60 : Ehdr → List ℕ → List ℕ
e60 h ys = bytes_of 2 h.shnum ++ e62 h ys

abbrev e58 : Ehdr → List ℕ → List ℕ
e58 h ys = bytes_of 2 h.shentsize ++ e60 h ys

abbrev e56 : Ehdr → List ℕ → List ℕ
e56 h ys = bytes_of 2 h.phnum ++ e58 h ys

abbrev e54 : Ehdr → List ℕ → List ℕ
e54 h ys = bytes_of 2 h.phentsize ++ e56 h ys

abbrev e52 : Ehdr → List ℕ → List ℕ
e52 h ys = bytes_of 2 h.ehsize ++ e54 h ys

abbrev e48 : Ehdr → List ℕ → List ℕ
e48 h ys = bytes_of 4 h.flags ++ e52 h ys

abbrev e40 : Ehdr → List ℕ → List ℕ
e40 h ys = bytes_of 8 h.shoff ++ e48 h ys

abbrev e32 : Ehdr → List ℕ → List ℕ
e32 h ys = bytes_of 8 h.phoff ++ e40 h ys

abbrev e24 : Ehdr → List ℕ → List ℕ
e24 h ys = bytes_of 8 h.entry ++ e32 h ys

abbrev e20 : Ehdr → List ℕ → List ℕ
e20 h ys = bytes_of 4 h.version ++ e24 h ys

abbrev e18 : Ehdr → List ℕ → List ℕ
e18 h ys = bytes_of 2 h.machine ++ e20 h ys

abbrev e16 : Ehdr → List ℕ → List ℕ
e16 h ys = bytes_of 2 h.kind ++ e18 h ys

pub read_ehdr : (b : List ℕ) (h : Ehdr) (ys : List ℕ) → IsSmallEhdr h → b ≡ ehdr_bytes h ++ ys → ehdr_at b 0 ≡ h
read_ehdr b h ys f h0 =
    let whole : drop 0 b ≡ h.ident ++ e16 h ys = h0 ∙ append_assoc h.ident (e16 h []) ys in
    let first : take 16 b ≡ h.ident = rw (h0 ∙ append_assoc h.ident (e16 h []) ys, ← f.ident) (take-append_seam h.ident (e16 h ys)) in
    let h16 : drop 16 b ≡ e16 h ys = behind b 0 16 h.ident (e16 h ys) (omega (arith, f.ident)) whole in
    let h18 : drop 18 b ≡ e18 h ys = past b 16 18 2 h.kind (e18 h ys) refl h16 in
    let h20 : drop 20 b ≡ e20 h ys = past b 18 20 2 h.machine (e20 h ys) refl h18 in
    let h24 : drop 24 b ≡ e24 h ys = past b 20 24 4 h.version (e24 h ys) refl h20 in
    let h32 : drop 32 b ≡ e32 h ys = past b 24 32 8 h.entry (e32 h ys) refl h24 in
    let h40 : drop 40 b ≡ e40 h ys = past b 32 40 8 h.phoff (e40 h ys) refl h32 in
    let h48 : drop 48 b ≡ e48 h ys = past b 40 48 8 h.shoff (e48 h ys) refl h40 in
    let h52 : drop 52 b ≡ e52 h ys = past b 48 52 4 h.flags (e52 h ys) refl h48 in
    let h54 : drop 54 b ≡ e54 h ys = past b 52 54 2 h.ehsize (e54 h ys) refl h52 in
    let h56 : drop 56 b ≡ e56 h ys = past b 54 56 2 h.phentsize (e56 h ys) refl h54 in
    let h58 : drop 58 b ≡ e58 h ys = past b 56 58 2 h.phnum (e58 h ys) refl h56 in
    let h60 : drop 60 b ≡ e60 h ys = past b 58 60 2 h.shentsize (e60 h ys) refl h58 in
    let h62 : drop 62 b ≡ e62 h ys = past b 60 62 2 h.shnum (e62 h ys) refl h60 in
    let r16 : num b 16 2 ≡ h.kind = number b 16 2 h.kind (e18 h ys) f.kind h16 in
    let r18 : num b 18 2 ≡ h.machine = number b 18 2 h.machine (e20 h ys) f.machine h18 in
    let r20 : num b 20 4 ≡ h.version = number b 20 4 h.version (e24 h ys) f.version h20 in
    let r24 : num b 24 8 ≡ h.entry = number b 24 8 h.entry (e32 h ys) f.entry h24 in
    let r32 : num b 32 8 ≡ h.phoff = number b 32 8 h.phoff (e40 h ys) f.phoff h32 in
    let r40 : num b 40 8 ≡ h.shoff = number b 40 8 h.shoff (e48 h ys) f.shoff h40 in
    let r48 : num b 48 4 ≡ h.flags = number b 48 4 h.flags (e52 h ys) f.flags h48 in
    let r52 : num b 52 2 ≡ h.ehsize = number b 52 2 h.ehsize (e54 h ys) f.ehsize h52 in
    let r54 : num b 54 2 ≡ h.phentsize = number b 54 2 h.phentsize (e56 h ys) f.phentsize h54 in
    let r56 : num b 56 2 ≡ h.phnum = number b 56 2 h.phnum (e58 h ys) f.phnum h56 in
    let r58 : num b 58 2 ≡ h.shentsize = number b 58 2 h.shentsize (e60 h ys) f.shentsize h58 in
    let r60 : num b 60 2 ≡ h.shnum = number b 60 2 h.shnum (e62 h ys) f.shnum h60 in
    let r62 : num b 62 2 ≡ h.shstrndx = number b 62 2 h.shstrndx ys f.shstrndx h62 in
    rw (first, r16, r18, r20, r24, r32, r40, r48, r52, r54, r56, r58, r60, r62) refl

-- a section header whose numbers fit
pub record IsSmallShdr (s : Shdr) : Type 0 where
  pub name : s.name < 256 ^ 4
  pub kind : s.kind < 256 ^ 4
  pub flags : s.flags < 256 ^ 8
  pub addr : s.addr < 256 ^ 8
  pub offset : s.offset < 256 ^ 8
  pub size : s.size < 256 ^ 8
  pub link : s.link < 256 ^ 4
  pub info : s.info < 256 ^ 4
  pub addralign : s.addralign < 256 ^ 8
  pub entsize : s.entsize < 256 ^ 8

abbrev s56 : Shdr → List ℕ → List ℕ
s56 s ys = bytes_of 8 s.entsize ++ ys

abbrev s48 : Shdr → List ℕ → List ℕ
s48 s ys = bytes_of 8 s.addralign ++ s56 s ys

abbrev s44 : Shdr → List ℕ → List ℕ
s44 s ys = bytes_of 4 s.info ++ s48 s ys

abbrev s40 : Shdr → List ℕ → List ℕ
s40 s ys = bytes_of 4 s.link ++ s44 s ys

abbrev s32 : Shdr → List ℕ → List ℕ
s32 s ys = bytes_of 8 s.size ++ s40 s ys

abbrev s24 : Shdr → List ℕ → List ℕ
s24 s ys = bytes_of 8 s.offset ++ s32 s ys

abbrev s16 : Shdr → List ℕ → List ℕ
s16 s ys = bytes_of 8 s.addr ++ s24 s ys

abbrev s8 : Shdr → List ℕ → List ℕ
s8 s ys = bytes_of 8 s.flags ++ s16 s ys

abbrev s4 : Shdr → List ℕ → List ℕ
s4 s ys = bytes_of 4 s.kind ++ s8 s ys

pub read_shdr : (b : List ℕ) (at : ℕ) (s : Shdr) (ys : List ℕ) → IsSmallShdr s → drop at b ≡ shdr_bytes s ++ ys → shdr_at b at ≡ s
read_shdr b at s ys f h0 =
    let h4 : drop (at + 4) b ≡ s4 s ys = past b at (at + 4) 4 s.name (s4 s ys) (omega arith) h0 in
    let h8 : drop (at + 8) b ≡ s8 s ys = past b (at + 4) (at + 8) 4 s.kind (s8 s ys) (omega arith) h4 in
    let h16 : drop (at + 16) b ≡ s16 s ys = past b (at + 8) (at + 16) 8 s.flags (s16 s ys) (omega arith) h8 in
    let h24 : drop (at + 24) b ≡ s24 s ys = past b (at + 16) (at + 24) 8 s.addr (s24 s ys) (omega arith) h16 in
    let h32 : drop (at + 32) b ≡ s32 s ys = past b (at + 24) (at + 32) 8 s.offset (s32 s ys) (omega arith) h24 in
    let h40 : drop (at + 40) b ≡ s40 s ys = past b (at + 32) (at + 40) 8 s.size (s40 s ys) (omega arith) h32 in
    let h44 : drop (at + 44) b ≡ s44 s ys = past b (at + 40) (at + 44) 4 s.link (s44 s ys) (omega arith) h40 in
    let h48 : drop (at + 48) b ≡ s48 s ys = past b (at + 44) (at + 48) 4 s.info (s48 s ys) (omega arith) h44 in
    let h56 : drop (at + 56) b ≡ s56 s ys = past b (at + 48) (at + 56) 8 s.addralign (s56 s ys) (omega arith) h48 in
    let r0 : num b at 4 ≡ s.name = number b at 4 s.name (s4 s ys) f.name h0 in
    let r4 : num b (at + 4) 4 ≡ s.kind = number b (at + 4) 4 s.kind (s8 s ys) f.kind h4 in
    let r8 : num b (at + 8) 8 ≡ s.flags = number b (at + 8) 8 s.flags (s16 s ys) f.flags h8 in
    let r16 : num b (at + 16) 8 ≡ s.addr = number b (at + 16) 8 s.addr (s24 s ys) f.addr h16 in
    let r24 : num b (at + 24) 8 ≡ s.offset = number b (at + 24) 8 s.offset (s32 s ys) f.offset h24 in
    let r32 : num b (at + 32) 8 ≡ s.size = number b (at + 32) 8 s.size (s40 s ys) f.size h32 in
    let r40 : num b (at + 40) 4 ≡ s.link = number b (at + 40) 4 s.link (s44 s ys) f.link h40 in
    let r44 : num b (at + 44) 4 ≡ s.info = number b (at + 44) 4 s.info (s48 s ys) f.info h44 in
    let r48 : num b (at + 48) 8 ≡ s.addralign = number b (at + 48) 8 s.addralign (s56 s ys) f.addralign h48 in
    let r56 : num b (at + 56) 8 ≡ s.entsize = number b (at + 56) 8 s.entsize ys f.entsize h56 in
    rw (r0, r4, r8, r16, r24, r32, r40, r44, r48, r56) refl

-- a symbol whose numbers fit
pub record IsSmallSym (y : Sym) : Type 0 where
  pub name : y.name < 256 ^ 4
  pub info : y.info < 256 ^ 1
  pub other : y.other < 256 ^ 1
  pub shndx : y.shndx < 256 ^ 2
  pub value : y.value < 256 ^ 8
  pub size : y.size < 256 ^ 8

abbrev y16 : Sym → List ℕ → List ℕ
y16 y ys = bytes_of 8 y.size ++ ys

abbrev y8 : Sym → List ℕ → List ℕ
y8 y ys = bytes_of 8 y.value ++ y16 y ys

abbrev y6 : Sym → List ℕ → List ℕ
y6 y ys = bytes_of 2 y.shndx ++ y8 y ys

abbrev y5 : Sym → List ℕ → List ℕ
y5 y ys = bytes_of 1 y.other ++ y6 y ys

abbrev y4 : Sym → List ℕ → List ℕ
y4 y ys = bytes_of 1 y.info ++ y5 y ys

pub read_sym : (b : List ℕ) (at : ℕ) (y : Sym) (ys : List ℕ) → IsSmallSym y → drop at b ≡ sym_bytes y ++ ys → sym_at b at ≡ y
read_sym b at y ys f h0 =
    let h4 : drop (at + 4) b ≡ y4 y ys = past b at (at + 4) 4 y.name (y4 y ys) (omega arith) h0 in
    let h5 : drop (at + 5) b ≡ y5 y ys = past b (at + 4) (at + 5) 1 y.info (y5 y ys) (omega arith) h4 in
    let h6 : drop (at + 6) b ≡ y6 y ys = past b (at + 5) (at + 6) 1 y.other (y6 y ys) (omega arith) h5 in
    let h8 : drop (at + 8) b ≡ y8 y ys = past b (at + 6) (at + 8) 2 y.shndx (y8 y ys) (omega arith) h6 in
    let h16 : drop (at + 16) b ≡ y16 y ys = past b (at + 8) (at + 16) 8 y.value (y16 y ys) (omega arith) h8 in
    let r0 : num b at 4 ≡ y.name = number b at 4 y.name (y4 y ys) f.name h0 in
    let r4 : num b (at + 4) 1 ≡ y.info = number b (at + 4) 1 y.info (y5 y ys) f.info h4 in
    let r5 : num b (at + 5) 1 ≡ y.other = number b (at + 5) 1 y.other (y6 y ys) f.other h5 in
    let r6 : num b (at + 6) 2 ≡ y.shndx = number b (at + 6) 2 y.shndx (y8 y ys) f.shndx h6 in
    let r8 : num b (at + 8) 8 ≡ y.value = number b (at + 8) 8 y.value (y16 y ys) f.value h8 in
    let r16 : num b (at + 16) 8 ≡ y.size = number b (at + 16) 8 y.size ys f.size h16 in
    rw (r0, r4, r5, r6, r8, r16) refl

-- a relocation entry whose numbers fit
pub record IsSmallRela (r : Rela) : Type 0 where
  pub offset : r.offset < 256 ^ 8
  pub info : r.info < 256 ^ 8
  pub addend : cast_unsigned w64 r.addend < 256 ^ 8
  pub signed : cast_signed w64 (cast_unsigned w64 r.addend) ≡ r.addend

abbrev r16 : Rela → List ℕ → List ℕ
r16 r ys = bytes_of 8 (cast_unsigned w64 r.addend) ++ ys

abbrev r8 : Rela → List ℕ → List ℕ
r8 r ys = bytes_of 8 r.info ++ r16 r ys

pub read_rela : (b : List ℕ) (at : ℕ) (r : Rela) (ys : List ℕ) → IsSmallRela r → drop at b ≡ rela_bytes r ++ ys → rela_at b at ≡ r
read_rela b at r ys f h0 =
    let h8 : drop (at + 8) b ≡ r8 r ys = past b at (at + 8) 8 r.offset (r8 r ys) (omega arith) h0 in
    let h16 : drop (at + 16) b ≡ r16 r ys = past b (at + 8) (at + 16) 8 r.info (r16 r ys) (omega arith) h8 in
    let n0 : num b at 8 ≡ r.offset = number b at 8 r.offset (r8 r ys) f.offset h0 in
    let n8 : num b (at + 8) 8 ≡ r.info = number b (at + 8) 8 r.info (r16 r ys) f.info h8 in
    let n16 : num b (at + 16) 8 ≡ cast_unsigned w64 r.addend = number b (at + 16) 8 (cast_unsigned w64 r.addend) ys f.addend h16 in
    rw (n0, n8, n16, f.signed) refl

-- the part of a string table from a place on, in a file that has the table's bytes
part_of : (b : List ℕ) (t : Shdr) (p : ℕ) (table ys : List ℕ) → t.size ≡ length table → p ≤ length table → drop t.offset b ≡ table ++ ys
    → drop (t.offset + p) b ≡ drop p table ++ ys
part_of b t p table ys size low h = sym (drop-drop p t.offset b) ∙ (ap (drop p) h ∙ drop-append-le p table ys low)

-- a text of a string table: it ends before the first zero byte from its place on
pub string_there : (b : List ℕ) (t : Shdr) (p n : ℕ) (table ys : List ℕ) → t.size ≡ length table → p ≤ length table → drop t.offset b ≡ table ++ ys
    → position (λ c. c == 0) (drop p table) ≡ Some n → string_in b t p ≡ Some (record { at = t.offset + p; len = n })
unfolding string_in
string_there b t p n table ys size low h found =
    let long : t.offset + t.size - (t.offset + p) ≡ length (drop p table) = omega (arith, size, low, length-drop p table) in
    let part : slice_range b (t.offset + p) (t.offset + t.size) ≡ drop p table =
    rw (long, part_of b t p table ys size low h) (take-append_seam (drop p table) ys) in
    rw (part, found) refl

-- and its bytes
pub text_there : (b : List ℕ) (t : Shdr) (p n : ℕ) (table ys : List ℕ) → t.size ≡ length table → p ≤ length table → drop t.offset b ≡ table ++ ys
    → n ≤ length (drop p table) → text_at b (record { at = t.offset + p; len = n }) ≡ take n (drop p table)
text_there b t p n table ys size low h short = rw (part_of b t p table ys size low h) (take-append-le n (drop p table) ys short)
