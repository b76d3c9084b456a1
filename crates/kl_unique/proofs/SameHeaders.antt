-- Two files whose headers read alike have the same bytes there.
use Rattle.std.proofs.Common.{ℕ, zero, suc, ◌≡◌, ◌+◌, ◌-◌, ◌*◌, ◌<◌, ◌≤◌, ◌∙◌, List, [], ◌∷◌, length, get_or, refl, ap, sym, arith, false, cond, inl, inr, nat_eq}
use Rattle.std.specs.Prelude.{◌==◌, slice_index}
use Rattle.std.proofs.lemmas.Bool.{cases_lt, ne_eqb}
use Rattle.std.proofs.lemmas.List.{get_or-take}
use Rattle.kl_le.specs.Bytes.{num}
use Rattle.kl_elf.specs.Records.{ehdr_at, phdr_at, phdrs_from}
use Rattle.kl_elf.specs.declared.records.Ehdr.{Ehdr}
use Rattle.kl_elf.specs.declared.records.Phdr.{Phdr}
use Rattle.kl_model.specs.Memory.{segments}
use Rattle.kl_unique.proofs.Fixed.{AreBytes, same_num}

-- two files have the same bytes from a place up to another
abbrev pub AreSame : List ℕ → List ℕ → ℕ → ℕ → Type 0
AreSame b c from end = (k : ℕ) → from ≤ k → k < end → slice_index b k ≡ slice_index c k

pub join : (b c : List ℕ) (x y z : ℕ) → AreSame b c x y → AreSame b c y z → AreSame b c x z
join b c x y z s t k h l = elim (cases_lt k y) [ inl m ↦ s k h m | inr m ↦ t k m l ]

module _ (b c : List ℕ) (x : AreBytes b) (y : AreBytes c) where
  -- a number more
  more : (from at w end : ℕ) → end ≡ at + w → AreSame b c from at → num b at w ≡ num c at w → AreSame b c from end
  more from at w end is before e k h l = elim (cases_lt k at) [
    | inl m ↦ before k h m
    | inr m ↦
        let z : at + (k - at) ≡ k = omega (arith, m) in
        rw z at (same_num b c at w x y e (k - at) (omega (arith, m, l, is)))
  ]

  -- the file header
  pub same_ehdr : ehdr_at b 0 ≡ ehdr_at c 0 → AreSame b c 0 64
  same_ehdr e =
      let s16 : AreSame b c 0 16 = λ k h l. sym (get_or-take 16 b k 0 l) ∙ (ap (λ (h : Ehdr). get_or h.ident k 0) e ∙ get_or-take 16 c k 0 l) in
      let s18 = more 0 16 2 18 refl s16 (ap (λ (h : Ehdr). h.kind) e) in
      let s20 = more 0 18 2 20 refl s18 (ap (λ (h : Ehdr). h.machine) e) in
      let s24 = more 0 20 4 24 refl s20 (ap (λ (h : Ehdr). h.version) e) in
      let s32 = more 0 24 8 32 refl s24 (ap (λ (h : Ehdr). h.entry) e) in
      let s40 = more 0 32 8 40 refl s32 (ap (λ (h : Ehdr). h.phoff) e) in
      let s48 = more 0 40 8 48 refl s40 (ap (λ (h : Ehdr). h.shoff) e) in
      let s52 = more 0 48 4 52 refl s48 (ap (λ (h : Ehdr). h.flags) e) in
      let s54 = more 0 52 2 54 refl s52 (ap (λ (h : Ehdr). h.ehsize) e) in
      let s56 = more 0 54 2 56 refl s54 (ap (λ (h : Ehdr). h.phentsize) e) in
      let s58 = more 0 56 2 58 refl s56 (ap (λ (h : Ehdr). h.phnum) e) in
      let s60 = more 0 58 2 60 refl s58 (ap (λ (h : Ehdr). h.shentsize) e) in
      let s62 = more 0 60 2 62 refl s60 (ap (λ (h : Ehdr). h.shnum) e) in
      more 0 62 2 64 refl s62 (ap (λ (h : Ehdr). h.shstrndx) e)

  -- a program header, and those in a row
  pub same_phdr : (at : ℕ) → phdr_at b at ≡ phdr_at c at → AreSame b c at (at + 56)
  same_phdr at e =
      let s0 : AreSame b c at at = λ k h l. absurd (omega (arith, h, l)) in
      let s4 = more at at 4 (at + 4) refl s0 (ap (λ (h : Phdr). h.kind) e) in
      let s8 = more at (at + 4) 4 (at + 8) (omega arith) s4 (ap (λ (h : Phdr). h.flags) e) in
      let s16 = more at (at + 8) 8 (at + 16) (omega arith) s8 (ap (λ (h : Phdr). h.offset) e) in
      let s24 = more at (at + 16) 8 (at + 24) (omega arith) s16 (ap (λ (h : Phdr). h.vaddr) e) in
      let s32 = more at (at + 24) 8 (at + 32) (omega arith) s24 (ap (λ (h : Phdr). h.paddr) e) in
      let s40 = more at (at + 32) 8 (at + 40) (omega arith) s32 (ap (λ (h : Phdr). h.filesz) e) in
      let s48 = more at (at + 40) 8 (at + 48) (omega arith) s40 (ap (λ (h : Phdr). h.memsz) e) in
      more at (at + 48) 8 (at + 56) (omega arith) s48 (ap (λ (h : Phdr). h.align) e)

  pub same_phdrs : (at n : ℕ) → phdrs_from b at n ≡ phdrs_from c at n → AreSame b c at (at + 56 * n)
  same_phdrs at zero e k h l = absurd (omega (arith, h, l))
  same_phdrs at (suc n) e k h l =
      let first : phdr_at b at ≡ phdr_at c at = cc in
      let others : phdrs_from b (at + 56) n ≡ phdrs_from c (at + 56) n = cc in
      join b c at (at + 56) (at + 56 + 56 * n) (same_phdr at first) (same_phdrs (at + 56) n others) k h (omega (arith, l))

  -- THE HEADERS
  pub same_headers : (head : Ehdr) (ss : List Phdr) → head.phoff ≡ cond (length ss == 0) 0 64 → head.phnum ≡ length ss → ehdr_at b 0 ≡ head → ehdr_at c 0 ≡ head
      → segments b ≡ ss → segments c ≡ ss → AreSame b c 0 (64 + 56 * length ss)
  same_headers head [] off many d e s t = λ k h l. same_ehdr (d ∙ sym e) k h (omega (arith, l))
  same_headers head (z ∷ zs) off many d e s t =
      let some : nat_eq (suc (length zs)) 0 ≡ false = ne_eqb (suc (length zs)) 0 (λ e. omega (arith, e)) in
      let behind : head.phoff ≡ 64 = rw some at off in
      let at_b : segments b ≡ phdrs_from b 64 (suc (length zs)) =
      ap (λ (h : Ehdr). phdrs_from b h.phoff h.phnum) d ∙ (ap (λ n. phdrs_from b n head.phnum) behind ∙ ap (phdrs_from b 64) many) in
      let at_c : segments c ≡ phdrs_from c 64 (suc (length zs)) =
      ap (λ (h : Ehdr). phdrs_from c h.phoff h.phnum) e ∙ (ap (λ n. phdrs_from c n head.phnum) behind ∙ ap (phdrs_from c 64) many) in
      join b c 0 64 (64 + 56 * suc (length zs)) (same_ehdr (d ∙ sym e)) (same_phdrs 64 (suc (length zs)) (sym at_b ∙ (s ∙ (sym t ∙ at_c))))
