-- Bytes of memory that a program header has in the file, and their place there.
use Rattle.std.proofs.Common.{ℕ, ◌≡◌, ◌+◌, ◌-◌, ◌<◌, ◌≤◌, ◌^◌, true, false, List, length, zero, suc, refl, arith}
use Rattle.std.specs.Prelude.{◌==◌, nat_le, find, Some}
use Rattle.std.proofs.lemmas.Bool.{and_parts, leb-true}
use Rattle.kl_elf.specs.declared.records.Phdr.{Phdr}
use Rattle.kl_elf.specs.declared.abi.TheConstants.{PT_LOAD}
use Rattle.kl_model.specs.Loaded.{file_at, has_in_file}
use Rattle.kl_model.specs.Memory.{segments}
use Rattle.kl_image.specs.Headers.{has_bytes_outside}
use Rattle.kl_image.proofs.SegmentFlaws.{inside}

pub held : (a n : ℕ) (s : Phdr) → has_in_file a n s ≡ true → (s.vaddr ≤ a) × (a + n ≤ s.vaddr + s.filesz)
held a n s is =
    let ends = and_parts (nat_le s.vaddr a) (nat_le (a + n) (s.vaddr + s.filesz)) ((and_parts (s.kind == PT_LOAD) _ is).1) in
    (leb-true s.vaddr a ends.0, leb-true (a + n) (s.vaddr + s.filesz) ends.1)

-- the place is a number of 64 bits
pub place_small : (b : List ℕ) (a n : ℕ) (s : Phdr) → has_bytes_outside b s ≡ false → has_in_file a n s ≡ true → length b < 2 ^ 63 → s.offset < 2 ^ 64
    → s.offset + (a - s.vaddr) < 2 ^ 64
place_small b a n s lies is short small =
    let ends = held a n s is in
    let low = ends.0 in
    let high = ends.1 in
    go s.filesz refl low high
  where
    go : (f : ℕ) → s.filesz ≡ f → s.vaddr ≤ a → a + n ≤ s.vaddr + s.filesz → s.offset + (a - s.vaddr) < 2 ^ 64
    go zero e low high = omega (arith, e)
    go (suc f) e low high = let room = inside b s lies (omega (arith, e)) in omega (arith, e, room)

-- bytes lie in the file
pub place_inside : (b : List ℕ) (a n : ℕ) (s : Phdr) → has_bytes_outside b s ≡ false → has_in_file a n s ≡ true → 0 < n → s.offset + (a - s.vaddr) + n ≤ length b
place_inside b a n s lies is some =
    let ends = held a n s is in
    let low = ends.0 in
    let high = ends.1 in
    let room = inside b s lies (omega arith) in
    omega arith

-- the place by the first header that has the bytes
pub place_found : (b : List ℕ) (ss : List Phdr) (a n : ℕ) (s : Phdr) → ss ≡ segments b → find (has_in_file a n) ss ≡ Some s → Some (s.offset + (a - s.vaddr)) ≡ file_at b a n
place_found b ss a n s same found = let all : find (has_in_file a n) (segments b) ≡ Some s = rw same at found in rw all refl
