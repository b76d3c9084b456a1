-- A write elsewhere leaves a record, and records in a row.
use Rattle.std.proofs.Common.{ℕ, zero, suc, ◌≡◌, ◌+◌, ◌*◌, ◌≤◌, ◌∙◌, ◌⊎◌, List, [], ◌∷◌, ◌++◌, length, refl, ap, arith, inl, inr}
use Rattle.std.specs.Int.{cast_signed, w64}
use Rattle.kl_le.specs.Bytes.{ChangesWithin}
use Rattle.kl_le.proofs.Num.{num_kept, bytes_kept}
use Rattle.kl_elf.specs.Records.{ehdr_at, shdr_at, sym_at, rela_at, phdr_at, dyn_at, phdrs_from}
use Rattle.kl_elf.proofs.Fields.{ehdr-reads, shdr-reads, sym-reads, rela-reads, phdr-reads, dyn-reads}

-- what is apart from a place is apart from each part of it
part : (at n x w y m : ℕ) → (x + w ≤ at) ⊎ (at + n ≤ x) → x ≤ y → y + m ≤ x + w → (y + m ≤ at) ⊎ (at + n ≤ y)
part at n x w y m (inl h) l r = inl (omega arith)
part at n x w y m (inr h) l r = inr (omega arith)

-- a file header
pub ehdr_kept : {a b : List ℕ} {at n : ℕ} (x : ℕ) → ChangesWithin a b at n → (x + 64 ≤ at) ⊎ (at + n ≤ x) → length b ≡ length a → ehdr_at b x ≡ ehdr_at a x
ehdr_kept {a} {b} {at} {n} x c o long =
    let start : x + 0 ≡ x = omega arith in
    let kept = λ (y m : ℕ) (l : x ≤ y) (r : y + m ≤ x + 64). num_kept y m c (part at n x 64 y m o l r) in
    ehdr-reads b x (ehdr_at a x)
    (rw start (bytes_kept x 16 c (part at n x 64 x 16 o (omega arith) (omega arith)) long)) (kept (x + 16) 2 (omega arith) (omega arith)) (kept (x + 18) 2 (omega arith) (omega arith))
    (kept (x + 20) 4 (omega arith) (omega arith)) (kept (x + 24) 8 (omega arith) (omega arith)) (kept (x + 32) 8 (omega arith) (omega arith))
    (kept (x + 40) 8 (omega arith) (omega arith)) (kept (x + 48) 4 (omega arith) (omega arith)) (kept (x + 52) 2 (omega arith) (omega arith))
    (kept (x + 54) 2 (omega arith) (omega arith)) (kept (x + 56) 2 (omega arith) (omega arith)) (kept (x + 58) 2 (omega arith) (omega arith))
    (kept (x + 60) 2 (omega arith) (omega arith)) (kept (x + 62) 2 (omega arith) (omega arith))

-- a section header
pub shdr_kept : {a b : List ℕ} {at n : ℕ} (x : ℕ) → ChangesWithin a b at n → (x + 64 ≤ at) ⊎ (at + n ≤ x) → shdr_at b x ≡ shdr_at a x
shdr_kept {a} {b} {at} {n} x c o =
    let start : x + 0 ≡ x = omega arith in
    let kept = λ (y m : ℕ) (l : x ≤ y) (r : y + m ≤ x + 64). num_kept y m c (part at n x 64 y m o l r) in
    shdr-reads b x (shdr_at a x)
    (rw start (kept x 4 (omega arith) (omega arith))) (kept (x + 4) 4 (omega arith) (omega arith)) (kept (x + 8) 8 (omega arith) (omega arith))
    (kept (x + 16) 8 (omega arith) (omega arith)) (kept (x + 24) 8 (omega arith) (omega arith)) (kept (x + 32) 8 (omega arith) (omega arith))
    (kept (x + 40) 4 (omega arith) (omega arith)) (kept (x + 44) 4 (omega arith) (omega arith)) (kept (x + 48) 8 (omega arith) (omega arith))
    (kept (x + 56) 8 (omega arith) (omega arith))

-- a symbol
pub sym_kept : {a b : List ℕ} {at n : ℕ} (x : ℕ) → ChangesWithin a b at n → (x + 24 ≤ at) ⊎ (at + n ≤ x) → sym_at b x ≡ sym_at a x
sym_kept {a} {b} {at} {n} x c o =
    let start : x + 0 ≡ x = omega arith in
    let kept = λ (y m : ℕ) (l : x ≤ y) (r : y + m ≤ x + 24). num_kept y m c (part at n x 24 y m o l r) in
    sym-reads b x (sym_at a x)
    (rw start (kept x 4 (omega arith) (omega arith))) (kept (x + 4) 1 (omega arith) (omega arith)) (kept (x + 5) 1 (omega arith) (omega arith))
    (kept (x + 6) 2 (omega arith) (omega arith)) (kept (x + 8) 8 (omega arith) (omega arith)) (kept (x + 16) 8 (omega arith) (omega arith))

-- a relocation entry
pub rela_kept : {a b : List ℕ} {at n : ℕ} (x : ℕ) → ChangesWithin a b at n → (x + 24 ≤ at) ⊎ (at + n ≤ x) → rela_at b x ≡ rela_at a x
rela_kept {a} {b} {at} {n} x c o =
    let start : x + 0 ≡ x = omega arith in
    let kept = λ (y m : ℕ) (l : x ≤ y) (r : y + m ≤ x + 24). num_kept y m c (part at n x 24 y m o l r) in
    rela-reads b x (rela_at a x)
    (rw start (kept x 8 (omega arith) (omega arith))) (kept (x + 8) 8 (omega arith) (omega arith)) (ap (cast_signed w64) (kept (x + 16) 8 (omega arith) (omega arith)))

-- a program header
pub phdr_kept : {a b : List ℕ} {at n : ℕ} (x : ℕ) → ChangesWithin a b at n → (x + 56 ≤ at) ⊎ (at + n ≤ x) → phdr_at b x ≡ phdr_at a x
phdr_kept {a} {b} {at} {n} x c o =
    let start : x + 0 ≡ x = omega arith in
    let kept = λ (y m : ℕ) (l : x ≤ y) (r : y + m ≤ x + 56). num_kept y m c (part at n x 56 y m o l r) in
    phdr-reads b x (phdr_at a x)
    (rw start (kept x 4 (omega arith) (omega arith))) (kept (x + 4) 4 (omega arith) (omega arith)) (kept (x + 8) 8 (omega arith) (omega arith))
    (kept (x + 16) 8 (omega arith) (omega arith)) (kept (x + 24) 8 (omega arith) (omega arith)) (kept (x + 32) 8 (omega arith) (omega arith))
    (kept (x + 40) 8 (omega arith) (omega arith)) (kept (x + 48) 8 (omega arith) (omega arith))

-- a dynamic entry
pub dyn_kept : {a b : List ℕ} {at n : ℕ} (x : ℕ) → ChangesWithin a b at n → (x + 16 ≤ at) ⊎ (at + n ≤ x) → dyn_at b x ≡ dyn_at a x
dyn_kept {a} {b} {at} {n} x c o =
    let start : x + 0 ≡ x = omega arith in
    let kept = λ (y m : ℕ) (l : x ≤ y) (r : y + m ≤ x + 16). num_kept y m c (part at n x 16 y m o l r) in
    dyn-reads b x (dyn_at a x)
    (rw start (kept x 8 (omega arith) (omega arith))) (kept (x + 8) 8 (omega arith) (omega arith))

-- program headers in a row
pub phdrs_kept : {a b : List ℕ} {at n : ℕ} (x k : ℕ) → ChangesWithin a b at n → (x + 56 * k ≤ at) ⊎ (at + n ≤ x) → phdrs_from b x k ≡ phdrs_from a x k
phdrs_kept x zero c o = refl
phdrs_kept x (suc k) c o =
    let one = phdr_kept x c (part _ _ x (56 * suc k) x 56 o (omega arith) (omega arith)) in
    let more = phdrs_kept (x + 56) k c (part _ _ x (56 * suc k) (x + 56) (56 * k) o (omega arith) (omega arith)) in
    rw (one, more) refl

-- one more program header
pub phdrs_more : (b : List ℕ) (x k : ℕ) → phdrs_from b x (suc k) ≡ phdrs_from b x k ++ phdr_at b (x + 56 * k) ∷ []
phdrs_more b x zero = let e : x + 56 * zero ≡ x = omega arith in rw e refl
phdrs_more b x (suc k) =
    let e : x + 56 * suc k ≡ x + 56 + 56 * k = omega arith in
    ap (λ ss. phdr_at b x ∷ ss) (phdrs_more b (x + 56) k) ∙ rw e refl

-- there are as many as are asked for
pub length-phdrs_from : (b : List ℕ) (x k : ℕ) → length (phdrs_from b x k) ≡ k
length-phdrs_from b x zero = refl
length-phdrs_from b x (suc k) = let e = length-phdrs_from b (x + 56) k in omega (arith, e)
