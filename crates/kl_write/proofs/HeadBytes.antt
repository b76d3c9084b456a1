-- Bytes from which headers read are the bytes that the headers are written as.
use Rattle.std.proofs.Common.{ℕ, zero, suc, ◌≡◌, ◌+◌, ◌-◌, ◌*◌, ◌/◌, ◌%◌, ◌^◌, ◌<◌, ◌≤◌, ◌∙◌, List, ◌++◌, length, get_or, take, drop, refl, ap, sym, subst, arith, inl, inr, length-append, length-drop}
use Rattle.std.specs.Prelude.{flat_map}
use Rattle.std.proofs.Math.Nat.{pow-succ', div-div-eq-div-mul}
use Rattle.std.proofs.lemmas.Bool.{cases_lt}
use Rattle.std.proofs.lemmas.List.{get_or_append_left, get_or-append-add, get_or-drop, get_or-take, length-take-le, take_all}
use Rattle.kl_le.specs.Bytes.{num}
use Rattle.kl_elf.specs.Records.{ehdr_at, phdr_at, phdrs_from}
use Rattle.kl_elf.specs.declared.records.Ehdr.{Ehdr}
use Rattle.kl_elf.specs.declared.records.Phdr.{Phdr}
use Rattle.kl_model.specs.Written.{byte_of, bytes_of, ehdr_bytes, phdr_bytes}
use Rattle.kl_model.proofs.ImageBytes.{byte-bytes_of, length-bytes_of}
use Rattle.kl_write.proofs.ReadHeaders.{HasAt, length-phdr, length-phdrs, take_is, e16, e18, e20, e24, e32, e40, e48, e52, e54, e56, e58, e60, e62, p4, p8, p16, p24, p32, p40, p48}

-- all are bytes
abbrev pub AreBytes : List ℕ → Type 0
AreBytes b = (k : ℕ) → get_or b k 0 < 256

-- a byte of a number that is read
num_byte : (b : List ℕ) (at w j : ℕ) → AreBytes b → j < w → get_or b (at + j) 0 ≡ byte_of (num b at w) j
unfolding num
num_byte b at zero j s h = absurd (omega (arith, h))
num_byte b at (suc w) zero s h =
    let z : at + 0 ≡ at = omega arith in
    let n : ℕ = get_or b at 0 + 256 * num b (suc at) w in
    let one : n / 256 ^ 0 ≡ n = omega arith in
    let low : get_or b at 0 ≡ n % 256 = omega (arith, s at) in
    rw z (low ∙ ap (λ m. m % 256) (sym one))
num_byte b at (suc w) (suc j) s h =
    let z : at + suc j ≡ suc at + j = omega arith in
    let n : ℕ = get_or b at 0 + 256 * num b (suc at) w in
    let high : n / 256 ≡ num b (suc at) w = omega (arith, s at) in
    let quotient : n / 256 ^ suc j ≡ n / 256 / 256 ^ j = ap (λ m. n / m) (pow-succ' 256 j) ∙ sym (div-div-eq-div-mul n 256 (256 ^ j)) in
    rw z (num_byte b (suc at) w j s (omega (arith, h)) ∙ (ap (λ m. m / 256 ^ j % 256) (sym high) ∙ ap (λ m. m % 256) (sym quotient)))

has_num_at : (b : List ℕ) (at w : ℕ) → AreBytes b → HasAt b at (bytes_of w (num b at w))
has_num_at b at w s j l =
    let h : j < w = omega (arith, l, length-bytes_of w (num b at w)) in
    num_byte b at w j s h ∙ sym (byte-bytes_of w (num b at w) j h)

has_append : (b : List ℕ) (at next : ℕ) (xs ys : List ℕ) → HasAt b at xs → next ≡ at + length xs → HasAt b next ys → HasAt b at (xs ++ ys)
has_append b at next xs ys f e g j l =
    elim (cases_lt j (length xs)) [
      | inl h ↦ f j h ∙ sym (get_or_append_left xs ys 0 j h)
      | inr h ↦
          let place : at + j ≡ next + (j - length xs) = omega (arith, e, h) in
          let back : length xs + (j - length xs) ≡ j = omega (arith, h) in
          let there : get_or (xs ++ ys) j 0 ≡ get_or ys (j - length xs) 0 = rw back at (get_or-append-add xs ys (j - length xs) 0) in
          rw place (g (j - length xs) (omega (arith, l, h, length-append xs ys)) ∙ sym there)
    ]

-- a number, and what stands behind it
then : (b : List ℕ) (at next w : ℕ) (ys : List ℕ) → AreBytes b → next ≡ at + w → HasAt b next ys → HasAt b at (bytes_of w (num b at w) ++ ys)
then b at next w ys s e h = has_append b at next (bytes_of w (num b at w)) ys (has_num_at b at w s) (omega (arith, e, length-bytes_of w (num b at w))) h

phdr_there : (b : List ℕ) (at : ℕ) → AreBytes b → HasAt b at (phdr_bytes (phdr_at b at))
phdr_there b at s =
    let r = phdr_at b at in
    then b at (at + 4) 4 (p4 r) s refl
    (then b (at + 4) (at + 8) 4 (p8 r) s (omega arith)
    (then b (at + 8) (at + 16) 8 (p16 r) s (omega arith)
    (then b (at + 16) (at + 24) 8 (p24 r) s (omega arith)
    (then b (at + 24) (at + 32) 8 (p32 r) s (omega arith)
    (then b (at + 32) (at + 40) 8 (p40 r) s (omega arith)
    (then b (at + 40) (at + 48) 8 (p48 r) s (omega arith)
    (has_num_at b (at + 48) 8 s)))))))

phdrs_there : (b : List ℕ) (at n : ℕ) → AreBytes b → HasAt b at (flat_map phdr_bytes (phdrs_from b at n))
phdrs_there b at zero s = λ j l. absurd (omega (arith, l))
phdrs_there b at (suc n) s =
    has_append b at (at + 56) (phdr_bytes (phdr_at b at)) (flat_map phdr_bytes (phdrs_from b (at + 56) n)) (phdr_there b at s) (omega (arith, length-phdr (phdr_at b at))) (phdrs_there b (at + 56) n s)

ehdr_there : (b : List ℕ) → AreBytes b → 16 ≤ length b → HasAt b 0 (ehdr_bytes (ehdr_at b 0))
ehdr_there b s long =
    let h = ehdr_at b 0 in
    let first : length (take 16 (drop 0 b)) ≡ 16 = length-take-le 16 (drop 0 b) (omega (arith, long, length-drop 0 b)) in
    has_append b 0 16 (take 16 (drop 0 b)) (e16 h) (λ j l. sym (get_or-take 16 (drop 0 b) j 0 (omega (arith, l, first)) ∙ get_or-drop 0 b j 0)) (omega (arith, first))
    (then b 16 18 2 (e18 h) s refl
    (then b 18 20 2 (e20 h) s refl
    (then b 20 24 4 (e24 h) s refl
    (then b 24 32 8 (e32 h) s refl
    (then b 32 40 8 (e40 h) s refl
    (then b 40 48 8 (e48 h) s refl
    (then b 48 52 4 (e52 h) s refl
    (then b 52 54 2 (e54 h) s refl
    (then b 54 56 2 (e56 h) s refl
    (then b 56 58 2 (e58 h) s refl
    (then b 58 60 2 (e60 h) s refl
    (then b 60 62 2 (e62 h) s refl
    (has_num_at b 62 2 s)))))))))))))

length-ehdr : (b : List ℕ) → 16 ≤ length b → length (ehdr_bytes (ehdr_at b 0)) ≡ 64
length-ehdr b h =
    let long : length (take 16 (drop 0 b)) ≡ 16 = length-take-le 16 (drop 0 b) (omega (arith, h, length-drop 0 b)) in
    length-append (take 16 (drop 0 b)) (e16 (ehdr_at b 0)) ∙ omega (arith, long)

-- Bytes that read as headers, and have no more than those.
pub heads_are : (b : List ℕ) (h : Ehdr) (ss : List Phdr) → AreBytes b → length b ≡ 64 + 56 * length ss → ehdr_at b 0 ≡ h → phdrs_from b 64 (length ss) ≡ ss
    → b ≡ ehdr_bytes h ++ flat_map phdr_bytes ss
heads_are b h ss s same head segments =
    let long : 16 ≤ length b = omega (arith, same) in
    let whole : HasAt b 0 (ehdr_bytes (ehdr_at b 0) ++ flat_map phdr_bytes (phdrs_from b 64 (length ss))) =
    has_append b 0 64 (ehdr_bytes (ehdr_at b 0)) (flat_map phdr_bytes (phdrs_from b 64 (length ss))) (ehdr_there b s long) (omega (arith, length-ehdr b long)) (phdrs_there b 64 (length ss) s) in
    let given : HasAt b 0 (ehdr_bytes h ++ flat_map phdr_bytes ss) = subst (λ x. HasAt b 0 (ehdr_bytes x ++ flat_map phdr_bytes ss)) head
    (subst (λ xs. HasAt b 0 (ehdr_bytes (ehdr_at b 0) ++ flat_map phdr_bytes xs)) segments whole) in
    let first : length (ehdr_bytes h) ≡ 64 = ap (λ x. length (ehdr_bytes x)) (sym head) ∙ length-ehdr b long in
    let count : length (ehdr_bytes h ++ flat_map phdr_bytes ss) ≡ length b = omega (arith, length-append (ehdr_bytes h) (flat_map phdr_bytes ss), first, length-phdrs ss, same) in
    sym (take_all (length (ehdr_bytes h ++ flat_map phdr_bytes ss)) b (omega (arith, count)))
    ∙ take_is (ehdr_bytes h ++ flat_map phdr_bytes ss) b (omega (arith, count)) (λ j l. let z : 0 + j ≡ j = omega arith in rw z at (given j l))
