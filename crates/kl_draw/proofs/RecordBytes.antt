-- A record that is read from bytes is written as those bytes.
use Rattle.std.proofs.Common.{ℕ, zero, suc, ◌≡◌, ◌+◌, ◌*◌, ◌/◌, ◌%◌, ◌<◌, ◌≤◌, ◌∙◌, List, [], ◌∷◌, ◌++◌, length, get_or, take, drop, refl, ap, sym, subst, arith, drop-cons}
use Rattle.std.proofs.lemmas.List.{append-nil, drop_all, take-append-drop}
use Rattle.kl_le.specs.Bytes.{num}
use Rattle.kl_elf.specs.Records.{ehdr_at, shdr_at}
use Rattle.kl_elf.specs.declared.records.Ehdr.{Ehdr}
use Rattle.kl_elf.specs.declared.records.Shdr.{Shdr}
use Rattle.kl_model.specs.Written.{bytes_of, ehdr_bytes, shdr_bytes}

-- each item is a byte; so is what a list has behind its end
abbrev pub AreBytes : List ℕ → Type 0
AreBytes b = (k : ℕ) → get_or b k 0 < 256

-- the bytes from a place on begin with those of the number that is read there
pub number_there : (b : List ℕ) (at w : ℕ) → AreBytes b → at + w ≤ length b → drop at b ≡ bytes_of w (num b at w) ++ drop (at + w) b
unfolding num
number_there b at zero s h = let e : at + 0 ≡ at = omega arith in rw e refl
number_there b at (suc w) s h =
    let e : at + suc w ≡ suc at + w = omega arith in
    let n : ℕ = get_or b at 0 + 256 * num b (suc at) w in
    let low : n % 256 ≡ get_or b at 0 = omega (arith, s at) in
    let high : n / 256 ≡ num b (suc at) w = omega (arith, s at) in
    let here : at < length b = omega (arith, h) in
    rw (e, low, high) (drop-cons b at 0 here ∙ ap (λ xs. get_or b at 0 ∷ xs) (number_there b (suc at) w s (omega (arith, h))))

-- and then those of what stands behind it
pub then : (b : List ℕ) (at next w : ℕ) (ys : List ℕ) → AreBytes b → next ≡ at + w → next ≤ length b → drop next b ≡ ys
    → drop at b ≡ bytes_of w (num b at w) ++ ys
then b at next w ys s e h rest =
    number_there b at w s (omega (arith, e, h)) ∙ ap (λ xs. bytes_of w (num b at w) ++ xs) (subst (λ n. drop n b ≡ ys) e rest)

-- up to the end
pub ends : (b : List ℕ) (at w : ℕ) → AreBytes b → at + w ≡ length b → drop at b ≡ bytes_of w (num b at w)
ends b at w s e =
    then b at (at + w) w [] s refl (omega (arith, e)) (drop_all (at + w) b (omega (arith, e))) ∙ append-nil (bytes_of w (num b at w))

pub section_is : (b : List ℕ) (s : Shdr) → AreBytes b → length b ≡ 64 → shdr_at b 0 ≡ s → b ≡ shdr_bytes s
section_is b s are long e =
    then b 0 4 4 _ are refl (omega (arith, long))
    (then b 4 8 4 _ are refl (omega (arith, long))
    (then b 8 16 8 _ are refl (omega (arith, long))
    (then b 16 24 8 _ are refl (omega (arith, long))
    (then b 24 32 8 _ are refl (omega (arith, long))
    (then b 32 40 8 _ are refl (omega (arith, long))
    (then b 40 44 4 _ are refl (omega (arith, long))
    (then b 44 48 4 _ are refl (omega (arith, long))
    (then b 48 56 8 _ are refl (omega (arith, long))
    (ends b 56 8 are (omega (arith, long)))))))))))
    ∙ ap shdr_bytes e

pub head_is : (b : List ℕ) (h : Ehdr) → AreBytes b → length b ≡ 64 → ehdr_at b 0 ≡ h → b ≡ ehdr_bytes h
head_is b h are long e =
    sym (take-append-drop 16 b)
    ∙ ap (λ xs. take 16 b ++ xs)
    (then b 16 18 2 _ are refl (omega (arith, long))
    (then b 18 20 2 _ are refl (omega (arith, long))
    (then b 20 24 4 _ are refl (omega (arith, long))
    (then b 24 32 8 _ are refl (omega (arith, long))
    (then b 32 40 8 _ are refl (omega (arith, long))
    (then b 40 48 8 _ are refl (omega (arith, long))
    (then b 48 52 4 _ are refl (omega (arith, long))
    (then b 52 54 2 _ are refl (omega (arith, long))
    (then b 54 56 2 _ are refl (omega (arith, long))
    (then b 56 58 2 _ are refl (omega (arith, long))
    (then b 58 60 2 _ are refl (omega (arith, long))
    (then b 60 62 2 _ are refl (omega (arith, long))
    (ends b 62 2 are (omega (arith, long)))))))))))))))
    ∙ ap ehdr_bytes e
