-- Rounding an address up, also one that is kept modulo 2^64.
use Rattle.std.proofs.Common.{ℕ, ◌≡◌, ◌+◌, ◌-◌, ◌*◌, ◌/◌, ◌%◌, ◌^◌, ◌<◌, ◌≤◌, ◌∙◌, List, [], ◌∷◌, length, get_or, inl, inr, ap, sym, arith}
use Rattle.std.proofs.Math.Nat.{add-mul-div_right}
use Rattle.std.proofs.Math.Pow.{pow_mono}
use Rattle.std.proofs.lemmas.Nat.{div-mul-add, div-add-mod', pow-add, pow_pos}
use Rattle.std.specs.Prelude.{max}
use Rattle.std.proofs.lemmas.Bool.{cases_lt}
use Rattle.kl_model.specs.Lists.{up}
use Rattle.kl_model.specs.Placed.{first_stop}
use Rattle.kl_model.specs.declared.place.LinePart.{LinePart}
use Rattle.kl_layout.specs.Stops.{IsStep}

-- a multiple stays
pub up_multiple : (a n : ℕ) → 0 < n → a % n ≡ 0 → a ≡ up a n
up_multiple a n h e =
    let split = div-add-mod' a n in
    let same : a + n - 1 ≡ a / n * n + (n - 1) = omega arith in
    let d = div-mul-add (a / n) n (n - 1) (omega arith) in
    rw (same, d) (omega arith)

-- what is no multiple goes up by what is left to the next
pub up_between : (a n : ℕ) → 0 < n → 0 < a % n → a % n < n → a + (n - a % n) ≡ up a n
up_between a n h r below =
    let split = div-add-mod' a n in
    let same : a + n - 1 ≡ (a / n + 1) * n + (a % n - 1) = omega arith in
    let d = div-mul-add (a / n + 1) n (a % n - 1) (omega arith) in
    rw (same, d) (omega arith)

-- a whole number of multiples further on
pub up_further : (a m n : ℕ) → 0 < n → up (a + m * n) n ≡ up a n + m * n
up_further a m n h =
    let same : a + m * n + n - 1 ≡ (a + n - 1) + m * n = omega arith in
    let d = add-mul-div_right (a + n - 1) m h in
    rw (same, d) (omega arith)

-- an alignment that divides 2^64 asks the same of an address that is kept modulo 2^64
pub up_wrapped : (a n q p : ℕ) → 0 < n → q * n ≡ 2 ^ 64 → a % 2 ^ 64 + p ≡ up (a % 2 ^ 64) n → a + p ≡ up a n
up_wrapped a n q p h whole e =
    let split = div-add-mod' a (2 ^ 64) in
    let times : a / 2 ^ 64 * q * n ≡ a / 2 ^ 64 * 2 ^ 64 = grind (arith, whole) in
    let sum : a % 2 ^ 64 + a / 2 ^ 64 * q * n ≡ a = omega arith in
    let further = up_further (a % 2 ^ 64) (a / 2 ^ 64 * q) n h in
    sym (ap (λ x. up x n) (sym sum) ∙ (further ∙ omega arith))

-- a small power of two is positive, divides 2^64 and is at most 2^21
pub power_divides : (k : ℕ) → k ≤ 21 → 2 ^ (64 - k) * 2 ^ k ≡ 2 ^ 64
power_divides k h = let e : 64 - k + k ≡ 64 = omega arith in sym (pow-add 2 (64 - k) k) ∙ ap (λ n. 2 ^ n) e

pub power_small : (k : ℕ) → k ≤ 21 → 2 ^ k ≤ 2097152
power_small k h = pow_mono h

-- the same of an alignment
pub wrapped_up : (a n p : ℕ) → IsStep n → a % 2 ^ 64 + p ≡ up (a % 2 ^ 64) n → a + p ≡ up a n
wrapped_up a n p s e =
    let positive : 0 < n = omega (arith, s.2, pow_pos s.0) in
    let whole : 2 ^ (64 - s.0) * n ≡ 2 ^ 64 = ap (λ m. 2 ^ (64 - s.0) * m) s.2 ∙ power_divides s.0 s.1 in
    up_wrapped a n (2 ^ (64 - s.0)) p positive whole e

pub first_wrapped : (a p : ℕ) (d : LinePart) (parts : List LinePart) → 0 < length parts → IsStep (get_or parts 0 d).align
    → a % 2 ^ 64 + p ≡ up (a % 2 ^ 64) (get_or parts 0 d).align → (a % 2 ^ 64 + p) % 2 ^ 64 ≡ first_stop a parts % 2 ^ 64
first_wrapped a p d [] h s e = absurd (omega arith)
first_wrapped a p d (x ∷ xs) h s e = let w = wrapped_up a x.align p s e in omega (arith, w)

-- the greater of two alignments
pub max_step : (a b : ℕ) → IsStep a → IsStep b → IsStep (max a b)
max_step a b s t = elim (cases_lt a b) [
  | inl h ↦ (let e : max a b ≡ b = omega (arith, h) in rw e t)
  | inr h ↦ (let e : max a b ≡ a = omega (arith, h) in rw e s)
]

-- the next page from a page's address on
pub up_page_from : (from size m : ℕ) → 4096 * m ≡ from → up (from + size) 4096 ≡ from + up size 4096
up_page_from from size m e = omega arith
