-- Numbers that are read as far as the bytes go, and texts that are compared with names.
use Rattle.std.proofs.Common.{ℕ, suc, ◌≡◌, ◌+◌, ◌-◌, ◌<◌, ◌∙◌, List, [], ◌∷◌, ◌++◌, ap, arith, drop, get_or, length, nat_eq, refl, sym, take, true, false, inl, inr}
use Rattle.std.proofs.lemmas.Bool.{cases_Bool, cases_lt}
use Rattle.std.proofs.lemmas.List.{get_or-drop, get_or-take, get_or-append_right, get_or_append_left, get_or-replicate, get_or_past, length-replicate, length-take-le}
use Rattle.std.proofs.Math.Seq.{take-nil}
use Rattle.std.specs.List.{before_first, position_or_len}
use Rattle.std.specs.Str.{bytes_eq}
use Rattle.std.specs.Prelude.{Bool, cond, ◌&&◌, min, replicate}
use Rattle.kl_le.proofs.Num.{num-ext}
use Rattle.kl_le.specs.Bytes.{num}

get_or-zeros : (n k : ℕ) → get_or {A = ℕ} (replicate n 0) k 0 ≡ 0
get_or-zeros n k = elim (cases_lt k n) [
  | inl h ↦ get_or-replicate n k 0 0 h
  | inr h ↦ get_or_past (replicate n 0) k 0 (omega (arith, h, length-replicate {A = ℕ} n 0))
]

-- a number in so many bytes, zero past the end, is that number
pub num_padded : (b : List ℕ) (at offset w len : ℕ) (rest field : List ℕ) → rest ≡ drop offset (drop at b) → len ≡ min (length rest) w → field ≡ take len rest
    → num (field ++ drop len (replicate w 0)) 0 w ≡ num b (at + offset) w
num_padded b at offset w len rest field from short is = num-ext (field ++ drop len (replicate w 0)) b 0 (at + offset) w byte
  where
    long : length field ≡ len
    long = ap length is ∙ length-take-le len rest (omega (arith, short))

    there : (k : ℕ) → get_or rest k 0 ≡ get_or b (at + offset + k) 0
    there k =
        let e : at + (offset + k) ≡ at + offset + k = omega arith in
        ap (λ l. get_or l k 0) from ∙ (get_or-drop offset (drop at b) k 0 ∙ (get_or-drop at b (offset + k) 0 ∙ ap (λ n. get_or b n 0) e))

    byte : (k : ℕ) → k < w → get_or (field ++ drop len (replicate w 0)) (0 + k) 0 ≡ get_or b (at + offset + k) 0
    byte k h =
        let z : 0 + k ≡ k = omega arith in
        ap (λ n. get_or (field ++ drop len (replicate w 0)) n 0) z
        ∙ elim (cases_lt k len) [
          | inl l ↦
              get_or_append_left field (drop len (replicate w 0)) 0 k (omega (arith, long, l))
              ∙ (ap (λ x. get_or x k 0) is ∙ (get_or-take len rest k 0 l ∙ there k))
          | inr l ↦
              get_or-append_right field (drop len (replicate w 0)) len k 0 long l
              ∙ (get_or-drop len (replicate w 0) (k - len) 0 ∙ (get_or-zeros w (len + (k - len))
              ∙ sym (sym (there k) ∙ get_or_past rest k 0 (omega (arith, short, l, h)))))
        ]

-- a text ends at its first zero byte
first_byte : (x : ℕ) (xs : List ℕ) → before_first (λ c. nat_eq c 0) (x ∷ xs) ≡ cond (nat_eq x 0) [] (x ∷ before_first (λ c. nat_eq c 0) xs)
first_byte x xs = elim (cases_Bool (nat_eq x 0)) [
  | inl a ↦ rw a refl
  | inr a ↦ rw a (let e : 1 + position_or_len (λ c. nat_eq c 0) xs ≡ suc (position_or_len (λ c. nat_eq c 0) xs) = omega arith in rw e refl)
]

first_is : (x : ℕ) (xs name : List ℕ) → bytes_eq (before_first (λ c. nat_eq c 0) (x ∷ xs)) name ≡ cond (nat_eq x 0) (bytes_eq [] name) (bytes_eq (x ∷ before_first (λ c. nat_eq c 0) xs) name)
first_is x xs name = ap (λ l. bytes_eq l name) (first_byte x xs) ∙ go (nat_eq x 0)
  where
    go : (b : Bool) → bytes_eq (cond b [] (x ∷ before_first (λ c. nat_eq c 0) xs)) name ≡ cond b (bytes_eq [] name) (bytes_eq (x ∷ before_first (λ c. nat_eq c 0) xs) name)
    go true = refl
    go false = refl

-- a text is a name where its bytes are, as far as the name goes and one more
pub short_text : (xs name : List ℕ) → bytes_eq (before_first (λ c. nat_eq c 0) (take (length name + 1) xs)) name ≡ bytes_eq (before_first (λ c. nat_eq c 0) xs) name
short_text [] name = ap (λ l. bytes_eq (before_first (λ c. nat_eq c 0) l) name) (take-nil (length name + 1))
short_text (x ∷ xs) [] = let e : 0 + 1 ≡ 1 = omega arith in rw e (first_is x [] [] ∙ sym (first_is x xs []))
short_text (x ∷ xs) (n ∷ name) =
    let e : suc (length name) + 1 ≡ suc (length name + 1) = omega arith in
    rw e (first_is x (take (length name + 1) xs) (n ∷ name)
    ∙ (ap (λ b. cond (nat_eq x 0) false (nat_eq x n && b)) (short_text xs name) ∙ sym (first_is x xs (n ∷ name))))
