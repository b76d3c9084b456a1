-- The lengths of texts in strings.
use Rattle.std.proofs.Common.{ℕ, zero, suc, ◌≡◌, ◌+◌, ◌-◌, ◌<◌, ◌≤◌, ◌∙◌, inl, inr, Bool, true, false, cond, not, List, [], ◌∷◌, length, take, drop, min, refl, ap, sym, arith, ◌≢◌, le-ltb, lt-ltb, length-drop}
use Rattle.std.specs.Prelude.{◌==◌, nat_lt, position, slice_range, unwrap_or, Some, None}
use Rattle.std.specs.List.{list_any, position_or_len}
use Rattle.std.proofs.lemmas.Bool.{cases_lt, ltb-true, ltb-false}
use Rattle.std.proofs.lemmas.List.{length-take}
use Rattle.std.proofs.lemmas.List.Sums.{prefix_len-drop_all, prefix_len-le-length}
use Rattle.std.proofs.Math.ListN.{drop_of_length-le}
use Rattle.kl_model.specs.Loaded.{text_in}
use Rattle.kl_image.specs.Texts.{text_len}

abbrev len_of : List ℕ → ℕ
len_of xs = position_or_len (λ c. c == 0) xs

-- a zero byte among the first m bytes, or none
found : (xs : List ℕ) (m : ℕ) → len_of (take m xs) < length (take m xs) → len_of xs ≡ len_of (take m xs)
found xs zero h = absurd (omega arith)
found [] (suc m) h = absurd (omega arith)
found (x ∷ xs) (suc m) h = go (x == 0) h (λ l. found xs m l)
  where
    go : (z : Bool) → cond (not z) (1 + len_of (take m xs)) 0 < suc (length (take m xs)) → (len_of (take m xs) < length (take m xs) → len_of xs ≡ len_of (take m xs))
        → cond (not z) (1 + len_of xs) 0 ≡ cond (not z) (1 + len_of (take m xs)) 0
    go true h rest = refl
    go false h rest = ap (λ n. 1 + n) (rest (omega arith))

passed : (xs : List ℕ) (m : ℕ) → length (take m xs) ≤ len_of (take m xs) → len_of xs ≡ length (take m xs) + len_of (drop m xs)
passed xs zero h = omega arith
passed [] (suc m) h = omega arith
passed (x ∷ xs) (suc m) h = go (x == 0) h (λ l. passed xs m l)
  where
    go : (z : Bool) → suc (length (take m xs)) ≤ cond (not z) (1 + len_of (take m xs)) 0 → (length (take m xs) ≤ len_of (take m xs) → len_of xs ≡ length (take m xs) + len_of (drop m xs))
        → cond (not z) (1 + len_of xs) 0 ≡ suc (length (take m xs)) + len_of (drop m xs)
    go true h rest = absurd (omega arith)
    go false h rest = let step = rest (omega arith) in omega (arith, step)

pub drop-again : (k m : ℕ) (xs : List ℕ) → drop m (drop k xs) ≡ drop (k + m) xs
drop-again zero m xs = let e : zero + m ≡ m = omega arith in rw e refl
drop-again (suc k) m [] = drop_of_length-le [] (omega arith) ∙ sym (drop_of_length-le [] (omega arith))
drop-again (suc k) m (x ∷ xs) = let e : suc k + m ≡ suc (k + m) = omega arith in rw e (drop-again k m xs)

-- the length of a text by the part of it up to a block's end, or the table's
part : (t : List ℕ) (place end : ℕ) → place ≤ end → end ≤ length t → length (take (end - place) (drop place t)) ≡ end - place
part t place end low high = simp (length-take, length-drop) (omega arith)

past : (t : List ℕ) (block end : ℕ) → end ≡ min block (length t) → text_len t end ≡ text_len t block
past t block end e = go (nat_lt block (length t)) refl
  where
    go : (x : Bool) → nat_lt block (length t) ≡ x → text_len t end ≡ text_len t block
    go true lt = let below = ltb-true block (length t) lt in let same : end ≡ block = omega (arith, below, e) in rw same refl
    go false lt =
        let above = ltb-false block (length t) lt in
        prefix_len-drop_all (λ c. not (c == 0)) t end (omega (arith, above, e)) ∙ sym (prefix_len-drop_all (λ c. not (c == 0)) t block above)

pub len_found : (t : List ℕ) (place end : ℕ) → place ≤ end → end ≤ length t → len_of (slice_range t place end) < end - place → text_len t place ≡ len_of (slice_range t place end)
len_found t place end low high h = found (drop place t) (end - place) (rw (part t place end low high) h)

pub len_passed : (t : List ℕ) (place end block : ℕ) → place ≤ end → end ≡ min block (length t) → end - place ≤ len_of (slice_range t place end)
    → text_len t place ≡ (end - place) + text_len t block
len_passed t place end block low e h =
    let high : end ≤ length t = omega (arith, e) in
    let long = part t place end low high in
    let f : place + (end - place) ≡ end = omega arith in
    let again = rw f at (drop-again place (end - place) t) in
    let whole = passed (drop place t) (end - place) (rw long h) in
    whole ∙ rw (long, again, past t block end e) refl

-- no text is left past the end
pub none_left : (t : List ℕ) (k : ℕ) → length t ≤ k → text_len t k ≡ 0
none_left t k h = prefix_len-drop_all (λ c. not (c == 0)) t k h

pub or_len : (xs : List ℕ) → unwrap_or (position (λ c. c == 0) xs) (length xs) ≡ position_or_len (λ c. c == 0) xs
or_len xs = go (nat_lt (len_of xs) (length xs)) refl
  where
    go : (x : Bool) → nat_lt (len_of xs) (length xs) ≡ x → unwrap_or (cond x (Some (len_of xs)) None) (length xs) ≡ len_of xs
    go true e = refl
    go false e =
        let far = ltb-false (len_of xs) (length xs) e in
        let near = prefix_len-le-length (λ c. not (c == 0)) xs in
        omega (arith, far, near)

pub zeros_bound : (t : List ℕ) (k : ℕ) → text_len t k ≤ length t
zeros_bound t k = let bound = prefix_len-le-length (λ c. not (c == 0)) (drop k t) in let long = rw length-drop at bound in omega (arith, long)

pub part_bound : (t : List ℕ) (place end : ℕ) → len_of (slice_range t place end) ≤ end - place
part_bound t place end =
    let bound = prefix_len-le-length (λ c. not (c == 0)) (slice_range t place end) in
    let long = rw length-take at bound in
    omega (arith, long)

-- the text at a place by its length there
next_below : (m n : ℕ) → nat_lt (1 + m) (suc n) ≡ nat_lt m n
next_below m n = elim (cases_lt m n) [
  | inl less ↦ rw (lt-ltb m n less) (lt-ltb (1 + m) (suc n) (omega (arith, less)))
  | inr high ↦ rw (le-ltb m n high) (le-ltb (1 + m) (suc n) (omega (arith, high)))
]

-- an item passes where the first that does stands in the list
pub any_first : {X : Type 0} (p : X → Bool) (xs : List X) → nat_lt (position_or_len p xs) (length xs) ≡ list_any p xs
any_first p [] = refl
any_first p (x ∷ xs) = go (p x) refl (any_first p xs)
  where
    go : (t : Bool) → p x ≡ t → nat_lt (position_or_len p xs) (length xs) ≡ list_any p xs → nat_lt (position_or_len p (x ∷ xs)) (length (x ∷ xs)) ≡ list_any p (x ∷ xs)
    go true is rest = rw is (lt-ltb 0 (suc (length xs)) (omega arith))
    go false is rest = rw is (next_below (position_or_len p xs) (length xs) ∙ rest)

pub text_some : (s : List ℕ) (at end : ℕ) → at < length s → end ≡ at + text_len s at → end ≢ length s → Some (take (end - at) (drop at s)) ≡ text_in s at
text_some s at end h e other =
    let bound = prefix_len-le-length (λ c. not (c == 0)) (drop at s) in
    let long = length-drop at s in
    let below : text_len s at < length (drop at s) = below (text_len s at) (length (drop at s)) bound (λ z. other (omega (arith, z, long, h, e))) in
    let there : list_any (λ c. c == 0) (drop at s) ≡ true = sym (any_first (λ c. c == 0) (drop at s)) ∙ lt-ltb (text_len s at) (length (drop at s)) below in
    let size : end - at ≡ text_len s at = omega (arith, e) in
    rw (there, size) refl
  where
    below : (m n : ℕ) → m ≤ n → m ≢ n → m < n
    below m n le apart = omega (arith, le, apart)

pub text_none : (s : List ℕ) (at end : ℕ) → at < length s → end ≡ at + text_len s at → end ≡ length s → None ≡ text_in s at
text_none s at end h e whole =
    let long = length-drop at s in
    let there : list_any (λ c. c == 0) (drop at s) ≡ false =
    sym (any_first (λ c. c == 0) (drop at s)) ∙ le-ltb (text_len s at) (length (drop at s)) (omega (arith, long, e, whole)) in
    rw there refl

pub end_bound : (s : List ℕ) (at : ℕ) → at < length s → at + text_len s at ≤ length s
end_bound s at h =
    let bound = prefix_len-le-length (λ c. not (c == 0)) (drop at s) in
    let long = length-drop at s in
    omega (arith, bound, long)
