-- What numbers in bytes depend on, and what a write leaves of them.
use Rattle.std.proofs.Common.{ℕ, zero, suc, ◌≡◌, ◌+◌, ◌-◌, ◌<◌, ◌≤◌, ◌^◌, ◌∙◌, ◌⊎◌, List, ◌++◌, length, get_or, take, drop, refl, ap, sym, arith, rules, inl, inr, add-zero, length-append, length-drop, get_or-set_same, set}
use Rattle.std.proofs.Math.Nat.{pow-succ'}
use Rattle.std.proofs.lemmas.List.{places, get_or-drop, get_or-take, length-take, ext_get_or}
use borrow.Rule.Slice.PartMut.{put_mid}
use Rattle.byteorder.specs.Endian.{little_from}
use Rattle.byteorder.specs.Numbers.{little_from-take, length-bytes_low_first, little_number-reads_back}
use Rattle.std.specs.Int.{bytes_low_first}
use Rattle.std.proofs.Math.ListN.{length-set}
use Rattle.kl_le.specs.Bytes.{num, ChangesWithin, Outside}

-- numbers are equal where their bytes are
pub num-ext : (a b : List ℕ) (at bt w : ℕ) → ((k : ℕ) → k < w → get_or a (at + k) 0 ≡ get_or b (bt + k) 0) → num a at w ≡ num b bt w
unfolding num
num-ext a b at bt zero same = refl
num-ext a b at bt (suc w) same =
    let head : get_or a at 0 ≡ get_or b bt 0 = simp add-zero at (same 0 (omega arith)) in
    let tail : num a (suc at) w ≡ num b (suc bt) w = num-ext a b (suc at) (suc bt) w (λ k l.
    let ea : suc at + k ≡ at + suc k = omega arith in
    let eb : suc bt + k ≡ bt + suc k = omega arith in
    rw (ea, eb) (same (suc k) (omega arith))) in
    rw (head, tail) refl

-- a write behind a number leaves it
pub num_before : {a b : List ℕ} {at n : ℕ} (x w v : ℕ) → ChangesWithin a b at n → x + w ≤ at → num a x w ≡ v → num b x w ≡ v
num_before {a} {b} x w v c h e = num-ext b a x x w (λ k l. c.others (x + k) (inl (omega arith))) ∙ e

-- a write before a number leaves it
pub num_behind : {a b : List ℕ} {at n : ℕ} (x w v : ℕ) → ChangesWithin a b at n → at + n ≤ x → num a x w ≡ v → num b x w ≡ v
num_behind {a} {b} x w v c h e = num-ext b a x x w (λ k l. c.others (x + k) (inr (omega arith))) ∙ e

-- a write elsewhere leaves a number
pub num_kept : {a b : List ℕ} {at n : ℕ} (x w : ℕ) → ChangesWithin a b at n → (x + w ≤ at) ⊎ (at + n ≤ x) → num b x w ≡ num a x w
num_kept x w c (inl h) = num_before x w _ c h refl
num_kept x w c (inr h) = num_behind x w _ c h refl

-- nothing is written
pub changes_none : (a : List ℕ) (at n : ℕ) → ChangesWithin a a at n
changes_none a at n = record { others = λ k o. refl }

-- a second write within the same wider place
pub changes_more : {a b d : List ℕ} {at n x m : ℕ} → ChangesWithin a b at n → ChangesWithin b d x m → at ≤ x → x + m ≤ at + n → ChangesWithin a d at n
changes_more f g l h = record { others = λ k o. g.others k (elim o [ inl q ↦ inl (omega arith) | inr q ↦ inr (omega arith) ]) ∙ f.others k o }

-- a write within a place is one within a wider place
pub changes_wider : {a b : List ℕ} {at n : ℕ} (x m : ℕ) → ChangesWithin a b at n → x ≤ at → at + n ≤ x + m → ChangesWithin a b x m
changes_wider x m f l h = record { others = λ k o. f.others k (elim o [ inl q ↦ inl (omega arith) | inr q ↦ inr (omega arith) ]) }

-- the number of w bytes is below 256 ^ w
pub bounds : (b : List ℕ) (at w : ℕ) → ((k : ℕ) → get_or b k 0 < 256) → num b at w < 256 ^ w
unfolding num
bounds b at zero small = omega arith
bounds b at (suc w) small =
    let byte = small at in
    let rest = bounds b (suc at) w small in
    rw (pow-succ' 256 w) (omega arith)

-- the number at a place is the number at the start of what stands from there on
pub num-drop : (b : List ℕ) (at x w : ℕ) → little_from x w (drop at b) ≡ num b (at + x) w
unfolding num
num-drop b at x zero = refl
num-drop b at x (suc w) =
    let byte : get_or (drop at b) x 0 ≡ get_or b (at + x) 0 = get_or-drop at b x 0 in
    let step : at + suc x ≡ suc (at + x) = omega arith in
    let rest : little_from (suc x) w (drop at b) ≡ num b (suc (at + x)) w = rw (← step) (num-drop b at (suc x) w) in
    rw (byte, rest) refl

-- a number that is read from its part of the bytes
pub num_read : (b : List ℕ) (at n w v : ℕ) → n ≡ w → v ≡ little_from 0 w (take (at + n - at) (drop at b)) → v ≡ num b at n
num_read b at n w v e read =
    let part : at + n - at ≡ w = omega arith in
    let place : at + 0 ≡ at = omega arith in
    let whole : little_from 0 w (drop at b) ≡ num b at w = rw place at (num-drop b at 0 w) in
    let taken : little_from 0 w (take w (drop at b)) ≡ num b at w = little_from-take 0 w w (drop at b) (omega arith) ∙ whole in
    rw e ((rw part at read) ∙ taken)

-- the number of the bytes that were written at a place
pub num-put_mid : (b bytes : List ℕ) (at w : ℕ) → at + w ≤ length b → length bytes ≡ w → num (put_mid at w b bytes) at w ≡ little_from 0 w bytes
num-put_mid b bytes at w room long =
    num-ext (put_mid at w b bytes) bytes at 0 w (λ k l. search (rules, places)) ∙ sym (num-drop bytes 0 0 w)

-- a number that is written into its part of the bytes
pub num_written : (b new : List ℕ) (at n w v : ℕ) → n ≡ w → at + n ≤ length b → v < 256 ^ n
    → new ≡ bytes_low_first 0 w v ++ drop w (take (at + n - at) (drop at b)) → num (put_mid at (at + n - at) b new) at n ≡ v
num_written b new at n w v e room fits written =
    let part : at + n - at ≡ w = omega arith in
    let small : v < 256 ^ w = rw e at fits in
    let wide : at + w ≤ length b = omega arith in
    let rest : List ℕ = drop w (take w (drop at b)) in
    let now : new ≡ bytes_low_first 0 w v ++ rest = rw part at written in
    let long : length (bytes_low_first 0 w v ++ rest) ≡ w = simp (length-append, length-bytes_low_first, length-drop, length-take) (omega arith) in
    rw (part, e, now) (num-put_mid b (bytes_low_first 0 w v ++ rest) at w wide long ∙ little_number-reads_back w v rest small)

-- a byte that is written into its part of the bytes
pub num_set : (b : List ℕ) (at n v : ℕ) → n ≡ 1 → at + n ≤ length b → num (put_mid at (at + n - at) b (set (take (at + n - at) (drop at b)) 0 v)) at n ≡ v
num_set b at n v e room =
    let part : at + n - at ≡ 1 = omega arith in
    let wide : at + 1 ≤ length b = omega arith in
    let long : length (take 1 (drop at b)) ≡ 1 = simp (length-take, length-drop) (omega arith) in
    let stands : get_or (set (take 1 (drop at b)) 0 v) 0 0 ≡ v = get_or-set_same (take 1 (drop at b)) 0 v 0 (omega arith) in
    rw (part, e, num-put_mid b (set (take 1 (drop at b)) 0 v) at 1 wide (simp length-set (omega arith))) (omega arith)

-- a byte of the w bytes from x on
pub get_or-bytes : (b : List ℕ) (x w k : ℕ) → k < w → get_or (take w (drop x b)) k 0 ≡ get_or b (x + k) 0
get_or-bytes b x w k l = get_or-take w (drop x b) k 0 l ∙ get_or-drop x b k 0

-- bytes in place of equal bytes leave a number
pub num-same : (a b : List ℕ) (at bt w : ℕ) → take w (drop at a) ≡ take w (drop bt b) → num a at w ≡ num b bt w
num-same a b at bt w same =
    num-ext a b at bt w (λ k l. sym (get_or-bytes a at w k l) ∙ (ap (λ bytes. get_or bytes k 0) same ∙ get_or-bytes b bt w k l))

apart : (x w at n k : ℕ) → k < w → (x + w ≤ at) ⊎ (at + n ≤ x) → Outside at n (x + k)
apart x w at n k l (inl h) = inl (omega arith)
apart x w at n k l (inr h) = inr (omega arith)

-- a write elsewhere leaves w bytes
pub bytes_kept : {a b : List ℕ} {at n : ℕ} (x w : ℕ) → ChangesWithin a b at n → (x + w ≤ at) ⊎ (at + n ≤ x) → length b ≡ length a → take w (drop x b) ≡ take w (drop x a)
bytes_kept {a} {b} {at} {n} x w c o long =
    ext_get_or 0 (take w (drop x b)) (take w (drop x a)) (simp (length-take, length-drop, long) refl) (λ k l.
    let short : k < w = omega (arith, length-take w (drop x b)) in
    get_or-bytes b x w k short ∙ (c.others (x + k) (apart x w at n k short o) ∙ sym (get_or-bytes a x w k short)))
