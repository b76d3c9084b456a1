-- Bytes in an array, with zeros behind them.
use Rattle.std.proofs.Common.{◌≡◌, ℕ, ◌+◌, ◌-◌, ◌≤◌, List, ◌++◌, length, take, drop, refl, sym, ap, ◌∙◌, arith, length-append}
use Rattle.std.specs.Prelude.{replicate, None}
use Rattle.std.proofs.lemmas.List.{take_at, drop_at, drop-drop, drop-replicate, append_assoc, length-replicate}
use Rattle.std.proofs.lemmas.Slice.{take-put_mid, drop-put_mid}
use Rattle.std.proofs.Common.{take-append-drop}
use borrow.Rule.Slice.PartMut.{put_mid}
use Rattle.kl_base.specs.Names.{name_fault}
use Rattle.kl_base.specs.Padded.{IsPadded}
use Rattle.kl_base.specs.declared.limits.TheConstants.{NAME_LIMIT}

-- what stands behind a text and m more bytes
drop_behind : (xs ys : List ℕ) (m : ℕ) → drop (length xs + m) (xs ++ ys) ≡ drop m ys
drop_behind xs ys m = sym (drop-drop m (length xs) (xs ++ ys)) ∙ ap (drop m) (drop_at xs ys (length xs) refl)

zeros_behind : (xs : List ℕ) (m : ℕ) → drop (length xs + m) (xs ++ replicate (NAME_LIMIT - length xs) 0) ≡ replicate (NAME_LIMIT - (length xs + m)) 0
zeros_behind xs m =
    let left : NAME_LIMIT - length xs - m ≡ NAME_LIMIT - (length xs + m) = omega arith in
    drop_behind xs (replicate (NAME_LIMIT - length xs) 0) m ∙ (drop-replicate m (NAME_LIMIT - length xs) 0 ∙ ap (λ k. replicate k 0) left)

-- a second text written behind the first
pub put_behind : (xs ys : List ℕ) → length xs + length ys ≤ NAME_LIMIT
    → put_mid (length xs) (length xs + length ys - length xs) (xs ++ replicate (NAME_LIMIT - length xs) 0) ys ≡ xs ++ (ys ++ replicate (NAME_LIMIT - (length xs + length ys)) 0)
put_behind xs ys h =
    let n = length xs + length ys in
    let old = xs ++ replicate (NAME_LIMIT - length xs) 0 in
    let k : length xs + length ys - length xs ≡ length ys = omega arith in
    let room : length xs ≤ length old = omega (arith, length-append xs (replicate (NAME_LIMIT - length xs) 0)) in
    let front : take n (put_mid (length xs) (n - length xs) old ys) ≡ xs ++ ys =
    take-put_mid (length xs) (n - length xs) old ys n refl room ∙ ap (λ l. l ++ ys) (take_at xs (replicate (NAME_LIMIT - length xs) 0) (length xs) refl) in
    let past : length xs + (n - length xs) ≤ n = omega arith in
    let zeros : drop n old ≡ replicate (NAME_LIMIT - n) 0 = zeros_behind xs (length ys) in
    let back : drop n (put_mid (length xs) (n - length xs) old ys) ≡ replicate (NAME_LIMIT - n) 0 =
    drop-put_mid (length xs) (n - length xs) old ys n past room (sym k) ∙ zeros in
    sym (take-append-drop n (put_mid (length xs) (n - length xs) old ys)) ∙ rw (front, back) (append_assoc xs ys (replicate (NAME_LIMIT - n) 0))

-- bytes that are a name, in an array with zeros behind them
pub padded-name : (bytes xs : List ℕ) (n : ℕ) → bytes ≡ xs ++ replicate (NAME_LIMIT - n) 0 → length xs ≡ n → n ≤ NAME_LIMIT → name_fault xs ≡ None → IsPadded bytes n
padded-name bytes xs n e len h name = record {
  size = ap length e ∙ omega (arith, length-append xs (replicate (NAME_LIMIT - n) 0), length-replicate {A = ℕ} (NAME_LIMIT - n) 0);
  fits = h;
  zeros = ap (drop n) e ∙ drop_at xs (replicate (NAME_LIMIT - n) 0) n len;
  name = ap (λ l. name_fault (take n l)) e ∙ (ap name_fault (take_at xs (replicate (NAME_LIMIT - n) 0) n len) ∙ name);
}
