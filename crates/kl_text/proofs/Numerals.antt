-- Numbers are read as they were printed, and what is read was printed so.
use Rattle.std.proofs.Common.{◌≡◌, ◌<◌, ◌^◌, ℕ, Bool, true, cond, ◌&&◌, List, refl, sym, ap, ◌∙◌, subst, arith, decimal, Option}
use Rattle.std.specs.Prelude.{Some, None, Ok, Result, nat_lt}
use Rattle.std.specs.Str.{IsUtf8, bytes_eq}
use Rattle.std.specs.Str.Parse.{ParsesUnsigned, digits_value}
use Rattle.std.proofs.lemmas.Bool.{lt-ltb, ltb-true}
use Rattle.std.proofs.lemmas.Fmt.{IsAscii-decimal, decimal_is_IsNumeral, parse-decimal}
use Rattle.std.proofs.lemmas.Str.{IsUtf8-from_ascii}
use Rattle.kl_base.proofs.Bools.{and_left, and_right, chosen, equal_bytes, same_bytes}
use Rattle.kl_text.specs.Numbers.{number_of}

wide : (n : ℕ) → n < 2 ^ 32 → n < 2 ^ 64
wide n fits = omega arith

both_true : (a b : Bool) → a ≡ true → b ≡ true → (a && b) ≡ true
both_true a b p q = rw (p, q) refl

value_again : (n : ℕ) → n < 2 ^ 32 → digits_value 10 (decimal n) ≡ n
value_again n fits = (decimal_is_IsNumeral n (wide n fits)).1

pub number_again : (n : ℕ) → n < 2 ^ 32 → number_of (decimal n) ≡ Some n
unfolding number_of
number_again n fits =
    let pick = λ (m : ℕ). cond {A = Option ℕ} (nat_lt m (2 ^ 32) && bytes_eq (decimal m) (decimal n)) (Some m) None in
    ap pick (value_again n fits) ∙ ap (λ b. cond b (Some n) None) (both_true (nat_lt n (2 ^ 32)) (bytes_eq (decimal n) (decimal n)) (lt-ltb n (2 ^ 32) fits) (same_bytes (decimal n)))

pub number_from : (word : List ℕ) (n : ℕ) → number_of word ≡ Some n → (word ≡ decimal n) × (n < 2 ^ 32)
unfolding number_of
number_from word n e =
    let m = digits_value 10 word in
    let both = chosen (nat_lt m (2 ^ 32) && bytes_eq (decimal m) word) m n e in
    let less = ltb-true m (2 ^ 32) (and_left (nat_lt m (2 ^ 32)) (bytes_eq (decimal m) word) both.0) in
    let same = equal_bytes (decimal m) word (and_right (nat_lt m (2 ^ 32)) (bytes_eq (decimal m) word) both.0) in
    (sym same ∙ ap decimal both.1, subst (λ (k : ℕ). k < 2 ^ 32) both.1 less)

-- what a number as it is printed is read as
pub parsed_again : {E : Type 0} (word : List ℕ) (r : Result ℕ E) (n : ℕ) → n < 2 ^ 32 → decimal n ≡ word → ParsesUnsigned 32 10 word r → r ≡ Ok n
parsed_again word r n fits e parses = parse-decimal 32 n word r fits (wide n fits) (sym e) parses

pub is_text : (word : List ℕ) (n : ℕ) → n < 2 ^ 32 → decimal n ≡ word → IsUtf8 word
is_text word n fits e = subst IsUtf8 e (IsUtf8-from_ascii (decimal n) (IsAscii-decimal n (wide n fits)))
