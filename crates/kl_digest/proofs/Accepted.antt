-- A record is not refused, and has one digest.
use Rattle.std.proofs.Common.{◌≡◌, ◌⊎◌, inl, inr, ◌+◌, ◌==◌, ◌||◌, ℕ, true, cond, List, [], ◌∷◌, ◌++◌, length, take, drop, refl, sym, ap, ◌∙◌, arith, subst}
use Rattle.std.specs.Prelude.{Option, Some, None, Ok}
use Rattle.std.specs.List.{list_all}
use Rattle.std.proofs.Math.Seq.{take-append_seam, drop-append_seam, drop-append-add}
use Rattle.std.proofs.lemmas.List.{append-nil, length-append}
use Rattle.std.proofs.lemmas.List.Sums.{list_all-from_AllPass}
use Rattle.std.proofs.lemmas.Bool.{and_parts}
use Rattle.hex.specs.Hex.{is_hex_digit, decode_of}
use Rattle.hex.proofs.HexLemmas.{decode_of-ok, decode_of-same}
use Rattle.kl_digest.specs.declared.record.RecordFault.{RecordFault}
use Rattle.kl_digest.specs.declared.record.RecordFault.TheVariants.{Length}
use Rattle.kl_digest.specs.Records.{record_prefix, text_place, digit_place, is_end, content_fault, record_fault, IsRecord}
use Rattle.kl_digest.proofs.Digits.{alike, content_is}

digits_right : (ds : List ℕ) (n : ℕ) → list_all is_hex_digit ds ≡ true → digit_place ds n ≡ None
digits_right [] n all = refl
digits_right (d ∷ ds) n all =
    let parts = and_parts (is_hex_digit d) (list_all is_hex_digit ds) all in
    ap (λ b. cond b (digit_place ds (n + 1)) (Some n)) parts.0 ∙ digits_right ds (n + 1) parts.1

text_right : (ps xs : List ℕ) (n : ℕ) → text_place ps (ps ++ xs) n ≡ None
text_right [] xs n = refl
text_right (p ∷ ps) xs n = ap (λ b. cond b (text_place ps (ps ++ xs) (n + 1)) (Some n)) (alike p p refl) ∙ text_right ps xs (n + 1)

-- what the reader finds in a record
pub record IsTaken (digest bytes : List ℕ) : Type 0 where
  pub fault : record_fault bytes ≡ None
  pub value : decode_of (take 64 (drop 16 bytes)) ≡ Ok digest

taken : (digest digits rest : List ℕ) → length digits ≡ 64 → decode_of digits ≡ Ok digest → (length rest ≡ 0) ⊎ (length rest ≡ 1) → is_end rest ≡ true → IsTaken digest (record_prefix ++ digits ++ rest)
taken digest digits rest count value few end =
    let bytes : List ℕ = record_prefix ++ digits ++ rest in
    let behind : drop 16 bytes ≡ digits ++ rest = drop-append_seam record_prefix (digits ++ rest) in
    let the_digits : take 64 (drop 16 bytes) ≡ digits = ap (take 64) behind ∙ ap (λ k. take k (digits ++ rest)) (sym count) ∙ take-append_seam digits rest in
    let the_rest : drop 80 bytes ≡ rest = drop-append-add record_prefix (digits ++ rest) 64 ∙ ap (λ k. drop k (digits ++ rest)) (sym count) ∙ drop-append_seam digits rest in
    let right : digit_place (take 64 (drop 16 bytes)) 16 ≡ None = ap (λ l. digit_place l 16) the_digits ∙ digits_right digits 16 (list_all-from_AllPass is_hex_digit digits (decode_of-ok digits digest value).1) in
    let content : content_fault bytes ≡ None = content_is bytes rest true (sym (text_right record_prefix (digits ++ rest) 0)) (sym right) end (sym the_rest) in
    record {
      fault = ap (λ b. cond b (content_fault bytes) (Some (Length (length bytes)))) (sized few) ∙ content;
      value = ap decode_of the_digits ∙ value;
    }
  where
    sizes : length (record_prefix ++ digits ++ rest) ≡ 80 + length rest
    sizes = omega (arith, count, length-append record_prefix (digits ++ rest), length-append digits rest)

    sized : (length rest ≡ 0) ⊎ (length rest ≡ 1) → (length (record_prefix ++ digits ++ rest) == 80 || length (record_prefix ++ digits ++ rest) == 81) ≡ true
    sized (inl none) = ap (λ n. n == 80 || n == 81) (sizes ∙ ap (λ k. 80 + k) none)
    sized (inr one) = ap (λ n. n == 80 || n == 81) (sizes ∙ ap (λ k. 80 + k) one)

is_taken : (digest bytes : List ℕ) → IsRecord digest bytes → IsTaken digest bytes
is_taken digest bytes is = ends is.text
  where
    ends : (bytes ≡ record_prefix ++ is.digits) ⊎ (bytes ≡ record_prefix ++ is.digits ++ 10 ∷ []) → IsTaken digest bytes
    ends (inl plain) = subst (IsTaken digest) (sym (plain ∙ ap (λ l. record_prefix ++ l) (sym (append-nil is.digits)))) (taken digest is.digits [] is.count is.value (inl refl) refl)
    ends (inr line) = subst (IsTaken digest) (sym line) (taken digest is.digits (10 ∷ []) is.count is.value (inr refl) refl)

some_fault : (f : RecordFault) → ◌≡◌ {A = Option RecordFault} (Some f) None → ⊥
some_fault f e = cc

pub no_record : (bytes : List ℕ) (f : RecordFault) → record_fault bytes ≡ Some f → (digest : List ℕ) → IsRecord digest bytes → ⊥
no_record bytes f fault digest is = some_fault f (sym fault ∙ (is_taken digest bytes is).fault)

pub one_digest : (bytes digest other : List ℕ) → decode_of (take 64 (drop 16 bytes)) ≡ Ok digest → IsRecord other bytes → digest ≡ other
one_digest bytes digest other value is = decode_of-same (take 64 (drop 16 bytes)) digest other value (is_taken other bytes is).value
