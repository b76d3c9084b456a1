-- Words of printable bytes, and digits among them.
use Rattle.std.proofs.Common.{◌≡◌, ◌≤◌, ◌-◌, ◌⊎◌, inl, inr, ℕ, Bool, true, false, cond, ◌&&◌, List, [], ◌∷◌, length, refl, sym, ap, ◌∙◌, subst, arith, Option}
use Rattle.std.specs.Prelude.{Some, None, Ok, Err, Result, nat_le, is_some, is_none}
use Rattle.std.specs.Option.{option_map}
use Rattle.std.specs.Str.{bytes_eq}
use Rattle.std.specs.List.{list_all}
use Rattle.std.proofs.lemmas.List.Sums.{list_all-from_AllPass}
use Rattle.std.proofs.lemmas.Bool.{leb-true, le-leb}
use Rattle.hex.specs.Hex.{is_hex_digit, encode_lower, lower_digits, decode_sized}
use Rattle.hex.specs.declared.error.FromHexError.{FromHexError}
use Rattle.hex.proofs.HexLemmas.{decode_of-encode_lower, decode_of-ok, decode_sized-ok, decode_sized-twice, length-encode_with}
use Rattle.kl_base.specs.Names.{is_path_byte, name_fault}
use Rattle.kl_base.proofs.Bools.{and_left, and_right, chosen, none_is, same_bytes, equal_bytes, other_bytes}
use Rattle.kl_base.proofs.Joined.{name_bytes}
use Rattle.kl_intent.specs.IntentText.{is_target, is_target_name, digest_of, digits_of, old_of, old_word, IsDigest, IsOld}

-- a printable byte that isn't a space, and a digit
in_range : (low high b : ℕ) → 33 ≤ low → high ≤ 126 → (nat_le low b && nat_le b high) ≡ true → is_path_byte b ≡ true
in_range low high b least most e =
    let above = leb-true low b (and_left (nat_le low b) (nat_le b high) e) in
    let below = leb-true b high (and_right (nat_le low b) (nat_le b high) e) in
    rw (le-leb 33 b (omega (arith, above, least)), le-leb b 126 (omega (arith, below, most))) refl

three : (p q r : Bool) (x y z : ℕ) → is_some {T = ℕ} (cond p (Some x) (cond q (Some y) (cond r (Some z) None))) ≡ true → (p ≡ true) ⊎ ((q ≡ true) ⊎ (r ≡ true))
three true q r x y z e = inl refl
three false true r x y z e = inr (inl refl)
three false false true x y z e = inr (inr refl)
three false false false x y z e = cc

hex_path : (b : ℕ) → is_hex_digit b ≡ true → is_path_byte b ≡ true
hex_path b e = cases (three (nat_le 65 b && nat_le b 70) (nat_le 97 b && nat_le b 102) (nat_le 48 b && nat_le b 57) (b - 55) (b - 87) (b - 48) e)
  where
    cases : ((nat_le 65 b && nat_le b 70) ≡ true) ⊎ (((nat_le 97 b && nat_le b 102) ≡ true) ⊎ ((nat_le 48 b && nat_le b 57) ≡ true)) → is_path_byte b ≡ true
    cases (inl upper) = in_range 65 70 b (omega arith) (omega arith) upper
    cases (inr (inl lower)) = in_range 97 102 b (omega arith) (omega arith) lower
    cases (inr (inr number)) = in_range 48 57 b (omega arith) (omega arith) number

all_path : (w : List ℕ) → list_all is_hex_digit w ≡ true → list_all is_path_byte w ≡ true
all_path [] e = refl
all_path (b ∷ w) e = rw (hex_path b (and_left (is_hex_digit b) (list_all is_hex_digit w) e), all_path w (and_right (is_hex_digit b) (list_all is_hex_digit w) e)) refl

pub digits_path : (d : List ℕ) → IsDigest d → list_all is_path_byte (encode_lower d) ≡ true
digits_path d is = all_path (encode_lower d) (list_all-from_AllPass is_hex_digit (encode_lower d) (decode_of-ok (encode_lower d) d (decode_of-encode_lower d is.bytes)).1)

pub digits_count : (d : List ℕ) → IsDigest d → length (encode_lower d) ≡ 64
digits_count d is = omega (arith, is.count, length-encode_with lower_digits d)

pub old_path : (o : Option (List ℕ)) → IsOld o → list_all is_path_byte (old_word o) ≡ true
old_path None is = refl
old_path (Some d) is = digits_path d is

pub target_name : (t : List ℕ) → is_target t ≡ true → name_fault t ≡ None
target_name t is = none_is (name_fault t) (and_left (is_none (name_fault t)) (is_target_name t) is)

pub target_path : (t : List ℕ) → is_target t ≡ true → list_all is_path_byte t ≡ true
target_path t is = name_bytes t (target_name t is)

-- what a word of digits is read as
pub digest_again : (d : List ℕ) → IsDigest d → digest_of (encode_lower d) ≡ Some d
digest_again d is =
    ap (digits_of (encode_lower d)) (decode_sized-twice (encode_lower d) 32 (omega (arith, digits_count d is)) ∙ decode_of-encode_lower d is.bytes)
    ∙ ap (λ b. cond b (Some d) None) (same_bytes (encode_lower d))

digits_from : (w d : List ℕ) (r : Result (List ℕ) FromHexError) → digits_of w r ≡ Some d → (r ≡ Ok d) × (w ≡ encode_lower d)
digits_from w d (Ok x) e = let both = chosen (bytes_eq (encode_lower x) w) x d e in (ap (λ (y : List ℕ). Ok y) both.1, sym (equal_bytes (encode_lower x) w both.0) ∙ ap encode_lower both.1)
digits_from w d (Err f) e = cc

pub digest_from : (w d : List ℕ) → digest_of w ≡ Some d → (w ≡ encode_lower d) × IsDigest d
digest_from w d e =
    let r = digits_from w d (decode_sized w 32) e in
    let size = decode_sized-ok w 32 d r.0 in
    let ok = decode_of-ok w d (sym (decode_sized-twice w 32 size) ∙ r.0) in
    (r.1, record { count = omega (arith, size, ok.2); bytes = ok.3 })

pub old_again : (o : Option (List ℕ)) → IsOld o → old_of (old_word o) ≡ Some o
old_again None is = refl
old_again (Some d) is = ap (λ b. cond b (Some None) (option_map (λ x. Some x) (digest_of (encode_lower d)))) (other_bytes (encode_lower d) (45 ∷ []) (λ same. let one = ap length same in absurd (omega (arith, one, digits_count d is))))
    ∙ ap (λ q. option_map {T = List ℕ} {U = Option (List ℕ)} (λ x. Some x) q) (digest_again d is)

mapped : (q : Option (List ℕ)) (o : Option (List ℕ)) → option_map {T = List ℕ} {U = Option (List ℕ)} (λ x. Some x) q ≡ Some o → (d : List ℕ) × (q ≡ Some d) × (o ≡ Some d)
mapped None o e = cc
mapped (Some d) o e = (d, refl, sym (same e))
  where
    same : ◌≡◌ {A = Option (Option (List ℕ))} (Some (Some d)) (Some o) → ◌≡◌ {A = Option (List ℕ)} (Some d) o
    same p = cc

pub old_from : (w : List ℕ) (o : Option (List ℕ)) → old_of w ≡ Some o → (w ≡ old_word o) × IsOld o
old_from w o e = cases (bytes_eq w (45 ∷ [])) refl
  where
    same : ◌≡◌ {A = Option (Option (List ℕ))} (Some None) (Some o) → ◌≡◌ {A = Option (List ℕ)} None o
    same p = cc

    none : (o : Option (List ℕ)) → ◌≡◌ {A = Option (List ℕ)} None o → w ≡ 45 ∷ [] → (w ≡ old_word o) × IsOld o
    none None p is = (is, tt)
    none (Some d) p is = cc

    some : (o : Option (List ℕ)) (d : List ℕ) → o ≡ Some d → (w ≡ encode_lower d) × IsDigest d → (w ≡ old_word o) × IsOld o
    some None d p is = cc
    some (Some x) d p is = let eq : d ≡ x = cc in (is.0 ∙ ap encode_lower eq, subst IsDigest eq is.1)

    cases : (b : Bool) → bytes_eq w (45 ∷ []) ≡ b → (w ≡ old_word o) × IsOld o
    cases true is = none o (same (sym (ap (λ b. cond b (Some None) (option_map (λ x. Some x) (digest_of w))) is) ∙ e)) (equal_bytes w (45 ∷ []) is)
    cases false is =
        let m = mapped (digest_of w) o (sym (ap (λ b. cond b (Some None) (option_map (λ x. Some x) (digest_of w))) is) ∙ e) in
        some o m.0 m.2 (digest_from w m.0 m.1)
