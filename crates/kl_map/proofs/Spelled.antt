-- Words are read as they were printed, and what is read was printed so.
use Rattle.std.proofs.Common.{◌≡◌, ◌-◌, ◌<◌, ◌≤◌, ◌^◌, ◌⊎◌, inl, inr, ℕ, Bool, true, false, cond, ◌&&◌, List, [], ◌∷◌, ◌++◌, length, refl, sym, ap, ◌∙◌, subst, arith, codes, Option}
use Rattle.std.specs.Prelude.{Some, None, Ok, Err, Result, nat_le, is_some}
use Rattle.std.specs.Int.{from_be_bytes, to_be_bytes, w64}
use Rattle.std.specs.Option.{option_and_then, option_map}
use Rattle.std.specs.Str.{bytes_eq}
use Rattle.std.specs.List.{list_all}
use Rattle.std.proofs.lemmas.List.Sums.{list_all-from_AllPass}
use Rattle.std.proofs.lemmas.Bool.{leb-true, le-leb}
use Rattle.std.proofs.lemmas.Nat.{be_bytes_8, from_be_bytes-to_be_bytes_8}
use Rattle.std.proofs.lemmas.Option.{option_and_then_some}
use Rattle.hex.specs.Hex.{IsBytes, decode_sized, encode_lower, is_hex_digit}
use Rattle.hex.specs.declared.error.FromHexError.{FromHexError}
use Rattle.hex.proofs.HexLemmas.{decode_of-encode_lower, decode_of-ok, decode_sized-encode_lower, decode_sized-ok, decode_sized-twice}
use Rattle.kl_base.specs.Names.{is_path_byte, name_fault}
use Rattle.kl_base.proofs.Bools.{and_left, and_right, chosen, equal_bytes, same_bytes}
use Rattle.kl_base.specs.declared.class.Class.{Class}
use Rattle.kl_base.specs.declared.class.Class.TheVariants.{Text, Rodata, Rwdata, Bss}
use Rattle.kl_base.specs.declared.name.NameFault.{NameFault}
use Rattle.kl_text.specs.Lines.{after_prefix, cut, lacks}
use Rattle.kl_text.proofs.Cuts.{after_prefix-append, append-after_prefix, append-cut, cut-append, path-lacks}
use Rattle.kl_map.specs.MapText.{class_name, hexadecimal}
use Rattle.kl_map.specs.Reading.{address_of, bytes_of, class_of, name_if, name_of, sizes_of, spelled}
use Rattle.kl_map.proofs.Texts.{bytes_fit}

pub some_none : {A P : Type 0} (x : A) → ◌≡◌ {A = Option A} (Some x) None → P
some_none x e = cc

pub same_some : {A : Type 0} (x y : A) → ◌≡◌ {A = Option A} (Some x) (Some y) → x ≡ y
same_some x y e = cc

-- what a mapped option was
pub mapped : {A B P : Type 0} (f : A → B) (o : Option A) (y : B) → option_map f o ≡ Some y → ((x : A) → o ≡ Some x → f x ≡ y → P) → P
mapped f None y e go = some_none y (sym e)
mapped f (Some x) y e go = go x refl (same_some (f x) y e)

-- bytes in digits
pub bytes_again : (count : ℕ) (bytes : List ℕ) → length bytes ≡ count → IsBytes bytes → bytes_of count (encode_lower bytes) ≡ Some bytes
bytes_again count bytes n are =
    ap (spelled (encode_lower bytes)) (decode_sized-encode_lower bytes count n are) ∙ ap (λ b. cond b (Some bytes) None) (same_bytes (encode_lower bytes))

pub record AreBytes (count : ℕ) (word bytes : List ℕ) : Type 0 where
  pub word_is : word ≡ encode_lower bytes
  pub count_is : length bytes ≡ count
  pub fit : IsBytes bytes

spelled_from : (word bytes : List ℕ) (r : Result (List ℕ) FromHexError) → spelled word r ≡ Some bytes → (r ≡ Ok bytes) × (word ≡ encode_lower bytes)
spelled_from word bytes (Ok x) e =
    let both = chosen (bytes_eq (encode_lower x) word) x bytes e in
    (ap (λ (y : List ℕ). Ok y) both.1, sym (equal_bytes (encode_lower x) word both.0) ∙ ap encode_lower both.1)
spelled_from word bytes (Err f) e = cc

pub bytes_from : (count : ℕ) (word bytes : List ℕ) → bytes_of count word ≡ Some bytes → AreBytes count word bytes
bytes_from count word bytes e =
    let r = spelled_from word bytes (decode_sized word count) e in
    let size = decode_sized-ok word count bytes r.0 in
    let ok = decode_of-ok word bytes (sym (decode_sized-twice word count size) ∙ r.0) in
    record { word_is = r.1; count_is = omega (arith, size, ok.2); fit = ok.3 }

-- an address or a size
pub address_again : (n : ℕ) → n < 2 ^ 64 → address_of (hexadecimal n) ≡ Some n
unfolding address_of hexadecimal
address_again n fits =
    ap (λ o. option_and_then (λ digits. option_map (λ bytes. from_be_bytes w64 bytes) (bytes_of 8 digits)) o) (after_prefix-append (codes "0x") (encode_lower (to_be_bytes w64 n)))
    ∙ ap (λ o. option_map (λ bytes. from_be_bytes w64 bytes) o) (bytes_again 8 (to_be_bytes w64 n) refl (bytes_fit 8 n))
    ∙ ap (λ (m : ℕ). Some m) (from_be_bytes-to_be_bytes_8 n fits)

eight_fit : (bytes : List ℕ) → IsBytes bytes → from_be_bytes w64 bytes < 2 ^ 64
eight_fit bytes are = omega (arith, are 0, are 1, are 2, are 3, are 4, are 5, are 6, are 7)

pub address_from : (word : List ℕ) (n : ℕ) → address_of word ≡ Some n → (word ≡ hexadecimal n) × (n < 2 ^ 64)
unfolding address_of hexadecimal
address_from word n e =
    option_and_then_some (λ digits. option_map (λ bytes. from_be_bytes w64 bytes) (bytes_of 8 digits)) (after_prefix (codes "0x") word) n e (λ digits first more.
    mapped (λ bytes. from_be_bytes w64 bytes) (bytes_of 8 digits) n more (λ bytes second is.
    let from = bytes_from 8 digits bytes second in
    let again : to_be_bytes w64 n ≡ bytes = be_bytes_8 bytes n from.count_is from.fit (sym is) in (
      append-after_prefix (codes "0x") word digits first ∙ ap (λ (l : List ℕ). codes "0x" ++ l) (from.word_is ∙ ap encode_lower (sym again)),
      subst (λ (m : ℕ). m < 2 ^ 64) is (eight_fit bytes from.fit),
    )))

-- a printable byte that isn't a space, and a digit
in_range : (low high b : ℕ) → 33 ≤ low → high ≤ 126 → (nat_le low b && nat_le b high) ≡ true → is_path_byte b ≡ true
in_range low high b least most e =
    let above = leb-true low b (and_left (nat_le low b) (nat_le b high) e) in
    let below = leb-true b high (and_right (nat_le low b) (nat_le b high) e) in
    rw (le-leb 33 b (omega (arith, above, least)), le-leb b 126 (omega (arith, below, most))) refl

three : (p q r : Bool) (x y z : ℕ) → is_some {T = ℕ} (cond p (Some x) (cond q (Some y) (cond r (Some z) None))) ≡ true → (p ≡ true) ⊎ ((q ≡ true) ⊎ (r ≡ true))
three true q r x y z e = inl refl
three false true r x y z e = inr (inl refl)
three false false true x y z e = inr (inr refl)
three false false false x y z e = cc

hex_path : (b : ℕ) → is_hex_digit b ≡ true → is_path_byte b ≡ true
hex_path b e = cases (three (nat_le 65 b && nat_le b 70) (nat_le 97 b && nat_le b 102) (nat_le 48 b && nat_le b 57) (b - 55) (b - 87) (b - 48) e)
  where
    cases : ((nat_le 65 b && nat_le b 70) ≡ true) ⊎ (((nat_le 97 b && nat_le b 102) ≡ true) ⊎ ((nat_le 48 b && nat_le b 57) ≡ true)) → is_path_byte b ≡ true
    cases (inl upper) = in_range 65 70 b (omega arith) (omega arith) upper
    cases (inr (inl lower)) = in_range 97 102 b (omega arith) (omega arith) lower
    cases (inr (inr number)) = in_range 48 57 b (omega arith) (omega arith) number

all_path : (w : List ℕ) → list_all is_hex_digit w ≡ true → list_all is_path_byte w ≡ true
all_path [] e = refl
all_path (b ∷ w) e = rw (hex_path b (and_left (is_hex_digit b) (list_all is_hex_digit w) e), all_path w (and_right (is_hex_digit b) (list_all is_hex_digit w) e)) refl

digits_path : (bytes : List ℕ) → IsBytes bytes → list_all is_path_byte (encode_lower bytes) ≡ true
digits_path bytes are =
    all_path (encode_lower bytes) (list_all-from_AllPass is_hex_digit (encode_lower bytes) (decode_of-ok (encode_lower bytes) bytes (decode_of-encode_lower bytes are)).1)

-- no word has a space or a newline in it
pub digits_lack : (value : ℕ) (bytes : List ℕ) → value < 33 → IsBytes bytes → lacks value (encode_lower bytes) ≡ true
digits_lack value bytes low are = path-lacks value (encode_lower bytes) low (digits_path bytes are)

pub address_lacks : (value n : ℕ) → value < 33 → lacks value (hexadecimal n) ≡ true
unfolding hexadecimal
address_lacks value n low = path-lacks value (codes "0x" ++ encode_lower (to_be_bytes w64 n)) low (digits_path (to_be_bytes w64 n) (bytes_fit 8 n))

pub class_lacks : (value : ℕ) (c : Class) → value < 33 → lacks value (class_name c) ≡ true
class_lacks value Text low = path-lacks value (codes "text") low refl
class_lacks value Rodata low = path-lacks value (codes "rodata") low refl
class_lacks value Rwdata low = path-lacks value (codes "data") low refl
class_lacks value Bss low = path-lacks value (codes "bss") low refl

-- two addresses or sizes
abbrev pub sizes_text : ℕ → ℕ → List ℕ
sizes_text a b = hexadecimal a ++ 32 ∷ hexadecimal b

pub sizes_again : (a b : ℕ) → a < 2 ^ 64 → b < 2 ^ 64 → sizes_of (sizes_text a b) ≡ Some (a, b)
unfolding sizes_of
sizes_again a b first second =
    ap (λ o. option_and_then (λ (x, y). option_and_then (λ m. option_map (λ n. (m, n)) (address_of y)) (address_of x)) o) (cut-append 32 (hexadecimal a) (hexadecimal b) (address_lacks 32 a (omega arith)))
    ∙ ap (λ o. option_and_then (λ m. option_map {U = ℕ × ℕ} (λ n. (m, n)) (address_of (hexadecimal b))) o) (address_again a first)
    ∙ ap (λ o. option_map {U = ℕ × ℕ} (λ n. (a, n)) o) (address_again b second)

pub record AreSizes (text : List ℕ) (a b : ℕ) : Type 0 where
  pub text_is : text ≡ sizes_text a b
  pub first : a < 2 ^ 64
  pub second : b < 2 ^ 64

pub sizes_from : (text : List ℕ) (a b : ℕ) → sizes_of text ≡ Some (a, b) → AreSizes text a b
unfolding sizes_of
sizes_from text a b e =
    option_and_then_some (λ (x, y). option_and_then (λ m. option_map (λ n. (m, n)) (address_of y)) (address_of x)) (cut 32 text) (a, b) e (λ p cuts more.
    option_and_then_some (λ m. option_map (λ n. (m, n)) (address_of p.1)) (address_of p.0) (a, b) more (λ m first most.
    mapped (λ n. (m, n)) (address_of p.1) (a, b) most (λ n second all.
    let from = address_from p.0 m first in
    let back = address_from p.1 n second in
    let one : m ≡ a = ap (λ (q : ℕ × ℕ). q.0) all in
    let two : n ≡ b = ap (λ (q : ℕ × ℕ). q.1) all in
    record {
      text_is = append-cut 32 text p.0 p.1 cuts ∙ ap (λ (l : List ℕ). l ++ 32 ∷ p.1) (from.0 ∙ ap hexadecimal one) ∙ ap (λ (l : List ℕ). hexadecimal a ++ 32 ∷ l) (back.0 ∙ ap hexadecimal two);
      first = subst (λ (k : ℕ). k < 2 ^ 64) one from.1;
      second = subst (λ (k : ℕ). k < 2 ^ 64) two back.1;
    })))

-- a class
pub class_again : (c : Class) → class_of (class_name c) ≡ Some c
class_again Text = refl
class_again Rodata = refl
class_again Rwdata = refl
class_again Bss = refl

picked : {X P : Type 0} (b : Bool) (x y : X) (o : Option X) → cond b (Some x) o ≡ Some y → (b ≡ true → x ≡ y → P) → (o ≡ Some y → P) → P
picked true x y o e here there = here refl (same_some x y e)
picked false x y o e here there = there e

pub class_from : (word : List ℕ) (c : Class) → class_of word ≡ Some c → word ≡ class_name c
class_from word c e =
    picked (bytes_eq word (codes "text")) Text c _ e (λ b s. equal_bytes word (codes "text") b ∙ ap class_name s) (λ e.
    picked (bytes_eq word (codes "rodata")) Rodata c _ e (λ b s. equal_bytes word (codes "rodata") b ∙ ap class_name s) (λ e.
    picked (bytes_eq word (codes "data")) Rwdata c _ e (λ b s. equal_bytes word (codes "data") b ∙ ap class_name s) (λ e.
    picked (bytes_eq word (codes "bss")) Bss c None e (λ b s. equal_bytes word (codes "bss") b ∙ ap class_name s) (λ e. some_none c (sym e)))))

-- a name
pub name_again : (name : List ℕ) → name_fault name ≡ None → name_of name ≡ Some name
name_again name e = ap (name_if name) e

pub name_from : (word name : List ℕ) → name_of word ≡ Some name → (word ≡ name) × (name_fault name ≡ None)
name_from word name e = cases (name_fault word) refl e
  where
    cases : (o : Option NameFault) → name_fault word ≡ o → name_if word o ≡ Some name → (word ≡ name) × (name_fault name ≡ None)
    cases None is e = let same = same_some word name e in (same, ap name_fault (sym same) ∙ is)
    cases (Some fault) is e = some_none name (sym e)
