-- The bytes of a path are text.
use Rattle.std.proofs.Common.{◌≡◌, ℕ, ◌<◌, ◌≤◌, true, List, [], ◌∷◌, ◌++◌, take, drop, refl, sym, ap, ◌∙◌, arith, take-append-drop, ◌-◌, length}
use Rattle.std.specs.Prelude.{Result, Ok, Err, IsOk, MatchResult}
use Rattle.std.specs.List.{list_all}
use Rattle.std.specs.Str.{IsAscii, IsUtf8}
use Rattle.std.proofs.lemmas.List.Folds.{list_all-append}
use Rattle.std.proofs.lemmas.List.{take_rest}
use Rattle.std.proofs.lemmas.Bool.{and_parts}
use Rattle.std.proofs.lemmas.Str.{IsUtf8-from_ascii}
use Rattle.std.proofs.lemmas.Str.Ascii.{IsAscii-nil, IsAscii-cons}
use Rattle.kl_base.specs.Names.{is_path_byte}

-- some first ones of them, and those behind the first
pub front_bytes : (i : ℕ) (n : List ℕ) → list_all is_path_byte n ≡ true → list_all is_path_byte (take i n) ≡ true
front_bytes i n e =
    (and_parts (list_all is_path_byte (take i n)) (list_all is_path_byte (drop i n))
    (sym (list_all-append is_path_byte (take i n) (drop i n)) ∙ (ap (list_all is_path_byte) (take-append-drop i n) ∙ e))).0

pub rest_bytes : (b : ℕ) (n : List ℕ) → list_all is_path_byte (b ∷ n) ≡ true → list_all is_path_byte n ≡ true
rest_bytes b n e = (and_parts (is_path_byte b) (list_all is_path_byte n) e).1

ascii_byte : (b : ℕ) → is_path_byte b ≡ true → b < 128
ascii_byte b e = grind arith

ascii : (n : List ℕ) → list_all is_path_byte n ≡ true → IsAscii n
ascii [] e = IsAscii-nil
ascii (b ∷ n) e = IsAscii-cons b n (ascii_byte b (and_parts (is_path_byte b) (list_all is_path_byte n) e).0) (ascii n (rest_bytes b n e))

pub is_text : (n : List ℕ) → list_all is_path_byte n ≡ true → IsUtf8 n
is_text n e = IsUtf8-from_ascii n (ascii n e)

behind_first : (n : List ℕ) → list_all is_path_byte n ≡ true → IsUtf8 (drop 1 n)
behind_first [] e = is_text [] refl
behind_first (b ∷ n) e = is_text n (rest_bytes b n e)

pub rest_text : (n : List ℕ) → list_all is_path_byte n ≡ true → IsUtf8 (take (length n - 1) (drop 1 n))
rest_text n e = rw (take_rest n 1) (behind_first n e)

-- a result that isn't an error
pub ok_of : {T E : Type 0} (r : Result T E) (P : T → Type 0) (Q : E → Type 0) → MatchResult r P Q → ((e : E) → Q e → ⊥) → IsOk r
ok_of (Ok x) P Q m never = refl
ok_of (Err e) P Q m never = absurd (never e m)
