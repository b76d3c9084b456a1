-- A name with a suffix behind it is a name.
use Rattle.std.proofs.Common.{◌≡◌, ◌≤◌, ◌+◌, ◌==◌, ℕ, Bool, true, false, not, ◌&&◌, ◌||◌, List, [], ◌∷◌, ◌++◌, length, refl, sym, ap, ◌∙◌, arith, length-append}
use Rattle.std.specs.Prelude.{Option, Some, None, Result, Ok, Err, IfErr, IsOk}
use Rattle.kl_base.specs.declared.name.NameFault.{NameFault}
use Rattle.std.specs.List.{list_all}
use Rattle.std.proofs.lemmas.Bool.{eqb-true, le-ltb, ne_eqb, or_parts, not-false, not-true}
use Rattle.std.proofs.lemmas.List.Folds.{list_all-append}
use Rattle.kl_base.specs.Names.{name_fault, any_suffix, slash_then, ends_part, dots, is_path_byte}
use Rattle.kl_base.specs.declared.limits.TheConstants.{NAME_LIMIT}
use Rattle.kl_base.proofs.Bools.{and_left, and_right}
use Rattle.kl_base.proofs.Joined.{IsSound, sound-none, none-sound}
use Rattle.kl_install.specs.Suffix.{is_file_byte, is_suffix}

and_no : (a : Bool) → (a && false) ≡ false
and_no true = refl
and_no false = refl

-- bytes that part no folder from its files
path_bytes : (s : List ℕ) → list_all is_file_byte s ≡ true → list_all is_path_byte s ≡ true
path_bytes [] e = refl
path_bytes (b ∷ s) e =
    let here = and_left (is_file_byte b) (list_all is_file_byte s) e in
    rw (and_left (is_path_byte b) (not (b == 47)) here, path_bytes s (and_right (is_file_byte b) (list_all is_file_byte s) e)) refl

no_slash : (b : ℕ) → is_file_byte b ≡ true → (b == 47) ≡ false
no_slash b e = not-true (b == 47) (and_right (is_path_byte b) (not (b == 47)) e)

no_slashes : (test : List ℕ → Bool) (s : List ℕ) → list_all is_file_byte s ≡ true → any_suffix (slash_then test) s ≡ false
no_slashes test [] e = refl
no_slashes test (b ∷ s) e =
    rw (no_slash b (and_left (is_file_byte b) (list_all is_file_byte s) e), no_slashes test s (and_right (is_file_byte b) (list_all is_file_byte s) e)) refl

-- a suffix, with its first byte behind the dot
module _ (first : ℕ) (rest : List ℕ) (no_dot : (first == 46) ≡ false) (files : list_all is_file_byte (first ∷ rest) ≡ true) where
  abbrev suffix : List ℕ
  suffix = 46 ∷ first ∷ rest

  first_no_slash : (first == 47) ≡ false
  first_no_slash = no_slash first (and_left (is_file_byte first) (list_all is_file_byte rest) files)

  all_bytes : (n : List ℕ) → list_all is_path_byte n ≡ true → list_all is_path_byte (n ++ suffix) ≡ true
  all_bytes n e = list_all-append is_path_byte n suffix ∙ rw (e, path_bytes (first ∷ rest) files) refl

  -- where a part ends no other one does
  no_end : (b : ℕ) (n : List ℕ) → ((b == 47) && ends_part n) ≡ false → ((b == 47) && ends_part (n ++ suffix)) ≡ false
  no_end b [] e = and_no (b == 47)
  no_end b (c ∷ n) e = e

  parts : (n : List ℕ) → any_suffix (slash_then ends_part) n ≡ false → any_suffix (slash_then ends_part) (n ++ suffix) ≡ false
  parts [] e = no_slashes ends_part (first ∷ rest) files
  parts (b ∷ n) e =
      let both = or_parts ((b == 47) && ends_part n) (any_suffix (slash_then ends_part) n) e in
      rw (no_end b n both.0, parts n both.1) refl

  no_dots : (b : ℕ) (n : List ℕ) → ((b == 47) && dots n) ≡ false → ((b == 47) && dots (n ++ suffix)) ≡ false
  no_dots b [] e = rw (first_no_slash, no_dot) (and_no (b == 47))
  no_dots b (a ∷ []) e = rw first_no_slash (two (b == 47) (a == 46))
    where
      two : (p q : Bool) → (p && (q && false)) ≡ false
      two true true = refl
      two true false = refl
      two false q = refl
  no_dots b (a ∷ c ∷ []) e = two (b == 47) (a == 46) (c == 47) (c == 46) e
    where
      two : (p q r s : Bool) → (p && (q && (r || (s && true)))) ≡ false → (p && (q && (r || (s && false)))) ≡ false
      two true true true s e = e
      two true true false s e = and_no s
      two true false r s e = refl
      two false q r s e = refl
  no_dots b (a ∷ c ∷ d ∷ n) e = e

  no_dot_parts : (n : List ℕ) → any_suffix (slash_then dots) n ≡ false → any_suffix (slash_then dots) (n ++ suffix) ≡ false
  no_dot_parts [] e = no_slashes dots (first ∷ rest) files
  no_dot_parts (b ∷ n) e =
      let both = or_parts ((b == 47) && dots n) (any_suffix (slash_then dots) n) e in
      rw (no_dots b n both.0, no_dot_parts n both.1) refl

  sound : (n : List ℕ) → length n + length suffix ≤ NAME_LIMIT → IsSound n → IsSound (n ++ suffix)
  sound [] short s = let no = s.empty in cc
  sound (b ∷ n) short s = record {
    empty = ne_eqb (length (b ∷ n ++ suffix)) 0 (λ e. absurd (omega (arith, e)));
    long = le-ltb NAME_LIMIT (length (b ∷ n ++ suffix)) (omega (arith, short, length-append (b ∷ n) suffix));
    absolute = s.absolute;
    bytes = ap not (all_bytes (b ∷ n) (not-false (list_all is_path_byte (b ∷ n)) s.bytes));
    parts = parts (b ∷ n) s.parts;
    dot = no_dot_parts (b ∷ n) s.dot;
  }

pub suffix_valid : (n s : List ℕ) → is_suffix s ≡ true → length n + length s ≤ NAME_LIMIT → name_fault n ≡ None → name_fault (n ++ s) ≡ None
suffix_valid n [] is short none = cc
suffix_valid n (dot ∷ []) is short none = cc
suffix_valid n (dot ∷ first ∷ rest) is short none =
    let behind = and_right (dot == 46) (not (first == 46) && list_all is_file_byte (first ∷ rest)) is in
    let dot_is : dot ≡ 46 = eqb-true dot 46 (and_left (dot == 46) (not (first == 46) && list_all is_file_byte (first ∷ rest)) is) in
    rw dot_is
    (none-sound (n ++ 46 ∷ first ∷ rest)
    (sound first rest (not-true (first == 46) (and_left (not (first == 46)) (list_all is_file_byte (first ∷ rest)) behind))
    (and_right (not (first == 46)) (list_all is_file_byte (first ∷ rest)) behind) n short (sound-none n none)))

-- what has no fault is a name
pub ok_name : (bytes : List ℕ) (r : Result (List ℕ) NameFault) → IfErr r (λ f. name_fault bytes ≡ Some f) → name_fault bytes ≡ None → IsOk r
ok_name bytes (Ok n) fault none = refl
ok_name bytes (Err f) fault none = let no : ◌≡◌ {A = Option NameFault} None (Some f) = sym none ∙ fault in cc
