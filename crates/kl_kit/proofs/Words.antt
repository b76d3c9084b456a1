-- Lines and words, as they are cut.
use Rattle.std.proofs.Common.{◌≡◌, ℕ, zero, suc, ◌<◌, ◌≤◌, Bool, true, false, not, cond, ◌||◌, List, [], ◌∷◌, length, take, drop, refl, sym, ap, ◌∙◌, arith, take-append-drop, ◌-◌}
use Rattle.std.specs.Prelude.{◌==◌}
use Rattle.std.specs.List.{list_all}
use Rattle.std.proofs.lemmas.Bool.{not-true}
use Rattle.std.proofs.lemmas.List.{append-nil, take_all, length-drop}
use Rattle.bstr.specs.Find.{Passes, Nowhere}
use Rattle.bstr.specs.Bytes.{is_in, not_in}
use Rattle.kl_base.proofs.Bools.{and_left, and_right}
use Rattle.kl_text.specs.Lines.{lacks, lines, words, is_blank, in_word, put_byte, IsOneWord}
use Rattle.kl_text.proofs.Printed.{word-append}

abbrev pub blanks : List ℕ
blanks = 32 ∷ 9 ∷ []

or_none : (x : Bool) → (x || false) ≡ x
or_none true = refl
or_none false = refl

in_blanks : (b : ℕ) → is_in blanks b ≡ is_blank b
unfolding is_in
in_blanks b = ap (λ t. (b == 32) || t) (or_none (b == 9))

not_true : (t : Bool) → (t ≡ true → ⊥) → t ≡ false
not_true true h = absurd (h refl)
not_true false h = refl

not_not : (t : Bool) → (not t ≡ true → ⊥) → t ≡ true
not_not true h = refl
not_not false h = absurd (h refl)

-- a byte that isn't outside the blanks, and one that isn't in them
blank_at : (b : ℕ) → (not_in blanks b ≡ true → ⊥) → is_blank b ≡ true
blank_at b h = sym (in_blanks b) ∙ not_not (is_in blanks b) h

other_at : (b : ℕ) → (is_in blanks b ≡ true → ⊥) → is_blank b ≡ false
other_at b h = sym (in_blanks b) ∙ not_true (is_in blanks b) h

-- blanks alone have no word
pub no_words : (text : List ℕ) → Nowhere (Passes (not_in blanks) text) 0 (length text) → words text ≡ []
no_words [] none = refl
no_words (b ∷ text) none =
    let here = blank_at b (none 0 (omega arith) (omega arith)) in
    rw (here, no_words text (λ k l h. none (suc k) (omega arith) (omega arith))) refl

-- blanks before a word
pub skipped : (text : List ℕ) (n : ℕ) → n < length text → Nowhere (Passes (not_in blanks) text) 0 n → words text ≡ words (drop n text)
skipped [] n h none = absurd (omega arith)
skipped (b ∷ text) zero h none = refl
skipped (b ∷ text) (suc n) h none =
    let here = blank_at b (none 0 (omega arith) (omega arith)) in
    rw here (skipped text n (omega arith) (λ k l m. none (suc k) (omega arith) (omega arith)))

pub begins : (text : List ℕ) (n : ℕ) → n < length text → Passes (not_in blanks) text n → in_word (drop n text) ≡ true
begins [] n h p = absurd (omega arith)
begins (b ∷ text) zero h p = ap not (sym (in_blanks b)) ∙ p
begins (b ∷ text) (suc n) h p = begins text n (omega arith) p

-- the bytes up to the first blank
other_bytes : (text : List ℕ) (n : ℕ) → n ≤ length text → Nowhere (Passes (is_in blanks) text) 0 n → list_all (λ b. not (is_blank b)) (take n text) ≡ true
other_bytes text zero h none = refl
other_bytes [] (suc n) h none = absurd (omega arith)
other_bytes (b ∷ text) (suc n) h none =
    let here = other_at b (none 0 (omega arith) (omega arith)) in
    rw (here, other_bytes text n (omega arith) (λ k l m. none (suc k) (omega arith) (omega arith))) refl

one_word : (w : List ℕ) → 0 < length w → list_all (λ b. not (is_blank b)) w ≡ true → IsOneWord w
one_word [] h all = absurd (omega arith)
one_word (b ∷ w) h all = all

ends : (text : List ℕ) (n : ℕ) → n < length text → Passes (is_in blanks) text n → in_word (drop n text) ≡ false
ends [] n h p = absurd (omega arith)
ends (b ∷ text) zero h p = ap not (sym (in_blanks b) ∙ p)
ends (b ∷ text) (suc n) h p = ends text n (omega arith) p

some_bytes : (text : List ℕ) (n : ℕ) → n < length text → in_word text ≡ true → Passes (is_in blanks) text n → 0 < length (take n text)
some_bytes [] n h is p = absurd (omega arith)
some_bytes (b ∷ text) zero h is p = let e : false ≡ true = sym (ap not (sym (in_blanks b) ∙ p)) ∙ is in cc
some_bytes (b ∷ text) (suc n) h is p = omega arith

pub word_cut : (text : List ℕ) (n : ℕ) → in_word text ≡ true → n < length text → Nowhere (Passes (is_in blanks) text) 0 n → Passes (is_in blanks) text n
    → words text ≡ take n text ∷ words (drop n text)
word_cut text n is h none p =
    ap words (sym (take-append-drop n text))
    ∙ word-append (take n text) (drop n text) (one_word (take n text) (some_bytes text n h is p) (other_bytes text n (omega arith) none)) (ends text n h p)

in_some : (text : List ℕ) → in_word text ≡ true → 0 < length text
in_some [] e = cc
in_some (b ∷ text) e = omega arith

pub last_word : (text : List ℕ) → in_word text ≡ true → Nowhere (Passes (is_in blanks) text) 0 (length text) → words text ≡ text ∷ []
last_word text is none =
    let all = other_bytes text (length text) (omega arith) none in
    let whole : list_all (λ b. not (is_blank b)) text ≡ true = rw (take_all (length text) text (omega arith)) at all in
    ap words (sym (append-nil text)) ∙ word-append text [] (one_word text (in_some text is) whole) refl

-- a last line without a newline
pub last_line : (text : List ℕ) → 0 < length text → lacks 10 text ≡ true → lines text ≡ text ∷ []
last_line [] h is = absurd (omega arith)
last_line (b ∷ []) h is = rw (not-true (b == 10) (and_left (not (b == 10)) true is)) refl
last_line (b ∷ c ∷ text) h is =
    let here = not-true (b == 10) (and_left (not (b == 10)) (lacks 10 (c ∷ text)) is) in
    ap (λ t. cond t ([] ∷ lines (c ∷ text)) (put_byte b (lines (c ∷ text)))) here
    ∙ ap (put_byte b) (last_line (c ∷ text) (omega arith) (and_right (not (b == 10)) (lacks 10 (c ∷ text)) is))

-- the bytes from a place on
pub rest_is : (bytes : List ℕ) (n : ℕ) → take (length bytes - n) (drop n bytes) ≡ drop n bytes
rest_is bytes n = take_all (length bytes - n) (drop n bytes) (omega (arith, length-drop n bytes))
