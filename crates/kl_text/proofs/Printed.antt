-- Printed lines and words are found again.
use Rattle.std.proofs.Common.{◌≡◌, ℕ, Bool, true, false, not, cond, List, [], ◌∷◌, ◌++◌, refl, sym, ap, ◌∙◌, append_assoc}
use Rattle.std.specs.Prelude.{◌==◌}
use Rattle.std.specs.List.{list_all, join_with_byte, AllByRecursion}
use Rattle.std.proofs.lemmas.Bool.{not-true}
use Rattle.std.proofs.lemmas.List.{append-nil}
use Rattle.kl_base.proofs.Bools.{and_left, and_right}
use Rattle.kl_text.specs.Lines.{line, IsLine, lacks, lines, words, is_blank, in_word, put_byte, IsOneWord, is_one_word}

-- a line, and those behind it
pub lines-append : (l rest : List ℕ) → lacks 10 l ≡ true → lines (l ++ 10 ∷ rest) ≡ l ∷ lines rest
lines-append [] rest is = refl
lines-append (b ∷ l) rest is =
    let here = not-true (b == 10) (and_left (not (b == 10)) (lacks 10 l) is) in
    rw (here, lines-append l rest (and_right (not (b == 10)) (lacks 10 l) is)) refl

pub lines-line : (l rest : List ℕ) → IsLine l → lines (line l ++ rest) ≡ l ∷ lines rest
lines-line l rest is = ap lines (append_assoc l (10 ∷ []) rest) ∙ lines-append l rest is

-- a word, where no word goes on behind it
pub word-append : (w rest : List ℕ) → IsOneWord w → in_word rest ≡ false → words (w ++ rest) ≡ w ∷ words rest
word-append [] rest is ends = cc
word-append (b ∷ []) rest is ends = rw (not-true (is_blank b) (and_left (not (is_blank b)) true is), ends) refl
word-append (b ∷ c ∷ w) rest is ends =
    let here = not-true (is_blank b) (and_left (not (is_blank b)) (is_one_word (c ∷ w)) is) in
    let more = and_right (not (is_blank b)) (is_one_word (c ∷ w)) is in
    let next = not-true (is_blank c) (and_left (not (is_blank c)) (list_all (λ d. not (is_blank d)) w) more) in
    let behind = words (c ∷ w ++ rest) in
    ap (λ (t : Bool). cond t behind (cond (not (is_blank c)) (put_byte b behind) ((b ∷ []) ∷ behind))) here
    ∙ ap (λ (t : Bool). cond (not t) (put_byte b behind) ((b ∷ []) ∷ behind)) next
    ∙ ap (put_byte b) (word-append (c ∷ w) rest more ends)

-- words parted by one space
pub words-join : (ws : List (List ℕ)) → AllByRecursion IsOneWord ws → words (join_with_byte 32 ws) ≡ ws
words-join [] are = refl
words-join (w ∷ []) are = ap words (sym (append-nil w)) ∙ word-append w [] are.0 refl
words-join (w ∷ v ∷ ws) are = word-append w (32 ∷ join_with_byte 32 (v ∷ ws)) are.0 refl ∙ ap (λ (l : List (List ℕ)). w ∷ l) (words-join (v ∷ ws) are.1)
