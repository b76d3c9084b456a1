-- Printed lines, each of a keyword and words, are read as these.
use Rattle.std.proofs.Common.{◌≡◌, ℕ, suc, ◌<◌, true, false, not, List, [], ◌∷◌, length, refl, ap, ◌∙◌, arith}
use Rattle.std.specs.Prelude.{Some, ◌==◌, nat_le, map, option_to_list}
use Rattle.std.specs.List.{list_all, flat_map, join_with_byte, AllByRecursion}
use Rattle.std.proofs.lemmas.Bool.{leb-true, ne_eqb}
use Rattle.std.proofs.lemmas.List.Folds.{list_all-append}
use Rattle.kl_base.specs.Names.{is_path_byte}
use Rattle.kl_base.proofs.Bools.{and_left, and_right}
use Rattle.kl_text.specs.Lines.{lines, words, words_line, lacks, is_blank, IsOneWord}
use Rattle.kl_text.proofs.Cuts.{path-lacks}
use Rattle.kl_text.proofs.Printed.{lines-line, words-join}
use Rattle.kl_model.specs.Lists.{each_from}
use Rattle.kl_kit.specs.Keywords.{keyword_of, keyword_word}
use Rattle.kl_kit.specs.KitLines.{KitLine, is_comment, line_of}
use Rattle.kl_kit.specs.declared.keyword.Keyword.{Keyword}
use Rattle.kl_kit.specs.declared.keyword.Keyword.TheVariants as keyword

-- a keyword and the words behind it
pub record Row : Type 0 where
  pub keyword : Keyword
  pub words : List (List ℕ)

abbrev pub row_words : Row → List (List ℕ)
row_words r = keyword_word r.keyword ∷ r.words

-- at least one byte, each from 0x21 to 0x7e
pub record IsPrintable (w : List ℕ) : Type 0 where
  pub some : 0 < length w
  pub bytes : list_all is_path_byte w ≡ true

not_blank : (b : ℕ) → is_path_byte b ≡ true → not (is_blank b) ≡ true
not_blank b e =
    let above = leb-true 33 b (and_left (nat_le 33 b) (nat_le b 126) e) in
    let space : (b == 32) ≡ false = ne_eqb b 32 (λ same. omega (arith, above, same)) in
    let tab : (b == 9) ≡ false = ne_eqb b 9 (λ same. omega (arith, above, same)) in
    rw (space, tab) refl

no_blanks : (w : List ℕ) → list_all is_path_byte w ≡ true → list_all (λ b. not (is_blank b)) w ≡ true
no_blanks [] e = refl
no_blanks (b ∷ w) e =
    rw (not_blank b (and_left (is_path_byte b) (list_all is_path_byte w) e), no_blanks w (and_right (is_path_byte b) (list_all is_path_byte w) e)) refl

pub one_word : (w : List ℕ) → IsPrintable w → IsOneWord w
one_word [] is = absurd (let h = is.some in omega arith)
one_word (b ∷ w) is = no_blanks (b ∷ w) is.bytes

pub all_one : (ws : List (List ℕ)) → AllByRecursion IsPrintable ws → AllByRecursion IsOneWord ws
all_one [] are = tt
all_one (w ∷ ws) are = (one_word w are.0, all_one ws are.1)

joined_lacks : (ws : List (List ℕ)) → AllByRecursion IsPrintable ws → lacks 10 (join_with_byte 32 ws) ≡ true
joined_lacks [] are = refl
joined_lacks (w ∷ []) are = path-lacks 10 w (omega arith) are.0.bytes
joined_lacks (w ∷ v ∷ ws) are =
    list_all-append (λ b. not (b == 10)) w (32 ∷ join_with_byte 32 (v ∷ ws))
    ∙ rw (path-lacks 10 w (omega arith) are.0.bytes, joined_lacks (v ∷ ws) are.1) refl

-- keywords are words, none begins a comment, and each is found by its word
pub keyword_printable : (k : Keyword) → IsPrintable (keyword_word k)
keyword_printable keyword.Kind = record { some = omega arith; bytes = refl }
keyword_printable keyword.Output = record { some = omega arith; bytes = refl }
keyword_printable keyword.Base = record { some = omega arith; bytes = refl }
keyword_printable keyword.Entry = record { some = omega arith; bytes = refl }
keyword_printable keyword.Head = record { some = omega arith; bytes = refl }
keyword_printable keyword.Object = record { some = omega arith; bytes = refl }
keyword_printable keyword.Tail = record { some = omega arith; bytes = refl }
keyword_printable keyword.Run = record { some = omega arith; bytes = refl }
keyword_printable keyword.Edge = record { some = omega arith; bytes = refl }
keyword_printable keyword.Drop = record { some = omega arith; bytes = refl }
keyword_printable keyword.Soname = record { some = omega arith; bytes = refl }
keyword_printable keyword.Needed = record { some = omega arith; bytes = refl }
keyword_printable keyword.Export = record { some = omega arith; bytes = refl }
keyword_printable keyword.Symbolic = record { some = omega arith; bytes = refl }
keyword_printable keyword.Undefined = record { some = omega arith; bytes = refl }

pub no_comment : (k : Keyword) → is_comment (keyword_word k) ≡ false
no_comment keyword.Kind = refl
no_comment keyword.Output = refl
no_comment keyword.Base = refl
no_comment keyword.Entry = refl
no_comment keyword.Head = refl
no_comment keyword.Object = refl
no_comment keyword.Tail = refl
no_comment keyword.Run = refl
no_comment keyword.Edge = refl
no_comment keyword.Drop = refl
no_comment keyword.Soname = refl
no_comment keyword.Needed = refl
no_comment keyword.Export = refl
no_comment keyword.Symbolic = refl
no_comment keyword.Undefined = refl

pub keyword_again : (k : Keyword) → keyword_of (keyword_word k) ≡ Some k
unfolding keyword_of
keyword_again keyword.Kind = refl
keyword_again keyword.Output = refl
keyword_again keyword.Base = refl
keyword_again keyword.Entry = refl
keyword_again keyword.Head = refl
keyword_again keyword.Object = refl
keyword_again keyword.Tail = refl
keyword_again keyword.Run = refl
keyword_again keyword.Edge = refl
keyword_again keyword.Drop = refl
keyword_again keyword.Soname = refl
keyword_again keyword.Needed = refl
keyword_again keyword.Export = refl
keyword_again keyword.Symbolic = refl
keyword_again keyword.Undefined = refl

-- each word of each line is printable
abbrev pub ArePrintable : List Row → Type 0
ArePrintable rows = AllByRecursion (λ r. AllByRecursion IsPrintable r.words) rows

row_line : (r : Row) → AllByRecursion IsPrintable r.words → lacks 10 (join_with_byte 32 (row_words r)) ≡ true
row_line r are = joined_lacks (row_words r) (keyword_printable r.keyword, are)

-- the lines of the text are those that were printed
pub lines_again : (rows : List Row) → ArePrintable rows → lines (flat_map (λ r. words_line (row_words r)) rows) ≡ map (λ r. join_with_byte 32 (row_words r)) rows
lines_again [] are = refl
lines_again (r ∷ rows) are =
    lines-line (join_with_byte 32 (row_words r)) (flat_map (λ x. words_line (row_words x)) rows) (row_line r are.0)
    ∙ ap (λ (ls : List (List ℕ)). join_with_byte 32 (row_words r) ∷ ls) (lines_again rows are.1)

-- the lines of rows, by number
abbrev pub numbered : ℕ → List Row → List KitLine
numbered n [] = []
numbered n (r ∷ rows) = record { number = n; keyword = keyword_word r.keyword; words = r.words } ∷ numbered (suc n) rows

pub said_again : (n : ℕ) (rows : List Row) → ArePrintable rows
    → each_from n (λ k l. option_to_list (line_of k (words l))) (map (λ r. join_with_byte 32 (row_words r)) rows) ≡ numbered n rows
said_again n [] are = refl
said_again n (r ∷ rows) are =
    let ws : words (join_with_byte 32 (row_words r)) ≡ row_words r = words-join (row_words r) (all_one (row_words r) (keyword_printable r.keyword, are.0)) in
    rw (ws, no_comment r.keyword) (ap (λ (ls : List KitLine). record { number = n; keyword = keyword_word r.keyword; words = r.words } ∷ ls) (said_again (suc n) rows are.1))
