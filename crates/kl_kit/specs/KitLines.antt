-- The lines of a kit text, and what each of them says.
use Rattle.std.specs.Prelude.{ℕ, Bool, ◌&&◌, ◌||◌, ◌==◌, nat_le, nat_eq, if◌then◌else◌, List, [], ◌∷◌, codes, filter_map, option_to_list, slice_index_or, Option, Some, None}
use Rattle.std.specs.Option.{option_map, option_and_then}
use Rattle.std.specs.List.{starts_with}
use Rattle.kl_text.specs.Lines.{words}
use Rattle.kl_model.specs.Lists.{each_from}
use Rattle.kl_model.specs.declared.object.Part.{Part}
use Rattle.kl_model.specs.declared.object.Part.TheVariants.{Head, Drawn, Tail}
use Rattle.kl_model.specs.declared.kit.Run.{Run}
use Rattle.kl_model.specs.declared.kit.EdgeLine.{EdgeLine}
use Rattle.kl_kit.specs.Keywords.{keyword_of}
use Rattle.kl_kit.specs.Forms.{word_of, file_of, name_of, kind_of, class_of, area_of, end_of, refuse_of, base_of}
use Rattle.kl_kit.specs.declared.keyword.Keyword.{Keyword}
use Rattle.kl_kit.specs.declared.keyword.Keyword.TheVariants as keyword
use Rattle.kl_kit.specs.declared.statement.Statement.{Statement}
use Rattle.kl_kit.specs.declared.statement.Statement.TheVariants as says

-- a byte of a line: a tab (9), or from 0x20 to 0x7e
abbrev pub is_text_byte : ℕ → Bool
is_text_byte byte = (byte == 9) || (nat_le 0x20 byte && nat_le byte 0x7e)

-- a line that says something: its number, its first word, and the words behind that
pub record KitLine : Type 0 where
  pub number : ℕ
  pub keyword : List ℕ
  pub words : List (List ℕ)

-- the line of a number with these words; without words, or where the first begins with `#`, it says nothing
abbrev pub is_comment : List ℕ → Bool
is_comment word = starts_with nat_eq word (codes "#")

abbrev pub line_of : ℕ → List (List ℕ) → Option KitLine
line_of number [] = None
line_of number (w ∷ ws) = if is_comment w then None else Some (record { number = number; keyword = w; words = ws })

-- the lines that say something, numbered from 1
abbrev pub said : List (List ℕ) → List KitLine
said ls = each_from 1 (λ n l. option_to_list (line_of n (words l))) ls

-- the word at a place; no bytes where there is none
abbrev pub word_at : List (List ℕ) → ℕ → List ℕ
word_at ws place = slice_index_or ws place []

abbrev pub input_of : Part → ℕ → List (List ℕ) → Option Statement
input_of part number ws = option_map (λ file. says.Input (record { place = part; file = file; line = number })) (file_of (word_at ws 0))

-- SECTION CLASS START END
abbrev pub run_of : ℕ → List (List ℕ) → Option Run
run_of number ws =
    option_and_then (λ section.
    option_and_then (λ class.
    option_and_then (λ start.
    option_map (λ end. record { section = section; class = class; start = start; end = end; line = number })
    (word_of (word_at ws 3))) (word_of (word_at ws 2))) (class_of (word_at ws 1))) (word_of (word_at ws 0))

-- SYMBOL AREA `start` or `end`
abbrev pub edge_of : ℕ → List (List ℕ) → Option EdgeLine
edge_of number ws =
    option_and_then (λ symbol.
    option_and_then (λ area.
    option_map (λ end. record { symbol = symbol; area = area; end = end; line = number })
    (end_of (word_at ws 2))) (area_of (word_at ws 1))) (word_of (word_at ws 0))

-- WHAT A LINE SAYS, by its keyword, its number and the words behind; `None` where one of the words isn't in its form
abbrev pub statement_of : Keyword → ℕ → List (List ℕ) → Option Statement
statement_of keyword.Kind number ws = option_map (λ k. says.Kind k) (kind_of (word_at ws 0))
statement_of keyword.Output number ws = option_map (λ w. says.Output w) (name_of (word_at ws 0))
statement_of keyword.Base number ws = option_map (λ n. says.Base n) (base_of (word_at ws 0))
statement_of keyword.Entry number ws = option_map (λ w. says.Entry w) (word_of (word_at ws 0))
statement_of keyword.Head number ws = input_of Head number ws
statement_of keyword.Object number ws = input_of Drawn number ws
statement_of keyword.Tail number ws = input_of Tail number ws
statement_of keyword.Run number ws = option_map (λ r. says.Run r) (run_of number ws)
statement_of keyword.Edge number ws = option_map (λ e. says.Edge e) (edge_of number ws)
statement_of keyword.Drop number ws = option_map (λ w. says.Drop w) (word_of (word_at ws 0))
statement_of keyword.Soname number ws = option_map (λ w. says.Soname w) (word_of (word_at ws 0))
statement_of keyword.Needed number ws = option_map (λ w. says.Needed w) (word_of (word_at ws 0))
statement_of keyword.Export number ws = option_map (λ w. says.Export w) (word_of (word_at ws 0))
statement_of keyword.Symbolic number ws = Some says.Symbolic
statement_of keyword.Undefined number ws = option_map (λ b. says.Undefined b) (refuse_of (word_at ws 0))

-- what a line says, if it says something in its form
abbrev pub line_statement : KitLine → Option Statement
line_statement l = option_and_then (λ k. statement_of k l.number l.words) (keyword_of l.keyword)

abbrev pub statements : List KitLine → List Statement
statements ls = filter_map line_statement ls
