-- What may not come again in a kit text.
use Rattle.std.specs.Prelude.{ℕ, Bool, false, ◌&&◌, ◌||◌, List, [], ◌∷◌, ◌++◌, codes}
use Rattle.std.specs.Str.{bytes_eq}
use Rattle.std.specs.Option.{option_map_or}
use Rattle.std.specs.List.{list_any}
use Rattle.kl_kit.specs.Keywords.{keyword_of, keyword_word}
use Rattle.kl_kit.specs.KitLines.{KitLine, word_at}
use Rattle.kl_kit.specs.declared.keyword.Keyword.{Keyword}
use Rattle.kl_kit.specs.declared.keyword.Keyword.TheVariants as keyword

-- what may come once: what it is, and up to two words that tell it from others
abbrev pub Key : Type 0
Key = List ℕ × List ℕ × List ℕ

abbrev pub same_key : Key → Key → Bool
same_key k other = bytes_eq k.0 other.0 && (bytes_eq k.1 other.1 && bytes_eq k.2 other.2)

abbrev pub input_key : List ℕ → Key
input_key file = (codes "object", file, [])

abbrev pub edge_key : List ℕ → Key
edge_key symbol = (codes "edge", symbol, [])

-- the section and class of a run, and its start and end, which are edges
abbrev pub run_keys : List ℕ → List ℕ → List ℕ → List ℕ → List Key
run_keys section class start end = (codes "run", section, class) ∷ edge_key start ∷ edge_key end ∷ []

-- What a line has of these: the file of an input, a run's, the name of an edge, and the word of a `drop`, `needed` or `export` line; each
-- other line comes once.
abbrev pub keys_of : Keyword → List (List ℕ) → List Key
keys_of keyword.Head ws = input_key (word_at ws 0) ∷ []
keys_of keyword.Object ws = input_key (word_at ws 0) ∷ []
keys_of keyword.Tail ws = input_key (word_at ws 0) ∷ []
keys_of keyword.Run ws = run_keys (word_at ws 0) (word_at ws 1) (word_at ws 2) (word_at ws 3)
keys_of keyword.Edge ws = edge_key (word_at ws 0) ∷ []
keys_of keyword.Drop ws = (codes "drop", word_at ws 0, []) ∷ []
keys_of keyword.Needed ws = (codes "needed", word_at ws 0, []) ∷ []
keys_of keyword.Export ws = (codes "export", word_at ws 0, []) ∷ []
keys_of k ws = (keyword_word k, [], []) ∷ []

abbrev pub line_keys : KitLine → List Key
line_keys l = option_map_or (λ k. keys_of k l.words) (keyword_of l.keyword) []

-- THE ONE RULE FOR WHAT COMES AGAIN: a key stands among those before it
abbrev pub has_key : List Key → Key → Bool
has_key keys k = list_any (λ x. same_key x k) keys

abbrev pub comes_again : List Key → List Key → Bool
comes_again before [] = false
comes_again before (k ∷ ks) = has_key before k || comes_again (before ++ k ∷ []) ks
