-- The words that begin lines.
use Rattle.std.specs.Prelude.{ℕ, Bool, true, false, List, codes, find, Option}
use Rattle.std.specs.Str.{bytes_eq}
use Rattle.kl_model.specs.declared.kit.KitKind.{KitKind}
use Rattle.kl_model.specs.declared.kit.KitKind.TheVariants.{Kernel, Library}
use Rattle.kl_kit.specs.declared.keyword.Keyword.{Keyword}
use Rattle.kl_kit.specs.declared.keyword.Keyword.TheVariants as keyword
use Rattle.kl_kit.specs.declared.keyword.TheConstants.{KEYWORDS}

-- the bytes of a keyword
abbrev pub keyword_word : Keyword → List ℕ
keyword_word keyword.Kind = codes "kind"
keyword_word keyword.Output = codes "output"
keyword_word keyword.Base = codes "base"
keyword_word keyword.Entry = codes "entry"
keyword_word keyword.Head = codes "head"
keyword_word keyword.Object = codes "object"
keyword_word keyword.Tail = codes "tail"
keyword_word keyword.Run = codes "run"
keyword_word keyword.Edge = codes "edge"
keyword_word keyword.Drop = codes "drop"
keyword_word keyword.Soname = codes "soname"
keyword_word keyword.Needed = codes "needed"
keyword_word keyword.Export = codes "export"
keyword_word keyword.Symbolic = codes "symbolic"
keyword_word keyword.Undefined = codes "undefined"

-- the keyword of these bytes
unfoldable pub keyword_of : List ℕ → Option Keyword
keyword_of word = find (λ k. bytes_eq word (keyword_word k)) KEYWORDS

-- how many words follow a keyword
abbrev pub word_count : Keyword → ℕ
word_count keyword.Symbolic = 0
word_count keyword.Edge = 3
word_count keyword.Run = 4
word_count k = 1

-- whether kits of the kind have lines of the keyword
abbrev pub has_lines : KitKind → Keyword → Bool
has_lines Kernel keyword.Soname = false
has_lines Kernel keyword.Needed = false
has_lines Kernel keyword.Export = false
has_lines Kernel keyword.Symbolic = false
has_lines Kernel keyword.Undefined = false
has_lines Library keyword.Base = false
has_lines kind k = true
