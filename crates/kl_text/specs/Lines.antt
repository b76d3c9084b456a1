-- Lines and words of a text.
use Rattle.std.specs.Prelude.{◌≡◌, ◌==◌, ℕ, Bool, true, false, not, if◌then◌else◌, ◌&&◌, ◌||◌, List, [], ◌∷◌, ◌++◌, length, take, drop, Option, Some, None}
use Rattle.std.specs.Str.{bytes_eq}
use Rattle.std.specs.Option.{option_map}
use Rattle.std.specs.List.{join_with_byte, list_all}

-- the value doesn't stand among the bytes
abbrev pub lacks : ℕ → List ℕ → Bool
lacks value bytes = list_all (λ b. not (b == value)) bytes

-- bytes and a newline (10)
abbrev pub line : List ℕ → List ℕ
line bytes = bytes ++ 10 ∷ []

-- words parted by one space (32), and a newline
abbrev pub words_line : List (List ℕ) → List ℕ
words_line words = line (join_with_byte 32 words)

-- a line has no newline in it
abbrev pub IsLine : List ℕ → Type 0
IsLine bytes = lacks 10 bytes ≡ true

-- what follows a prefix
abbrev pub after_prefix : List ℕ → List ℕ → Option (List ℕ)
after_prefix p text = if bytes_eq (take (length p) text) p then Some (drop (length p) text) else None

-- bytes up to the first of this value, and those behind it
abbrev pub cut : ℕ → List ℕ → Option (List ℕ × List ℕ)
cut value [] = None
cut value (b ∷ text) = if b == value then Some ([], text) else option_map (λ (l, rest). (b ∷ l, rest)) (cut value text)

-- the first line of a text that has a newline, and what follows it
abbrev pub first_line : List ℕ → Option (List ℕ × List ℕ)
first_line text = cut 10 text

-- a byte before the first of some texts
abbrev pub put_byte : ℕ → List (List ℕ) → List (List ℕ)
put_byte b [] = (b ∷ []) ∷ []
put_byte b (t ∷ ts) = (b ∷ t) ∷ ts

-- the lines of a text, without the newlines that end them; the last may lack its own
abbrev pub lines : List ℕ → List (List ℕ)
lines [] = []
lines (b ∷ text) = let rest = lines text in if b == 10 then [] ∷ rest else put_byte b rest

-- a space or a tab (9)
abbrev pub is_blank : ℕ → Bool
is_blank b = (b == 32) || (b == 9)

-- bytes that are one word: at least one, and no blank
abbrev pub is_one_word : List ℕ → Bool
is_one_word [] = false
is_one_word (b ∷ w) = not (is_blank b) && list_all (λ c. not (is_blank c)) w

abbrev pub IsOneWord : List ℕ → Type 0
IsOneWord w = is_one_word w ≡ true

-- the text goes on with a word
abbrev pub in_word : List ℕ → Bool
in_word [] = false
in_word (b ∷ line) = not (is_blank b)

-- the words of a line, which blanks part
abbrev pub words : List ℕ → List (List ℕ)
words [] = []
words (b ∷ line) =
    let rest = words line in
    if is_blank b then rest else if in_word line then put_byte b rest else (b ∷ []) ∷ rest
