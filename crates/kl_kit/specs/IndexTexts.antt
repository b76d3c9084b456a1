-- The text of an index: what its lines say, the faults that stand in it, and the index that it is.
use Rattle.std.specs.Prelude.{ℕ, Bool, not, ◌||◌, ◌==◌, nat_le, if◌then◌else◌, List, [], ◌∷◌, ◌++◌, codes, filter_map, length, Option, None}
use Rattle.std.specs.Str.{bytes_eq}
use Rattle.std.specs.Option.{option_and_then, option_map, option_map_or}
use Rattle.std.specs.List.{list_any}
use Rattle.kl_text.specs.Lines.{lines}
use Rattle.kl_model.specs.Lists.{only_if}
use Rattle.kl_model.specs.Kits.{is_empty}
use Rattle.kl_kit.specs.Forms.{dir_of, is_reserved, name_of}
use Rattle.kl_kit.specs.KitLines.{KitLine, said, word_at}
use Rattle.kl_kit.specs.TextFaults.{text_faults}
use Rattle.kl_kit.specs.declared.fault.KitFault.{KitFault}
use Rattle.kl_kit.specs.declared.fault.KitFault.TheVariants as fault
use Rattle.kl_kit.specs.declared.fault.Needed.TheVariants as needed
use Rattle.kl_kit.specs.declared.index.Library.{Library}
use Rattle.kl_kit.specs.declared.index.TheConstants.{LIBRARY_LIMIT}

-- the word with which each line of an index begins
abbrev pub is_library_word : List ℕ → Bool
is_library_word word = bytes_eq word (codes "library")

-- DIR OUTPUT; `None` where one of the words isn't in its form
abbrev pub library_of : ℕ → List (List ℕ) → Option Library
library_of number ws =
    option_and_then (λ dir.
    option_map (λ output. record { dir = dir; output = output; line = number })
    (name_of (word_at ws 1))) (dir_of (word_at ws 0))

-- what a line says, if it says something in its form
abbrev pub line_library : KitLine → Option Library
line_library l = if is_library_word l.keyword then library_of l.number l.words else None

abbrev pub libraries : List KitLine → List Library
libraries ls = filter_map line_library ls

-- two libraries have one folder, or one output
abbrev pub share_name : Library → Library → Bool
share_name library other = bytes_eq library.dir other.dir || bytes_eq library.output other.output

-- the faults of a library behind others, in the order in which they are told
abbrev pub library_faults : List Library → Library → List KitFault
library_faults before library =
    only_if (is_reserved library.output) (fault.Reserved library.line)
    ++ only_if (list_any (share_name library) before) (fault.Twice library.line)
    ++ only_if (nat_le LIBRARY_LIMIT (length before)) (fault.Limit library.line)

-- THE FAULTS OF A LINE that says something, behind libraries, in the order in which they are told
abbrev pub library_line_faults : List Library → KitLine → List KitFault
library_line_faults before l =
    if is_library_word l.keyword then
    only_if (not (length l.words == 2)) (fault.Count l.number)
    ++ option_map_or (library_faults before) (library_of l.number l.words) (fault.Value l.number ∷ [])
    else fault.Keyword l.number ∷ []

abbrev pub index_line_faults : List KitLine → KitLine → List KitFault
index_line_faults before l = library_line_faults (libraries before) l

-- what is missing behind all lines
abbrev pub missing_library : List Library → List KitFault
missing_library index = only_if (is_empty index) (fault.Missing needed.Library)

abbrev pub no_library : List KitLine → List KitFault
no_library ls = missing_library (libraries ls)

-- ALL FAULTS THAT STAND IN AN INDEX: those of its lines, then what is missing. The first is told.
unfoldable pub index_faults : List ℕ → List KitFault
index_faults text = text_faults index_line_faults no_library text

-- THE INDEX OF A TEXT in which no fault stands
unfoldable pub index_of : List ℕ → List Library
index_of text = libraries (said (lines text))
