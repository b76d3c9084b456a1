-- The forms of the words in a kit text.
use Rattle.std.specs.Prelude.{ℕ, ◌≡◌, ◌+◌, ◌*◌, ◌%◌, Bool, true, false, not, ◌&&◌, ◌||◌, ◌==◌, nat_le, nat_lt, nat_eq, if◌then◌else◌, List, ◌++◌, find, fold, length, codes, is_none, Option, Some, None}
use Rattle.std.specs.Str.{bytes_eq}
use Rattle.std.specs.Option.{option_map, option_and_then}
use Rattle.std.specs.List.{list_all, ends_with, starts_with}
use Rattle.kl_base.specs.Names.{name_fault, is_path_byte}
use Rattle.kl_base.specs.declared.class.Class.{Class}
use Rattle.kl_base.specs.declared.class.Class.TheVariants.{Text, Rodata, Rwdata, Bss}
use Rattle.kl_base.specs.declared.limits.TheConstants.{BASE_LIMIT, FILE_LIMIT, OUTPUT_LIMIT, PAGE, SCRATCH_SUFFIX, WORD_LIMIT}
use Rattle.hex.specs.Hex.{hex_digit_value}
use Rattle.kl_text.specs.Lines.{after_prefix}
use Rattle.kl_model.specs.Areas.{areas}
use Rattle.kl_model.specs.declared.kit.KitInput.{KitInput}
use Rattle.kl_model.specs.declared.kit.KitKind.{KitKind}
use Rattle.kl_model.specs.declared.kit.KitKind.TheVariants.{Kernel, Library}
use Rattle.kl_kit.specs.declared.form.TheConstants.{BASE_DIGITS, RADIX}

-- the word, where it passes the test
abbrev pub word_if : Bool → List ℕ → Option (List ℕ)
word_if passes word = if passes then Some word else None

-- a SYMBOL, SECTION or TEXT: at least one byte, up to the limit, each from 0x21 to 0x7e
abbrev pub is_word : List ℕ → Bool
is_word word = not (length word == 0) && nat_le (length word) WORD_LIMIT && list_all is_path_byte word

abbrev pub word_of : List ℕ → Option (List ℕ)
word_of word = word_if (is_word word) word

-- a FILE: a name without its first slash, up to the limit, which is neither `link.conf` nor a scratch name
abbrev pub is_file : List ℕ → Bool
is_file file =
    nat_le (length file) FILE_LIMIT && is_none (name_fault (codes "/" ++ file))
    && not (bytes_eq file (codes "link.conf")) && not (ends_with nat_eq file SCRATCH_SUFFIX)

-- an input's file is in its form
abbrev pub HasFile : KitInput → Type 0
HasFile input = is_file input.file ≡ true

abbrev pub file_of : List ℕ → Option (List ℕ)
file_of word = word_if (is_file word) word

-- a NAME of a file
abbrev pub name_of : List ℕ → Option (List ℕ)
name_of word = word_if (is_none (name_fault word)) word

-- bytes up to the limit that begin as the names below the folder of all kits do
abbrev pub is_below_kits : List ℕ → Bool
is_below_kits word = nat_le (length word) FILE_LIMIT && starts_with nat_eq word (codes "/usr/share/relink/")

-- a DIR: a name of that form
abbrev pub dir_of : List ℕ → Option (List ℕ)
dir_of word = if is_below_kits word then name_of word else None

abbrev pub kind_of : List ℕ → Option KitKind
kind_of word =
    if bytes_eq word (codes "kernel") then Some Kernel
    else if bytes_eq word (codes "library") then Some Library
    else None

abbrev pub class_of : List ℕ → Option Class
class_of word =
    if bytes_eq word (codes "text") then Some Text
    else if bytes_eq word (codes "rodata") then Some Rodata
    else if bytes_eq word (codes "data") then Some Rwdata
    else if bytes_eq word (codes "bss") then Some Bss
    else None

-- the number of the area of this name, which an edge may name
unfoldable pub area_of : List ℕ → Option ℕ
area_of word = option_map (λ area. area.number) (find (λ area. area.edge && bytes_eq word area.name) areas)

-- whether an edge is the end of its area
abbrev pub end_of : List ℕ → Option Bool
end_of word =
    if bytes_eq word (codes "start") then Some false
    else if bytes_eq word (codes "end") then Some true
    else None

-- whether undefined names are refused
abbrev pub refuse_of : List ℕ → Option Bool
refuse_of word =
    if bytes_eq word (codes "refuse") then Some true
    else if bytes_eq word (codes "allow") then Some false
    else None

-- the number of hexadecimal digits of either case with one more behind them
abbrev pub with_digit : Option ℕ → ℕ → Option ℕ
with_digit number byte = option_and_then (λ n. option_map (λ d. RADIX * n + d) (hex_digit_value byte)) number

-- the number of hexadecimal digits
abbrev pub number_of : List ℕ → Option ℕ
number_of digits = fold with_digit (Some 0) digits

-- at least one digit, up to so many
abbrev pub digits_number : List ℕ → Option ℕ
digits_number digits =
    if not (length digits == 0) && nat_le (length digits) BASE_DIGITS then number_of digits else None

-- an address at which a kernel may begin
abbrev pub base_if : ℕ → Option ℕ
base_if n = if (n % PAGE == 0) && nat_le n BASE_LIMIT then Some n else None

-- a base: `0x` and digits
unfoldable pub base_of : List ℕ → Option ℕ
base_of word = option_and_then base_if (option_and_then digits_number (after_prefix (codes "0x") word))

-- the output of a kernel
abbrev pub is_kernel_output : List ℕ → Bool
is_kernel_output name = bytes_eq name (codes "/bsd")

-- names that the outputs of other kits may not have
abbrev pub is_reserved : List ℕ → Bool
is_reserved name =
    nat_lt OUTPUT_LIMIT (length name)
    || bytes_eq name (codes "/bsd") || bytes_eq name (codes "/obsd")
    || starts_with nat_eq name (codes "/usr/share/relink/") || starts_with nat_eq name (codes "/var/db/")
    || ends_with nat_eq name SCRATCH_SUFFIX || ends_with nat_eq name (codes ".map") || ends_with nat_eq name (codes "/linked")
