-- What the name field of a header says.
use Rattle.std.specs.Prelude.{ℕ, Bool, ◌||◌, ◌==◌, nat_eq, if◌then◌else◌, List, codes, drop, length, position, unwrap_or, Option, Some, None}
use Rattle.std.specs.List.{starts_with}
use Rattle.std.specs.Str.{byte, bytes_eq}
use Rattle.kl_ar.specs.Fields.{decimal_of, text_of}
use Rattle.kl_ar.specs.declared.name.NameForm.{NameForm}
use Rattle.kl_ar.specs.declared.name.NameForm.TheVariants.{SymbolIndex, LongNames, InTable, InData, InField, NoNumber}

-- the name of a symbol index, as the BSDs write it and as others do
abbrev pub is_symdef : List ℕ → Bool
is_symdef name = bytes_eq name (codes "__.SYMDEF") || bytes_eq name (codes "__.SYMDEF SORTED")

abbrev pub is_symbol_index : List ℕ → Bool
is_symbol_index name = bytes_eq name (codes "/") || bytes_eq name (codes "/SYM64/") || is_symdef name

abbrev pub in_table : Option ℕ → NameForm
in_table (Some place) = InTable place
in_table None = NoNumber

abbrev pub in_data : Option ℕ → NameForm
in_data (Some len) = InData len
in_data None = NoNumber

-- the length of a name in the field itself: up to the first slash, or else without the spaces at the end
abbrev pub slash_of : List ℕ → Option ℕ
slash_of field = position (λ c. c == byte "/") field

unfoldable pub short_len : List ℕ → ℕ
short_len field = unwrap_or (slash_of field) (length (text_of field))

-- WHAT A NAME FIELD SAYS
abbrev pub text_form : List ℕ → List ℕ → NameForm
text_form field text =
    if is_symbol_index text then SymbolIndex
    else if bytes_eq text (codes "//") then LongNames
    else if starts_with nat_eq text (codes "/") then in_table (decimal_of (drop 1 text))
    else if starts_with nat_eq text (codes "#1/") then in_data (decimal_of (drop 3 text))
    else InField (short_len field)

unfoldable pub name_form : List ℕ → NameForm
name_form field = text_form field (text_of field)
