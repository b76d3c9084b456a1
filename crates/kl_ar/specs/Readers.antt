-- What a reader keeps of the headers so far. For the contracts inside this crate alone.
use Rattle.std.specs.Prelude.{ℕ, ◌≡◌, ◌+◌, ◌≤◌, nat_eq, suc, List, [], ◌∷◌, ◌++◌, length, if◌then◌else◌, Option, Some, None, ⊤}
use Rattle.std.specs.List.{starts_with}
use Rattle.std.specs.Option.{option_map}
use Rattle.kl_ar.specs.Archives.{Placed, data_at, form_at, size_at}
use Rattle.kl_ar.specs.declared.format.TheConstants.{HEADER_LEN, LONG_NAME_END, NAME_LEN}
use Rattle.kl_ar.specs.declared.header.Header.{Header}
use Rattle.kl_ar.specs.declared.long_names.LongNames.{LongNames}
use Rattle.kl_ar.specs.declared.name.NameForm.{NameForm}
use Rattle.kl_ar.specs.declared.name.NameForm.TheVariants.{InField}

-- a name in the field itself isn't longer than the field
abbrev pub FitsField : NameForm → Type 0
FitsField (InField len) = len ≤ NAME_LEN
FitsField form = ⊤

-- the header that stands at its place, with the data that follow it
pub record IsHeader (b : List ℕ) (header : Header) : Type 0 where
  pub form : header.form ≡ form_at b header.at
  pub fits : FitsField header.form
  pub size : header.size ≡ size_at b header.at
  pub within : header.at + HEADER_LEN + header.size ≤ length b

-- the places in a table of long names at which a name ends; the first byte stands at this place
abbrev pub name_ends : ℕ → List ℕ → List ℕ
name_ends place [] = []
name_ends place (c ∷ rest) =
    (if starts_with nat_eq (c ∷ rest) LONG_NAME_END then place ∷ [] else []) ++ name_ends (suc place) rest

-- the table of long names of the header at its place
pub record IsTable (b : List ℕ) (names : LongNames) : Type 0 where
  pub ends : names.ends ≡ name_ends 0 (data_at b names.at)
  pub within : names.at + HEADER_LEN + length (data_at b names.at) ≤ length b

abbrev pub HasTable : List ℕ → Option LongNames → Type 0
HasTable b None = ⊤
HasTable b (Some names) = IsTable b names

abbrev pub table_place : Option LongNames → Option ℕ
table_place table = option_map (λ names. names.at) table

abbrev pub placed_at : Header → Option LongNames → Placed
placed_at header table = record { at = header.at; table = table_place table }
