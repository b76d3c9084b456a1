-- An archive: the places of its headers, the faults that stand in it, and its members.
use Rattle.std.specs.Prelude.{ℕ, ◌≡◌, zero, suc, ◌+◌, ◌-◌, ◌*◌, ◌/◌, Bool, not, nat_le, nat_lt, nat_eq, if◌then◌else◌, List, [], ◌∷◌, ◌++◌, drop, flat_map, length, take, is_none, unwrap_or, option_to_list, slice_get, Option, Some, None, ⊤}
use Rattle.std.specs.List.{ends_with, starts_with}
use Rattle.std.specs.Option.{option_and_then, option_map}
use Rattle.kl_base.specs.declared.class.Range.{Range}
use Rattle.kl_ar.specs.Fields.{bytes_at, decimal_of, is_empty, text_of, without_end}
use Rattle.kl_ar.specs.Names.{is_symdef, name_form}
use Rattle.kl_ar.specs.declared.fault.ArError.{ArError}
use Rattle.kl_ar.specs.declared.fault.ArError.TheVariants as error
use Rattle.kl_ar.specs.declared.fault.ArFault.{ArFault}
use Rattle.kl_ar.specs.declared.fault.ArFault.TheVariants as fault
use Rattle.kl_ar.specs.declared.format.TheConstants.{END_AT, HEADER_ALIGN, HEADER_END, HEADER_LEN, LONG_NAME_END, MAGIC, MAGIC_LEN, NAME_LEN, SIZE_AT, SIZE_LEN, THIN_MAGIC}
use Rattle.kl_ar.specs.declared.member.Member.{Member}
use Rattle.kl_ar.specs.declared.name.NameForm.{NameForm}
use Rattle.kl_ar.specs.declared.name.NameForm.TheVariants.{SymbolIndex, LongNames, InTable, InData, InField, NoNumber}

-- the fault alone where it stands, or nothing
abbrev pub fault_if : Bool → ArFault → List ArFault
fault_if stands fault = if stands then fault ∷ [] else []

-- A HEADER: the name field at its beginning, the size field, and two bytes that end it
abbrev pub name_field : List ℕ → List ℕ
name_field header = take NAME_LEN header

abbrev pub size_field : List ℕ → List ℕ
size_field header = bytes_at header SIZE_AT SIZE_LEN

abbrev pub size_of : List ℕ → Option ℕ
size_of header = decimal_of (text_of (size_field header))

abbrev pub has_end : List ℕ → Bool
has_end header = ends_with nat_eq header HEADER_END

-- the header at a place of a file, the length of the data behind it, and these data
abbrev pub header_at : List ℕ → ℕ → List ℕ
header_at b at = bytes_at b at HEADER_LEN

abbrev pub size_at : List ℕ → ℕ → ℕ
size_at b at = unwrap_or (size_of (header_at b at)) 0

abbrev pub form_at : List ℕ → ℕ → NameForm
form_at b at = name_form (name_field (header_at b at))

abbrev pub data_at : List ℕ → ℕ → List ℕ
data_at b at = bytes_at b (at + HEADER_LEN) (size_at b at)

-- the faults of a header and of the place at which its data end
unfoldable pub header_faults : List ℕ → ℕ → List ArFault
header_faults b at =
    fault_if (nat_lt (length b) (at + HEADER_LEN)) (fault.Truncated at)
    ++ fault_if (not (has_end (header_at b at))) (fault.Header (at + END_AT))
    ++ fault_if (is_none (size_of (header_at b at))) (fault.SizeText (at + SIZE_AT))
    ++ fault_if (nat_lt (length b) (at + HEADER_LEN + size_at b at)) (fault.Truncated at)

-- The places of the headers: the first stands behind the magic, each other at the next even place behind the data of the one
-- before. Behind a header that has such a fault none is looked for.
abbrev pub even_from : ℕ → ℕ
even_from n = (n + 1) / HEADER_ALIGN * HEADER_ALIGN

abbrev pub next_at : List ℕ → ℕ → ℕ
next_at b at = even_from (at + HEADER_LEN + size_at b at)

abbrev pub headers_from : List ℕ → ℕ → ℕ → List ℕ
headers_from b zero at = []
headers_from b (suc most) at =
    if nat_le (length b) at then []
    else at ∷ (if is_empty (header_faults b at) then headers_from b most (next_at b at) else [])

unfoldable pub headers : List ℕ → List ℕ
headers b = headers_from b (length b) MAGIC_LEN

-- a header's place, and that of the last table of long names before it
pub record Placed : Type 0 where
  pub at : ℕ
  pub table : Option ℕ

abbrev pub table_by : NameForm → ℕ → Option ℕ → Option ℕ
table_by LongNames at table = Some at
table_by form at table = table

abbrev pub placed : List ℕ → Option ℕ → List ℕ → List Placed
placed b table [] = []
placed b table (at ∷ rest) = record { at = at; table = table } ∷ placed b (table_by (form_at b at) at table) rest

-- the length of the name with which bytes begin: up to the first slash that a newline follows
abbrev pub name_len : List ℕ → Option ℕ
name_len [] = None
name_len (c ∷ rest) = if starts_with nat_eq (c ∷ rest) LONG_NAME_END then Some 0 else option_map (λ len. suc len) (name_len rest)

-- the name at a place of the table whose header stands there
abbrev pub range_from : ℕ → Option ℕ → Option Range
range_from at len = option_map (λ n. record { at = at; len = n }) len

abbrev pub long_name : List ℕ → ℕ → ℕ → Option Range
long_name b table place = range_from (table + HEADER_LEN + place) (name_len (drop place (data_at b table)))

abbrev pub name_in : List ℕ → Option ℕ → ℕ → Option Range
name_in b table place = option_and_then (λ t. long_name b t place) table

-- the member of a header with such a name, whose bytes are all its data
abbrev pub member_named : List ℕ → ℕ → Range → Member
member_named b at name = record { name = name; start = at + HEADER_LEN; len = size_at b at }

-- the member of a header whose data begin with a name of this length, up to the zero bytes at its end; none where it is a symbol
-- index
abbrev pub name_before : List ℕ → ℕ → ℕ → List ℕ
name_before b at len = without_end 0 (bytes_at b (at + HEADER_LEN) len)

abbrev pub member_behind : List ℕ → ℕ → ℕ → List Member
member_behind b at len =
    if is_symdef (name_before b at len) then []
    else record { name = record { at = at + HEADER_LEN; len = length (name_before b at len) }; start = at + HEADER_LEN + len; len = size_at b at - len } ∷ []

-- the member of a header, or none, by what its name field says
abbrev pub members_by : List ℕ → Placed → NameForm → List Member
members_by b p SymbolIndex = []
members_by b p LongNames = []
members_by b p (InTable place) = option_to_list (option_map (member_named b p.at) (name_in b p.table place))
members_by b p (InData len) = member_behind b p.at len
members_by b p (InField len) = member_named b p.at (record { at = p.at; len = len }) ∷ []
members_by b p NoNumber = []

unfoldable pub members_at : List ℕ → Placed → List Member
members_at b p = members_by b p (form_at b p.at)

-- the fault of its name
abbrev pub name_faults_by : List ℕ → Placed → NameForm → List ArFault
name_faults_by b p SymbolIndex = []
name_faults_by b p LongNames = []
name_faults_by b p (InTable place) = fault_if (is_none (name_in b p.table place)) (fault.LongName p.at)
name_faults_by b p (InData len) = fault_if (nat_lt (size_at b p.at) len) (fault.LongName p.at)
name_faults_by b p (InField len) = []
name_faults_by b p NoNumber = fault.LongName p.at ∷ []

unfoldable pub name_faults : List ℕ → Placed → List ArFault
name_faults b p = name_faults_by b p (form_at b p.at)

-- the faults of a header in the order in which they are told
abbrev pub faults_at : List ℕ → Placed → List ArFault
faults_at b p = header_faults b p.at ++ name_faults b p

-- the faults of the beginning
unfoldable pub magic_faults : List ℕ → List ArFault
magic_faults b =
    if starts_with nat_eq b THIN_MAGIC then fault.Thin ∷ []
    else fault_if (not (starts_with nat_eq b MAGIC)) fault.Magic

-- ALL FAULTS THAT STAND IN AN ARCHIVE: those of its beginning, then those of its headers in file order. The first is told.
unfoldable pub faults : List ℕ → List ArFault
faults b = magic_faults b ++ flat_map (faults_at b) (placed b None (headers b))

-- THE MEMBERS OF AN ARCHIVE in which no fault stands
unfoldable pub members_of : List ℕ → List Member
members_of b = flat_map (members_at b) (placed b None (headers b))

-- an error is the first of these faults, or want of memory
abbrev pub IsFirst : List ArFault → ArError → Type 0
IsFirst faults (error.Flaw f) = slice_get faults 0 ≡ Some f
IsFirst faults error.NoMemory = ⊤
