-- The section groups of an object (gABI, "Section Groups").
use Rattle.std.specs.Prelude.{ℕ, ◌+◌, ◌-◌, ◌*◌, ◌/◌, ◌%◌, Bool, if◌then◌else◌, not, ◌&&◌, ◌||◌, ◌==◌, nat_lt, nat_le, List, [], ◌∷◌, ◌++◌, map, flat_map, Option, None, slice_index_or}
use Rattle.std.specs.List.{range_with_len}
use Rattle.kl_base.specs.declared.class.Range.{Range}
use Rattle.kl_le.specs.Bytes.{num}
use Rattle.kl_elf.specs.declared.records.Shdr.{Shdr}
use Rattle.kl_model.specs.Kept.{no_section, no_symbol}
use Rattle.kl_model.specs.Lists.{number_in}
use Rattle.kl_model.specs.declared.object.Section.{Section}
use Rattle.kl_model.specs.declared.object.Symbol.{Symbol}
use Rattle.kl_model.specs.declared.object.Group.{Group}
use Rattle.kl_rel.specs.Flaws.{flaw_if, first_of}
use Rattle.kl_rel.specs.Headers.{head, header_place, section, numbers, is_symbol_table}
use Rattle.kl_rel.specs.Sections.{sections_in}
use Rattle.kl_rel.specs.SymbolTables.{symbol_count, symbols_in, is_in_section}
use Rattle.kl_rel.specs.declared.fault.ReadFault.{ReadFault}
use Rattle.kl_rel.specs.declared.fault.ReadKind.TheVariants.{GroupForm}
use Rattle.kl_elf.specs.declared.abi.TheConstants.{GRP_COMDAT, SHT_GROUP, STT_SECTION}
use Rattle.kl_elf.specs.declared.records.TheConstants.Shdr as shdr

-- SHT_GROUP: a list of words of 4 bytes, its flags and then its members
abbrev pub is_group : Shdr → Bool
is_group s = s.kind == SHT_GROUP

abbrev pub word_place : Shdr → ℕ → ℕ
word_place s j = s.offset + 4 * j

abbrev pub word : List ℕ → Shdr → ℕ → ℕ
word b s j = num b (word_place s j) 4

-- the places of its members in the list
abbrev pub member_places : Shdr → List ℕ
member_places s = range_with_len 1 (s.size / 4 - 1)

unfoldable pub members : List ℕ → Shdr → List ℕ
members b s = map (word b s) (member_places s)

-- the members of all groups before section n, and those of group n before its word j
unfoldable pub members_of : List ℕ → ℕ → List ℕ
members_of b n = if is_group (section b n) then members b (section b n) else []

unfoldable pub members_before : List ℕ → ℕ → ℕ → List ℕ
members_before b n j = flat_map (members_of b) (range_with_len 1 (n - 1)) ++ map (word b (section b n)) (range_with_len 1 (j - 1))

-- its size, its symbol table, its signature symbol, and its flags: none, or GRP_COMDAT
unfoldable pub group_form_checks : List ℕ → ℕ → Shdr → List (Option ReadFault)
group_form_checks b place s =
    flaw_if (nat_lt s.size 4 || not (s.size % 4 == 0)) GroupForm (place + shdr.SH_SIZE)
    ∷ flaw_if (not (is_symbol_table (section b s.link))) GroupForm (place + shdr.SH_LINK)
    ∷ flaw_if ((s.info == 0) || nat_le (symbol_count b) s.info) GroupForm (place + shdr.SH_INFO)
    ∷ flaw_if (nat_lt GRP_COMDAT (word b s 0)) GroupForm (word_place s 0) ∷ []

-- a member of group n: the number of another section that is in no group before
unfoldable pub member_flaw : ℕ → List ℕ → ℕ → ℕ → ℕ → Option ReadFault
member_flaw count before n place m =
    flaw_if ((m == 0) || nat_le count m || (m == n) || number_in before m) GroupForm place

abbrev pub member_flaw_of : List ℕ → ℕ → ℕ → Option ReadFault
member_flaw_of b n j =
    member_flaw (head b).shnum (members_before b n j) n (word_place (section b n) j) (word b (section b n) j)

unfoldable pub members_flaw : List ℕ → ℕ → Option ReadFault
members_flaw b n = first_of (map (member_flaw_of b n) (member_places (section b n)))

-- group n
unfoldable pub group_checks : List ℕ → ℕ → List (Option ReadFault)
group_checks b n = first_of (group_form_checks b (header_place b n) (section b n)) ∷ members_flaw b n ∷ []

abbrev pub group_flaw_of : List ℕ → ℕ → Option ReadFault
group_flaw_of b n = if is_group (section b n) then first_of (group_checks b n) else None

unfoldable pub groups_flaw : List ℕ → Option ReadFault
groups_flaw b = first_of (map (group_flaw_of b) (numbers b))

-- the name of a group's signature: that of a symbol, or of its section where it is one of STT_SECTION that stands in a section
abbrev pub signature : List Section → Symbol → Range
signature sections y =
    if (y.kind == STT_SECTION) && is_in_section y.section then (slice_index_or sections (y.section - 1) no_section).name else y.name

unfoldable pub group_of : List ℕ → ℕ → Group
group_of b n = record {
  section = n;
  comdat = word b (section b n) 0 == GRP_COMDAT;
  signature = signature (sections_in b) (slice_index_or (symbols_in b) (section b n).info no_symbol);
  members = members b (section b n);
}

-- the groups of an object, by section
unfoldable pub groups_at : List ℕ → ℕ → List Group
groups_at b n = if is_group (section b n) then group_of b n ∷ [] else []

unfoldable pub groups_in : List ℕ → List Group
groups_in b = flat_map (groups_at b) (numbers b)
