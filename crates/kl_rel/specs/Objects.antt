-- The object that stands in the bytes of a file, and the first flaw of one.
use Rattle.std.specs.Prelude.{ℕ, List, [], ◌∷◌, Option}
use Rattle.kl_model.specs.declared.object.Object.{Object}
use Rattle.kl_rel.specs.Flaws.{first_of}
use Rattle.kl_rel.specs.Headers.{head_flaw, table_checks, ranges_flaw}
use Rattle.kl_rel.specs.Sections.{sections_in, sections_flaw}
use Rattle.kl_rel.specs.SymbolTables.{symbols_in, symbol_table_checks, symbols_flaw}
use Rattle.kl_rel.specs.Relocations.{fields_in, relocations_flaw}
use Rattle.kl_rel.specs.SectionGroups.{groups_in, groups_flaw}
use Rattle.kl_rel.specs.declared.fault.ReadFault.{ReadFault}

-- The first flaw of a file, or none: of its header, its section header table, the places of its sections, their names and types,
-- its symbol table, its symbols, its relocation entries and its groups.
unfoldable pub flaw : List ℕ → Option ReadFault
flaw b =
    first_of (head_flaw b ∷ first_of (table_checks b) ∷ ranges_flaw b ∷ sections_flaw b ∷ first_of (symbol_table_checks b) ∷ symbols_flaw b ∷ relocations_flaw b
    ∷ groups_flaw b ∷ [])

-- the object that stands in a file without a flaw
unfoldable pub object : List ℕ → Object
object b = record { sections = sections_in b; symbols = symbols_in b; fields = fields_in b; groups = groups_in b }
