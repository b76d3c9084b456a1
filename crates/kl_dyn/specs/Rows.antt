-- The rows of the dynamic section. For the contracts inside this crate alone.
use Rattle.std.specs.Prelude.{ℕ, ◌==◌, if◌then◌else◌, List, [], ◌∷◌, ◌++◌, length, map}
use Rattle.kl_elf.specs.declared.abi.TheConstants.{DT_FINI, DT_FINI_ARRAY, DT_FINI_ARRAYSZ, DT_HASH, DT_INIT, DT_INIT_ARRAY, DT_INIT_ARRAYSZ, DT_JMPREL, DT_PLTGOT, DT_PLTREL, DT_PLTRELSZ, DT_RELA, DT_RELAENT, DT_RELASZ, DT_STRSZ, DT_STRTAB, DT_SYMENT, DT_SYMTAB}
use Rattle.kl_elf.specs.declared.records.Dyn.{Dyn}
use Rattle.kl_model.specs.Lists.{only_if}
use Rattle.kl_model.specs.Sizes.{has_bytes}
use Rattle.kl_model.specs.Slots.{jump_entries, rela_entries}
use Rattle.kl_model.specs.Tables.{tag_value}
use Rattle.kl_model.specs.declared.area.TheConstants as area
use Rattle.kl_model.specs.declared.graph.Graph.{Graph}
use Rattle.kl_model.specs.declared.kit.Kit.{Kit}
use Rattle.kl_model.specs.declared.place.Placement.{Placement}

-- the rows of some tags
abbrev pub rows : Kit → Graph → Placement → List ℕ → List Dyn
rows kit g p tags = map (λ tag. record { tag = tag; value = tag_value kit g p tag }) tags

-- the tags of functions that run when the library is loaded and unloaded, and those of its tables
abbrev pub function_tags : Graph → List ℕ
function_tags g =
    only_if (has_bytes g area.INIT) DT_INIT
    ++ (only_if (has_bytes g area.FINI) DT_FINI
    ++ ((if has_bytes g area.INIT_ARRAY then DT_INIT_ARRAY ∷ DT_INIT_ARRAYSZ ∷ [] else [])
    ++ (if has_bytes g area.FINI_ARRAY then DT_FINI_ARRAY ∷ DT_FINI_ARRAYSZ ∷ [] else [])))

abbrev pub table_tags : Graph → List ℕ
table_tags g =
    DT_HASH ∷ DT_STRTAB ∷ DT_SYMTAB ∷ DT_STRSZ ∷ DT_SYMENT ∷ []
    ++ ((if length (rela_entries g) == 0 then [] else DT_RELA ∷ DT_RELASZ ∷ DT_RELAENT ∷ [])
    ++ (if length (jump_entries g) == 0 then [] else DT_JMPREL ∷ DT_PLTRELSZ ∷ DT_PLTREL ∷ DT_PLTGOT ∷ []))
