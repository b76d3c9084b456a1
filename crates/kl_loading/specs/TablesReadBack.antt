-- The dynamic tables of a library's file read as what was written.
use Rattle.std.specs.Prelude.{ℕ, suc, ◌≡◌, ◌≢◌, ◌<◌, ◌==◌, List, ◌++◌, length, All, Option, Some, slice_index_or}
use Rattle.std.specs.List.{before_first}
use Rattle.kl_elf.specs.declared.abi.TheConstants.{DT_NULL}
use Rattle.kl_elf.specs.declared.records.Dyn.{Dyn}
use Rattle.kl_model.specs.Loaded.{chain_count, dynamics, name_in, relas, strings_in}
use Rattle.kl_model.specs.Sizes.{symbol_count}
use Rattle.kl_model.specs.Slots.{jump_entries, rela_entries}
use Rattle.kl_model.specs.Tables.{dyn_text, dynamic_of, no_dyn, relas_of, strings_of}
use Rattle.kl_model.specs.declared.graph.DynName.{DynName}
use Rattle.kl_model.specs.declared.graph.Graph.{Graph}
use Rattle.kl_model.specs.declared.kit.Kit.{Kit}
use Rattle.kl_model.specs.declared.kit.KitKind.TheVariants.{Library}
use Rattle.kl_model.specs.declared.object.Input.{Input}
use Rattle.kl_model.specs.declared.place.Gaps.{Gaps}
use Rattle.kl_model.specs.declared.place.Placement.{Placement}
use Rattle.kl_write.specs.LaidKits.{HasAreaAddresses, IsLaidKit, LibraryHolds}

-- the text of a dynamic name has as many bytes as the name says, and no zero byte
pub record IsText (inputs : List Input) (d : DynName) : Type 0 where
  pub len : length (dyn_text inputs d) ≡ d.name.len
  pub no_zero : All (λ c. c ≢ 0) (dyn_text inputs d)

abbrev pub HasTexts : List Input → Graph → Type 0
HasTexts inputs g = All (IsText inputs) g.names

-- the entries of the dynamic section, up to its first DT_NULL
abbrev pub dynamic_entries : Kit → Graph → Placement → List Dyn
dynamic_entries kit g p = before_first (λ d. d.tag == DT_NULL) (dynamic_of kit g p)

-- what is read from an image is what was written: the dynamic section, how many symbols there are, strings, the name of each symbol
-- that has one, and the relocation entries, those of stubs last
pub record TablesAre (img : List ℕ) (p : Placement) (kit : Kit) (inputs : List Input) (g : Graph) : Type 0 where
  pub dynamic : dynamics img ≡ dynamic_entries kit g p
  pub count : chain_count img ≡ symbol_count g
  pub strings : strings_in img ≡ strings_of kit inputs g
  pub names : (n : ℕ) → n < length g.names → name_in img (suc n) ≡ Some (dyn_text inputs (slice_index_or g.names n no_dyn))
  pub relas : relas img ≡ relas_of p g (rela_entries g) ++ relas_of p g (jump_entries g)

-- THE TABLES OF A LIBRARY'S FILE READ AS WHAT WAS WRITTEN.
abbrev pub TablesReadBack : Type 0
TablesReadBack =
    (img : List ℕ) (p : Placement) (kit : Kit) (inputs : List Input) (g : Graph) (gaps : Option Gaps) (order : List ℕ) → kit.kind ≡ Library
    → IsLaidKit kit g gaps order p → HasAreaAddresses p → LibraryHolds img p kit inputs g gaps order → HasTexts inputs g
    → TablesAre img p kit inputs g
