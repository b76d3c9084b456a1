-- What is found through the hash table of a library's image (gABI, "Hash Table").
use Rattle.std.specs.Prelude.{ℕ, ◌≡◌, ◌≢◌, ◌==◌, ◌&&◌, Bool, true, not, List, All, AllPairs, IfSome, Option, Some, None, find, option_map}
use Rattle.std.specs.Option.{option_map_or}
use Rattle.std.specs.Str.{bytes_eq}
use Rattle.kl_elf.specs.declared.abi.TheConstants.{SHN_UNDEF}
use Rattle.kl_model.specs.Found.{found}
use Rattle.kl_model.specs.Leads.{address_of}
use Rattle.kl_model.specs.Tables.{dyn_text, section_number}
use Rattle.kl_model.specs.declared.graph.DynName.{DynName}
use Rattle.kl_model.specs.declared.graph.Graph.{Graph}
use Rattle.kl_model.specs.declared.kit.Kit.{Kit}
use Rattle.kl_model.specs.declared.kit.KitKind.TheVariants.{Library}
use Rattle.kl_model.specs.declared.object.Input.{Input}
use Rattle.kl_model.specs.declared.place.Gaps.{Gaps}
use Rattle.kl_model.specs.declared.place.Placement.{Placement}
use Rattle.kl_write.specs.LaidKits.{HasAreaAddresses, IsLaidKit, LibraryHolds}
use Rattle.kl_loading.specs.TablesReadBack.{HasTexts}

-- the symbol of a name is defined: its section number is that of a place or of a number, not SHN_UNDEF
abbrev pub is_defined : Graph → DynName → Bool
is_defined g d = not (section_number g d.exported == SHN_UNDEF)

-- a name is exported under a text
abbrev pub is_export : List Input → Graph → List ℕ → DynName → Bool
is_export inputs g text d = is_defined g d && bytes_eq (dyn_text inputs d) text

abbrev pub export_value : Placement → Graph → DynName → ℕ
export_value p g d = option_map_or (address_of p g) d.exported 0

abbrev pub HaveOtherTexts : List Input → DynName → DynName → Type 0
HaveOtherTexts inputs d e = dyn_text inputs d ≢ dyn_text inputs e

-- What an image has for each text, of any bytes: the value of the first exported name with that text. So where no two names have the
-- same text each exported name is found with the address of its target, and a text that is that of no exported name isn't found.
pub record AreExports (img : List ℕ) (p : Placement) (inputs : List Input) (g : Graph) : Type 0 where
  pub each_text : (text : List ℕ) → found img text ≡ option_map (export_value p g) (find (is_export inputs g text) g.names)
  pub exported : AllPairs (HaveOtherTexts inputs) g.names
      → All (λ d. is_defined g d ≡ true → IfSome d.exported (λ t. found img (dyn_text inputs d) ≡ Some (address_of p g t))) g.names
  pub others : (text : List ℕ) → All (λ d. is_defined g d ≡ true → dyn_text inputs d ≢ text) g.names → found img text ≡ None

-- EACH EXPORTED NAME OF A LIBRARY IS FOUND BY ITS HASH TABLE, AND NO OTHER TEXT.
abbrev pub ExportsFound : Type 0
ExportsFound =
    (img : List ℕ) (p : Placement) (kit : Kit) (inputs : List Input) (g : Graph) (gaps : Option Gaps) (order : List ℕ) → kit.kind ≡ Library
    → IsLaidKit kit g gaps order p → HasAreaAddresses p → LibraryHolds img p kit inputs g gaps order → HasTexts inputs g
    → AreExports img p inputs g
