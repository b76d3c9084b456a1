-- A library's image carries its graph: each field reaches its target, at every base and for every resolver.
use Rattle.std.specs.Prelude.{ℕ, ◌≡◌, false, List, [], Option, All}
use Rattle.kl_model.specs.Carries.{CarriesGraph, Reached, piece_at}
use Rattle.kl_model.specs.Faults.{range_faults}
use Rattle.kl_model.specs.Image.{image_bytes}
use Rattle.kl_model.specs.Laid.{span}
use Rattle.kl_model.specs.Sizes.{made_of, page_of}
use Rattle.kl_model.specs.Slots.{is_not_fixed, is_read_only}
use Rattle.kl_model.specs.declared.graph.Graph.{Graph}
use Rattle.kl_model.specs.declared.kit.Kit.{Kit}
use Rattle.kl_model.specs.declared.kit.KitKind.TheVariants.{Library}
use Rattle.kl_model.specs.declared.object.Input.{Input}
use Rattle.kl_model.specs.declared.place.Gaps.{Gaps}
use Rattle.kl_model.specs.declared.place.Placement.{Placement}
use Rattle.kl_write.specs.LaidKits.{HasAreaAddresses, HasMadeBytes, IsLaidKit, LibraryHolds}
use Rattle.kl_loading.specs.TablesReadBack.{HasTexts}

-- no field is one that is refused in a library: its value is the same at every base, or a loader writes it, and in data
pub record HasOnlyLoaded (g : Graph) : Type 0 where
  pub fixed : All (λ f. is_not_fixed f.kind f.target ≡ false) g.fields
  pub writable : All (λ f. is_read_only (piece_at g f.piece).class f.kind f.target ≡ false) g.fields

-- The areas that a linker makes in a library have as many bytes as they are laid out with, where names are texts.
abbrev pub AreasAreSized : Type 0
AreasAreSized = (kit : Kit) (inputs : List Input) (g : Graph) (p : Placement) → kit.kind ≡ Library → HasTexts inputs g → HasMadeBytes kit inputs g p

-- A library's file that holds what it has to reaches all its targets once it is loaded, where no value is out of range and no field is
-- refused.
abbrev pub LibraryReaches : Type 0
LibraryReaches =
    (img : List ℕ) (p : Placement) (kit : Kit) (inputs : List Input) (g : Graph) (gaps : Option Gaps) (order : List ℕ) → kit.kind ≡ Library
    → IsLaidKit kit g gaps order p → HasAreaAddresses p → LibraryHolds img p kit inputs g gaps order → HasTexts inputs g
    → range_faults p g ≡ [] → HasOnlyLoaded g
    → Reached Library img p inputs g (page_of kit g) (span kit g gaps order (made_of kit g))

-- THE BYTES THAT `image_byte` GIVES FOR EACH PLACE CARRY A LIBRARY'S GRAPH, where the same holds.
abbrev pub LibraryCarries : Type 0
LibraryCarries =
    (kit : Kit) (inputs : List Input) (g : Graph) (gaps : Option Gaps) (order : List ℕ) (p : Placement) → kit.kind ≡ Library
    → IsLaidKit kit g gaps order p → HasAreaAddresses p → HasTexts inputs g → range_faults p g ≡ [] → HasOnlyLoaded g
    → CarriesGraph (image_bytes kit inputs g gaps p) p kit inputs g gaps order
