-- What is known of the image of a library's kit.
use Rattle.std.specs.Prelude.{ℕ, ◌≡◌, ◌≤◌, List, [], map, None}
use Rattle.kl_base.specs.declared.limits.TheConstants.{SPAN_LIMIT}
use Rattle.kl_model.specs.Carries.{Carries, NamesPieces}
use Rattle.kl_model.specs.Faults.{range_faults, resolve_faults}
use Rattle.kl_model.specs.Fit.{AreFit, IsKit}
use Rattle.kl_model.specs.Graphs.{graph}
use Rattle.kl_model.specs.Image.{image_bytes}
use Rattle.kl_model.specs.Laid.{Laid, span}
use Rattle.kl_model.specs.Orders.{IsOrder, drawn_count}
use Rattle.kl_model.specs.Sizes.{made_of}
use Rattle.kl_model.specs.declared.kit.Kit.{Kit}
use Rattle.kl_model.specs.declared.kit.KitKind.TheVariants.{Library}
use Rattle.kl_model.specs.declared.object.Input.{Input}
use Rattle.kl_model.specs.declared.place.Placement.{Placement}
use Rattle.kl_write.specs.LaidKits.{HasAreaAddresses}

-- the graph of a library's kit is laid out under an order, in the span
pub record IsLaidLibrary (kit : Kit) (inputs : List Input) (order : List ℕ) (p : Placement) : Type 0 where
  pub library : kit.kind ≡ Library
  pub is_kit : IsKit kit
  pub fit : AreFit inputs
  pub whole : IsOrder (drawn_count (map (λ x. x.place) inputs)) order
  pub laid : Laid p kit (graph kit inputs) None order (made_of kit (graph kit inputs))
  pub names : NamesPieces p (graph kit inputs) None
  pub small : span kit (graph kit inputs) None order (made_of kit (graph kit inputs)) ≤ SPAN_LIMIT
  pub addresses : HasAreaAddresses p

-- THE IMAGE OF A LIBRARY CARRIES ITS KIT, where no fault of names and fields stands, and no value is out of range.
abbrev pub LibraryLinks : Type 0
LibraryLinks =
    (kit : Kit) (inputs : List Input) (order : List ℕ) (p : Placement) → IsLaidLibrary kit inputs order p
    → resolve_faults kit inputs ≡ [] → range_faults p (graph kit inputs) ≡ []
    → Carries (image_bytes kit inputs (graph kit inputs) None p) p kit inputs None order
