-- What a reader of images says of one that a linker gave.
use Rattle.std.specs.Prelude.{ℕ, ◌≡◌, List, [], map, None, Option}
use Rattle.kl_image.specs.Flaws.{image_flaws}
use Rattle.kl_model.specs.Carries.{Carries}
use Rattle.kl_model.specs.Faults.{link_fault}
use Rattle.kl_model.specs.Fit.{AreFit, IsKit}
use Rattle.kl_model.specs.Orders.{IsOrder, drawn_count}
use Rattle.kl_model.specs.declared.kit.Kit.{Kit}
use Rattle.kl_model.specs.declared.object.Input.{Input}
use Rattle.kl_model.specs.declared.place.Gaps.{Gaps}
use Rattle.kl_model.specs.declared.place.Placement.{Placement}

-- an image and a placement as a linker gives them of a kit and its inputs: no fault stands, and they carry the kit
pub record IsLinked (kit : Kit) (inputs : List Input) (gaps : Option Gaps) (order img : List ℕ) (p : Placement) : Type 0 where
  pub is_kit : IsKit kit
  pub fit : AreFit inputs
  pub whole : IsOrder (drawn_count (map (λ x. x.place) inputs)) order
  pub sound : link_fault kit inputs gaps order ≡ None
  pub carries : Carries img p kit inputs gaps order

-- NO IMAGE THAT A LINKER GIVES HAS A FLAW, of a kernel or of a library: a reader gives its headers.
abbrev pub NoFlaw : Type 0
NoFlaw = (kit : Kit) (inputs : List Input) (gaps : Option Gaps) (order img : List ℕ) (p : Placement) → IsLinked kit inputs gaps order img p → image_flaws img ≡ []
