-- A kit has one image and one placement.
use Rattle.std.specs.Prelude.{ℕ, ◌^◌, ◌≡◌, ◌<◌, List, map, All, Option}
use Rattle.kl_layout.specs.OnePlacement.{HasAddresses}
use Rattle.kl_model.specs.Carries.{Carries}
use Rattle.kl_model.specs.Fit.{AreFit, IsKit}
use Rattle.kl_model.specs.Orders.{IsOrder, drawn_count}
use Rattle.kl_model.specs.declared.kit.Kit.{Kit}
use Rattle.kl_model.specs.declared.kit.KitKind.TheVariants.{Kernel}
use Rattle.kl_model.specs.declared.object.Input.{Input}
use Rattle.kl_model.specs.declared.place.Gaps.{Gaps}
use Rattle.kl_model.specs.declared.place.Placement.{Placement}

-- an image and its placement as every program that runs has them: a file's bytes have 8 bits, and addresses 64
pub record AreInWords (img : List ℕ) (p : Placement) : Type 0 where
  pub bytes : All (λ b. b < 2 ^ 8) img
  pub addresses : HasAddresses p

-- ONE IMAGE: of two images and placements that carry a kernel's kit under one order and with the same gaps, the images are the same
-- bytes, and the placements the same addresses.
abbrev pub OneImage : Type 0
OneImage =
    (kit : Kit) (inputs : List Input) (gaps : Option Gaps) (order : List ℕ) (img twin : List ℕ) (p q : Placement) → IsKit kit
    → kit.kind ≡ Kernel → AreFit inputs → IsOrder (drawn_count (map (λ x. x.place) inputs)) order
    → AreInWords img p → AreInWords twin q → Carries img p kit inputs gaps order → Carries twin q kit inputs gaps order
    → (img ≡ twin) × (p ≡ q)
