-- A graph has one placement.
use Rattle.std.specs.Prelude.{ℕ, ◌^◌, ◌≡◌, ◌<◌, ◌≤◌, List, All, Option}
use Rattle.kl_base.specs.declared.limits.TheConstants.{BASE_LIMIT, SPAN_LIMIT}
use Rattle.kl_model.specs.Carries.{NamesPieces}
use Rattle.kl_model.specs.Laid.{Laid, span}
use Rattle.kl_model.specs.Orders.{drawn_count, IsOrder}
use Rattle.kl_model.specs.Placed.{placed}
use Rattle.kl_model.specs.Sound.{IsSoundGraph}
use Rattle.kl_model.specs.declared.graph.Graph.{Graph}
use Rattle.kl_model.specs.declared.kit.Kit.{Kit}
use Rattle.kl_model.specs.declared.place.Gaps.{Gaps}
use Rattle.kl_model.specs.declared.place.Made.{Made}
use Rattle.kl_model.specs.declared.place.Placement.{Placement}

-- a placement whose addresses have 64 bits, as those of every placement that runs have
abbrev pub HasAddresses : Placement → Type 0
HasAddresses p = All (λ x. x.address < 2 ^ 64) p.pieces

-- A placement of a sound graph that is laid out within the limit is the computed one.
abbrev pub OnePlacement : Type 0
OnePlacement =
    (kit : Kit) (g : Graph) (gaps : Option Gaps) (order : List ℕ) (made : Made) (p : Placement) → kit.base ≤ BASE_LIMIT → IsSoundGraph kit g
    → IsOrder (drawn_count g.parts) order → span kit g gaps order made ≤ SPAN_LIMIT → HasAddresses p → NamesPieces p g gaps → Laid p kit g gaps order made
    → p ≡ placed kit g gaps order made
