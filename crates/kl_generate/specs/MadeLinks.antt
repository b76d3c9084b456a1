-- A made kit links, under any order and with any gaps.
use Rattle.std.specs.Prelude.{ℕ, ◌-◌, ◌*◌, ◌≡◌, ◌≤◌, List, Option, None, IfSome, length}
use Rattle.kl_model.specs.Faults.{link_fault}
use Rattle.kl_model.specs.Fit.{AreFit, AreGaps}
use Rattle.kl_model.specs.Graphs.{graph}
use Rattle.kl_model.specs.Orders.{IsOrder}
use Rattle.kl_model.specs.declared.object.Input.{Input}
use Rattle.kl_model.specs.declared.place.Gaps.{Gaps}
use Rattle.kl_generate.specs.Made.{AreMade, made_kit}
use Rattle.kl_generate.specs.declared.limits.TheConstants.{MADE_LIMIT}

-- no fault stands: each name is defined, once, and the kit is roomy
abbrev pub MadeLinks : Type 0
MadeLinks =
    (n : ℕ) (inputs : List Input) (gaps : Option Gaps) (order : List ℕ) → 1 ≤ n → n ≤ MADE_LIMIT → AreMade n inputs → AreFit inputs
    → IfSome gaps AreGaps → IsOrder (n - 1) order → link_fault (made_kit n) inputs gaps order ≡ None

-- its graph has two pieces and two fields for each input
abbrev pub MadeGraph : Type 0
MadeGraph =
    (n : ℕ) (inputs : List Input) → 1 ≤ n → AreMade n inputs
    → (length (graph (made_kit n) inputs).pieces ≡ 2 * n) × (length (graph (made_kit n) inputs).fields ≡ 2 * n)
