-- A roomy kit links wherever its names do.
use Rattle.std.specs.Prelude.{ℕ, ◌≡◌, List, [], map, Option, IfSome}
use Rattle.kl_model.specs.Faults.{graph_faults, resolve_faults}
use Rattle.kl_model.specs.Fit.{AreFit, AreGaps, IsKit}
use Rattle.kl_model.specs.Graphs.{graph}
use Rattle.kl_model.specs.Orders.{IsOrder, drawn_count}
use Rattle.kl_model.specs.Roomy.{IsRoomy}
use Rattle.kl_model.specs.declared.kit.Kit.{Kit}
use Rattle.kl_model.specs.declared.link.LinkFault.{LinkFault}
use Rattle.kl_model.specs.declared.link.LinkFault.TheVariants as fault
use Rattle.kl_model.specs.declared.object.Input.{Input}
use Rattle.kl_model.specs.declared.place.Gaps.{Gaps}

-- a fault that no order and no gap decides
abbrev pub IsNoSpanOrRange : LinkFault → Type 0
IsNoSpanOrRange (fault.Span n limit) = ⊥
IsNoSpanOrRange (fault.Range from s a p) = ⊥
IsNoSpanOrRange _ = Unit {0}

-- where names are resolved, the graph of a roomy kit has no fault: its span is within the limit and each field's value in range, under
-- any order of the drawn inputs and with any gaps
abbrev pub RoomyLinks : Type 0
RoomyLinks =
    (kit : Kit) (inputs : List Input) (gaps : Option Gaps) (order : List ℕ) → IsKit kit → AreFit inputs
    → IfSome gaps AreGaps → IsOrder (drawn_count (map (λ x. x.place) inputs)) order → resolve_faults kit inputs ≡ []
    → IsRoomy kit (graph kit inputs) → graph_faults kit (graph kit inputs) gaps order ≡ []
