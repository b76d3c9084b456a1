-- Where a field leads is the same in all images of a kit.
use Rattle.std.specs.Prelude.{ℕ, List, Option, All}
use Rattle.kl_model.specs.Graphs.{graph}
use Rattle.kl_model.specs.Carries.{Carries, LeadsTo}
use Rattle.kl_model.specs.Laid.{span}
use Rattle.kl_model.specs.Sizes.{made_of, page_of}
use Rattle.kl_model.specs.declared.graph.Field.{Field}
use Rattle.kl_model.specs.declared.graph.Target.{Target}
use Rattle.kl_model.specs.declared.kit.Kit.{Kit}
use Rattle.kl_model.specs.declared.object.Input.{Input}
use Rattle.kl_model.specs.declared.place.Gaps.{Gaps}
use Rattle.kl_model.specs.declared.place.Placement.{Placement}

-- in each image of a kit, whatever its order and gaps, a field's bytes lead to this target (psABI, "Relocation Types")
abbrev pub AlwaysLeadsTo : Kit → List Input → Field → Target → Type 0
AlwaysLeadsTo kit inputs f t =
    let g = graph kit inputs in
    (img : List ℕ) (p : Placement) (gaps : Option Gaps) (order : List ℕ) → Carries img p kit inputs gaps order
    → LeadsTo kit.kind img p inputs g (page_of kit g) (span kit g gaps order (made_of kit g)) f t

-- in all images of a kit each field of its graph leads to the target that the graph gives it: a piece and an offset there,
-- or a number
abbrev pub OneTarget : Type 0
OneTarget = (kit : Kit) (inputs : List Input) → All (λ f. AlwaysLeadsTo kit inputs f f.target) (graph kit inputs).fields
