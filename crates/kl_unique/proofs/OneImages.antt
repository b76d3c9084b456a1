-- A kernel's kit has one image and one placement.
use Rattle.std.proofs.Common.{ℕ, ◌≡◌, ◌≤◌, ◌∙◌, List, map, sym, subst}
use Rattle.std.specs.Prelude.{Option}
use Rattle.kl_base.specs.declared.limits.TheConstants.{BASE_LIMIT}
use Rattle.kl_layout.proofs.OnlyPlaced as only
use Rattle.kl_layout.specs.OnePlacement.{HasAddresses}
use Rattle.kl_model.specs.Carries.{CarriesGraph}
use Rattle.kl_model.specs.Graphs.{graph}
use Rattle.kl_model.specs.Orders.{IsOrder, drawn_count}
use Rattle.kl_model.specs.Placed.{placed}
use Rattle.kl_model.specs.Sizes.{made_of}
use Rattle.kl_model.specs.Sound.{IsSoundGraph}
use Rattle.kl_model.specs.declared.graph.Graph.{Graph}
use Rattle.kl_model.specs.declared.kit.Kit.{Kit}
use Rattle.kl_model.specs.declared.object.Input.{Input}
use Rattle.kl_model.specs.declared.place.Gaps.{Gaps}
use Rattle.kl_model.specs.declared.place.Placement.{Placement}
use Rattle.kl_sym.proofs.SoundPieces.{pieces_sound}
use Rattle.kl_unique.specs.OneImage.{OneImage}
use Rattle.kl_unique.proofs.Bare.{bare, bare_laid, bare_small, bare_sound}
use Rattle.kl_unique.proofs.SameFiles.{same_file}

graph_order : (kit : Kit) (inputs : List Input) (order : List ℕ) → IsOrder (drawn_count (map (λ x. x.place) inputs)) order → IsOrder (drawn_count (graph kit inputs).parts) order
unfolding graph
graph_order kit inputs order o = o

-- the placement of a carried graph is the computed one
placement_is : (img : List ℕ) (p : Placement) (kit : Kit) (inputs : List Input) (g : Graph) (gaps : Option Gaps) (order : List ℕ) → kit.base ≤ BASE_LIMIT
    → IsSoundGraph kit (bare g) → IsOrder (drawn_count g.parts) order → HasAddresses p → CarriesGraph img p kit inputs g gaps order
    → p ≡ placed kit (bare g) gaps order (made_of kit g)
placement_is img p kit inputs g gaps order limit flat o words c =
    only.one_placement kit (bare g) gaps order (made_of kit g) p limit flat o (bare_small p kit g gaps order (made_of kit g) c.small) words c.names
    (bare_laid p kit g gaps order (made_of kit g) c.laid)

-- THE LAW
pub one_image : OneImage
one_image kit inputs gaps order img twin p q is_kit kernel fit o own other carries carried =
    let limit = (is_kit.kernel kernel).base_limit in
    let g = graph kit inputs in
    let flat = bare_sound kit inputs fit in
    let whole = graph_order kit inputs order o in
    let same : p ≡ q =
    placement_is img p kit inputs g gaps order limit flat whole own.addresses carries
    ∙ sym (placement_is twin q kit inputs g gaps order limit flat whole other.addresses carried) in
    let moved = subst (λ r. CarriesGraph twin r kit inputs g gaps order) (sym same) carried in
    (same_file kit inputs g gaps order p kernel limit (pieces_sound kit inputs fit) flat whole img twin own.bytes other.bytes carries moved, same)
