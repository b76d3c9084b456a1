-- Targets that have a place.
use Rattle.std.specs.Prelude.{◌<◌, length}
use Rattle.kl_model.specs.declared.graph.Graph.{Graph}
use Rattle.kl_model.specs.declared.graph.Target.{Target}
use Rattle.kl_model.specs.declared.graph.Target.TheVariants.{Place, Edge}
use Rattle.kl_model.specs.declared.place.Placement.{Placement}

-- the piece or the area of a target is among those of the placement
abbrev pub IsPlacedTarget : Graph → Placement → Target → Type 0
IsPlacedTarget g p (Place n k) = n < length p.pieces
IsPlacedTarget g p (Edge n e) = n < length p.areas
IsPlacedTarget g p _ = Unit {0}
