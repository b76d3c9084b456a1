use Rattle.std.proofs.Common.{◌≡◌, drop}
use Rattle.kl_names.specs.Edges.{shown}
use Rattle.kl_names.proofs.EdgeLaws.{edge_among}
use Rattle.kl_names.proofs.edges.first_edge.Given as goal

abbrev pub invariant-loop-edge : goal.invariant-loop-edge
invariant-loop-edge l = edge_among (shown (drop l.edge-index l.edges)) l.name ≡ edge_among (shown l.edges) l.name
