use Rattle.std.proofs.Common.{◌≡◌, [], take}
use Rattle.std.specs.Prelude.{flat_map, map}
use Rattle.kl_model.specs.Names.{edge_names}
use Rattle.kl_names.proofs.EdgeLaws.{clash_of, edge_among}
use Rattle.kl_names.proofs.edges.edge_targets.Given as goal

abbrev pub invariant-loop-edge : goal.invariant-loop-edge
invariant-loop-edge l = record {
  targets : l.targets.items ≡ map (edge_among (take l.edge-index (edge_names l.kit))) l.numbering.index;
  sound : flat_map (clash_of l.kit l.inputs) (take l.edge-index (edge_names l.kit)) ≡ [];
}
