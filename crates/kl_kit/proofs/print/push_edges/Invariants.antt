use Rattle.std.proofs.Common.{◌≡◌, ◌++◌, drop}
use Rattle.std.specs.List.{flat_map}
use Rattle.kl_kit.specs.KitPrints.{edge_line}
use Rattle.kl_kit.proofs.print.push_edges.Given as goal

-- the lines so far and those that are left are the text
abbrev pub invariant-loop-edge : goal.invariant-loop-edge
invariant-loop-edge l = l.text.items ++ flat_map edge_line (drop l.edge-index l.edges) ≡ l.fn.text.items ++ flat_map edge_line l.edges
