-- The names that a kit gives to edges, as pairs.
use Rattle.std.specs.Prelude.{ℕ, List, map}
use Rattle.kl_model.specs.declared.graph.Target.{Target}
use Rattle.kl_names.specs.declared.edges.EdgeName.{EdgeName}

abbrev pub named_edge : EdgeName → List ℕ × Target
named_edge e = (e.name.now, e.target)

abbrev pub shown : List EdgeName → List (List ℕ × Target)
shown edges = map named_edge edges
