-- The graph of the small library.
use Rattle.std.specs.Prelude.{◌∷◌, [], None}
use Rattle.kl_model.specs.declared.graph.Graph.{Graph}
use Rattle.kl_model.specs.declared.object.Part.TheVariants.{Drawn}
use Rattle.field_tests.specs.declared.small.TheConstants.{FIELDS, NAMES, PIECES}

abbrev pub small_graph : Graph
small_graph = record { pieces = PIECES; fields = FIELDS; names = NAMES; entry = None; parts = Drawn ∷ [] }
