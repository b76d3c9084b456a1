-- The lines of a kit that name edges.
use Rattle.std.specs.Prelude.{ℕ, ◌+◌, ◌<◌, ◌≤◌, ◌^◌, List, map, length, AllPairs}
use Rattle.kl_model.specs.declared.area.TheConstants as area
use Rattle.kl_model.specs.declared.kit.EdgeLine.{EdgeLine}
use Rattle.kl_model.specs.declared.kit.Kit.{Kit}
use Rattle.kl_model.specs.declared.graph.Target.{Target}
use Rattle.kl_model.specs.declared.graph.Target.TheVariants.{Edge}

-- The `run` lines of a kit ascend, and so do its `edge` lines; each run's number fits 32 bits.
pub record AreEdgeLines (kit : Kit) : Type 0 where
  pub runs : AllPairs (λ r s. r.line ≤ s.line) kit.runs
  pub edges : AllPairs (λ d e. d.line ≤ e.line) kit.edges
  pub count : area.FIRST_RUN + length kit.runs < 2 ^ 32

-- the names that `edge` lines give
abbrev pub name_given : EdgeLine → List ℕ × Target
name_given e = (e.symbol, Edge e.area e.end)

abbrev pub names_given : List EdgeLine → List (List ℕ × Target)
names_given lines = map name_given lines
