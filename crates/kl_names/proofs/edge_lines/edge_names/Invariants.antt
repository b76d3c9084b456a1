use Rattle.std.proofs.Common.{◌≡◌, ◌++◌, ◌+◌, ◌≤◌, drop}
use Rattle.std.specs.Prelude.{AllPairs}
use Rattle.kl_model.specs.declared.area.TheConstants as area
use Rattle.kl_model.specs.Names.{edge_names}
use Rattle.kl_names.specs.Edges.{shown}
use Rattle.kl_names.proofs.LineOrder.{names_left}
use Rattle.kl_names.proofs.edge_lines.edge_names.Given as goal

abbrev pub invariant-loop-k : goal.invariant-loop-k
invariant-loop-k l = record {
  names : shown l.names.items ++ names_left (area.FIRST_RUN + l.k) (drop l.k l.kit.runs) l.rest ≡ edge_names l.kit;
  ascending : AllPairs (λ d e. d.line ≤ e.line) l.rest;
}
