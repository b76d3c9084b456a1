use Rattle.std.proofs.Common.{◌≡◌, ◌++◌, take}
use Rattle.kl_names.specs.EdgeLines.{names_given}
use Rattle.kl_names.specs.Edges.{shown}
use Rattle.kl_names.proofs.edge_lines.push_lines.Given as goal

abbrev pub invariant-loop-line : goal.invariant-loop-line
invariant-loop-line l = shown l.names.items ≡ shown l.initial.names.items ++ names_given (take l.line-index l.lines)
