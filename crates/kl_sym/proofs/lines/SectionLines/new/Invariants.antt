use Rattle.std.proofs.Common.{◌≤◌, length, take}
use Rattle.kl_sym.specs.SectionLines.{HasRuns}
use Rattle.kl_sym.proofs.lines.SectionLines.new.Given as goal

abbrev pub invariant-loop-number : goal.invariant-loop-number
invariant-loop-number l = record {
  few : length l.sections ≤ l.number;
  runs : HasRuns (take l.number l.run-items) l.sections l.runs.items;
}
