use Rattle.std.proofs.Common.{◌≡◌, ◌++◌, take}
use Rattle.kl_jobs.specs.Reading.{lines_of}
use Rattle.kl_jobs.proofs.reading.push_lines.Given as goal

abbrev pub invariant-loop-line : goal.invariant-loop-line
invariant-loop-line l = l.ordered.items ≡ l.initial.ordered.items ++ lines_of l.part (take l.line-index l.lines)
