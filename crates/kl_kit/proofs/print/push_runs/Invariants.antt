use Rattle.std.proofs.Common.{◌≡◌, ◌++◌, drop}
use Rattle.std.specs.List.{flat_map}
use Rattle.kl_kit.specs.KitPrints.{run_line}
use Rattle.kl_kit.proofs.print.push_runs.Given as goal

-- the lines so far and those that are left are the text
abbrev pub invariant-loop-run : goal.invariant-loop-run
invariant-loop-run l = l.text.items ++ flat_map run_line (drop l.run-index l.runs) ≡ l.fn.text.items ++ flat_map run_line l.runs
