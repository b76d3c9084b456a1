use Rattle.std.proofs.Common.{◌≡◌, ◌+◌, ◌++◌, take}
use Rattle.std.specs.Prelude.{sum_by}
use Rattle.kl_model.specs.Sizes.{ended_size}
use Rattle.kl_model.specs.Tables.{needed_from}
use Rattle.kl_dyn.proofs.dynamic.push_needed.Given as goal

abbrev pub invariant-loop-name : goal.invariant-loop-name
invariant-loop-name l = record {
  entries : l.entries.items ≡ l.fn.entries.items ++ needed_from l.fn.at (take l.name-index l.needed);
  at : l.at ≡ l.fn.at + sum_by ended_size (take l.name-index l.needed);
}
