use Rattle.std.proofs.Common.{◌≡◌, ◌++◌, drop}
use Rattle.kl_ar.specs.Readers.{name_ends}
use Rattle.kl_ar.proofs.long_names.LongNames.new.Given as goal

abbrev pub invariant-loop-place : goal.invariant-loop-place
invariant-loop-place l = l.ends.items ++ name_ends l.place (drop l.place l.table) ≡ name_ends 0 l.table
