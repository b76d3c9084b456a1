use Rattle.std.proofs.Common.{◌≡◌, take}
use Rattle.std.specs.Prelude.{flat_map}
use Rattle.kl_model.specs.Written.{dyn_bytes}
use Rattle.kl_dyn.proofs.dynamic.bytes_of_entries.Given as goal

abbrev pub invariant-loop-entry : goal.invariant-loop-entry
invariant-loop-entry l = l.bytes.items ≡ flat_map dyn_bytes (take l.entry-index l.entries)
