use Rattle.std.proofs.Common.{◌≡◌, take}
use Rattle.kl_store.specs.Disk.{names_now}
use Rattle.kl_mem.specs.Record.{disk_of}
use Rattle.kl_mem.proofs.crash.files_after.Given as goal

abbrev pub invariant-loop-step : goal.invariant-loop-step
invariant-loop-step l = record { now : l.files ≡ names_now (disk_of (take l.step-index l.steps)) }
