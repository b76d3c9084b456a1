use Rattle.std.proofs.Common.{◌≡◌, take, []}
use Rattle.kl_store.specs.Disk.{names_now}
use Rattle.kl_mem.specs.Record.{disk_of, changes_of}
use Rattle.kl_mem.proofs.Lost.{IsPartLeft}
use Rattle.kl_mem.proofs.crash.with_lost.Given as goal

abbrev pub invariant-loop-name : goal.invariant-loop-name
invariant-loop-name l = record {
  settled : (disk_of l.made.steps.items).changes ≡ [];
  part : IsPartLeft (changes_of l.pending) l.carried l.twist l.files (names_now (disk_of l.made.steps.items)) (take l.name-index l.name-items);
}
