use Rattle.std.proofs.Common.{◌≡◌, ◌≤◌, length, take}
use Rattle.std.specs.Prelude.{Some}
use Rattle.kl_store.specs.Disk.{all_renumbered}
use Rattle.kl_mem.specs.Record.{changes_of}
use Rattle.kl_mem.proofs.numbers.number_after.Given as goal

abbrev pub invariant-loop-i : goal.invariant-loop-i
invariant-loop-i l = record {
  within : l.i ≤ length l.steps;
  same : all_renumbered (changes_of (take l.i l.steps)) Some l.current ≡ all_renumbered (changes_of (take l.k l.steps)) Some l.name;
}

abbrev pub decreases-loop-i : goal.decreases-loop-i
decreases-loop-i l = l.i
