use Rattle.std.proofs.Common.{◌≡◌, ◌≤◌, ◌+◌, ◌*◌, ◌++◌, take}
use Rattle.std.specs.List.{flat_map}
use Rattle.kl_intent.specs.IntentText.{entry_line}
use Rattle.kl_intent.proofs.print.print_entries.Given as goal

abbrev pub invariant-loop-entry : goal.invariant-loop-entry
invariant-loop-entry l = record {
  within : l.end ≤ l.at + 385 * l.entry-index;
  text : take l.end l.out ≡ take l.at l.fn.out ++ flat_map entry_line (take l.entry-index l.entries);
}
