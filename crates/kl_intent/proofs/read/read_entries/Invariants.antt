use Rattle.std.proofs.Common.{◌≡◌, ◌≤◌, ◌-◌, length, []}
use Rattle.kl_intent.specs.IntentText.{entries_of, entries_from}
use Rattle.kl_intent.proofs.read.read_entries.Given as goal

abbrev pub invariant-loop-line : goal.invariant-loop-line
invariant-loop-line l = record {
  few : l.intent.count ≤ 8;
  size : length (entries_of l.intent) ≡ l.intent.count;
  slot : l.intent.slot ≡ l.fn.slot;
  rest : entries_from 8 [] l.fn.text ≡ entries_from (8 - length (entries_of l.intent)) (entries_of l.intent) l.rest;
}

abbrev pub decreases-loop-line : goal.decreases-loop-line
decreases-loop-line l = 8 - l.intent.count
