use Rattle.std.proofs.Common.{◌≡◌, ◌≤◌, ◌+◌, length}
use Rattle.std.specs.Prelude.{flat_map}
use Rattle.kl_rel.specs.Relocations.{fields_of, fields_in}
use Rattle.kl_rel.proofs.Passes.{upto}
use Rattle.kl_rel.proofs.relocation.entry_count.Given as goal

abbrev pub invariant-loop-number : goal.invariant-loop-number
invariant-loop-number l = record {
  bound : l.count ≤ l.limit;
  count : l.count + length (flat_map (fields_of l.bytes) (upto l.number l.table.count)) ≡ length (fields_in l.bytes);
}
