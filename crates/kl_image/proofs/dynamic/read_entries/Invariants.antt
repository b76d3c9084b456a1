use Rattle.std.proofs.Common.{◌≡◌, length}
use Rattle.kl_model.specs.Loaded.{dyns_from}
use Rattle.kl_image.proofs.dynamic.read_entries.Given as goal

abbrev pub invariant-loop-number : goal.invariant-loop-number
invariant-loop-number l = record {
  entries : l.entries.items ≡ dyns_from l.bytes l.header.offset l.number;
  count : length (dyns_from l.bytes l.header.offset l.number) ≡ l.number;
}
