use Rattle.std.proofs.Common.{◌≡◌, length, take}
use Rattle.kl_got.specs.Made.{AreMarked, slots_of, stubs_of}
use Rattle.kl_got.proofs.fields.needs.Given as goal

abbrev pub invariant-loop-field : goal.invariant-loop-field
invariant-loop-field l = record {
  slots : l.slots ≡ slots_of (take l.field-index l.graph.fields);
  stubs : l.stubs.names ≡ stubs_of (take l.field-index l.graph.fields);
  marks : AreMarked (length l.graph.names) l.stubs.names l.stubs.marks.items;
}
