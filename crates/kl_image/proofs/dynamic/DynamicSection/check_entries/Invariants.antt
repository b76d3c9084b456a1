use Rattle.std.proofs.Common.{◌≡◌, [], take}
use Rattle.kl_model.specs.Lists.{each}
use Rattle.kl_image.proofs.EntryFlaws.{told, AreSeen}
use Rattle.kl_image.proofs.dynamic.DynamicSection.check_entries.Given as goal

abbrev pub invariant-loop-number : goal.invariant-loop-number
invariant-loop-number l = record {
  flaws : each (take l.number l.self.entries.now) (told l.self.bytes.now l.self.header.offset l.self.entries.now) ≡ [];
  seen : AreSeen l.self.bytes.now (take l.number l.self.entries.now) l.seen.items;
}
