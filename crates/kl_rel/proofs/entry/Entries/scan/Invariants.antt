use Rattle.std.proofs.Common.{◌≡◌, ◌/◌, length, take}
use Rattle.std.specs.Prelude.{AllPairs, map}
use Rattle.kl_model.specs.Fit.{ShareNoByte}
use Rattle.kl_rel.specs.Flaws.{first_of}
use Rattle.kl_rel.specs.Relocations.{entry_flaw_of, entries_flaw, fields_before}
use Rattle.kl_rel.specs.FieldScans.{IsScan}
use Rattle.kl_rel.proofs.Passes.{upto}
use Rattle.kl_rel.proofs.entry.Entries.scan.Given as goal
use Rattle.kl_elf.specs.declared.records.TheConstants.Rela as rela

abbrev pub invariant-loop-index : goal.invariant-loop-index
invariant-loop-index l = record {
  flaw : AllPairs ShareNoByte l.scan.fields.items → first_of (map (entry_flaw_of l.bytes l.self.number) (upto l.index (l.self.header.size / rela.SIZE))) ≡ entries_flaw l.bytes l.self.number;
  fields : l.scan.fields.items ≡ fields_before l.bytes l.self.number l.index;
  kept : take (length l.initial.scan.fields.items) l.scan.fields.items ≡ l.initial.scan.fields.items;
  scan : IsScan l.scan;
  count : length l.scan.ends.items ≡ length l.initial.scan.ends.items;
}
