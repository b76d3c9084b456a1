use Rattle.std.proofs.Common.{◌≡◌, ◌/◌, length}
use Rattle.std.specs.Prelude.{map}
use Rattle.kl_rel.specs.Flaws.{first_of}
use Rattle.kl_rel.specs.Relocations.{entry_flaw_of, entries_flaw}
use Rattle.kl_rel.specs.Chains.{AreStamped, AreOf}
use Rattle.kl_rel.proofs.Passes.{upto}
use Rattle.kl_rel.proofs.first_flaw.stamp.Given as goal
use Rattle.kl_elf.specs.declared.records.TheConstants.Rela as rela

abbrev pub invariant-loop-index : goal.invariant-loop-index
invariant-loop-index l = record {
  flaw : first_of (map (entry_flaw_of l.bytes l.entries.number) (upto l.index (l.entries.header.size / rela.SIZE))) ≡ entries_flaw l.bytes l.entries.number;
  stamps : AreStamped l.bytes l.entries.number l.index l.stamps;
  others : AreOf l.entries.header.info l.initial.stamps l.stamps;
  count : length l.stamps ≡ length l.initial.stamps;
}
