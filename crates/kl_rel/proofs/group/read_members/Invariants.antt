use Rattle.std.proofs.Common.{◌≡◌, ◌++◌, ◌/◌}
use Rattle.std.specs.Prelude.{map}
use Rattle.kl_rel.specs.Flaws.{first_of}
use Rattle.kl_rel.specs.SectionGroups.{word, members, member_flaw_of, members_flaw, members_before}
use Rattle.kl_rel.specs.Grouped.{IsGrouped}
use Rattle.kl_rel.proofs.Passes.{upto}
use Rattle.kl_rel.proofs.group.read_members.Given as goal

abbrev pub invariant-loop-word : goal.invariant-loop-word
invariant-loop-word l = record {
  flaw : first_of (map (member_flaw_of l.bytes l.number) (upto l.word (l.header.size / 4))) ≡ members_flaw l.bytes l.number;
  list : l.members ++ map (word l.bytes l.header) (upto l.word (l.header.size / 4)) ≡ members l.bytes l.header;
  grouped : IsGrouped l.bytes l.grouped (members_before l.bytes l.number l.word);
}
