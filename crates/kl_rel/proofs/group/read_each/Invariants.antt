use Rattle.std.proofs.Common.{◌≡◌, ◌++◌}
use Rattle.std.specs.Prelude.{map, flat_map}
use Rattle.kl_rel.specs.Flaws.{first_of}
use Rattle.kl_rel.specs.SectionGroups.{group_flaw_of, groups_flaw, groups_at, groups_in, members_before}
use Rattle.kl_rel.specs.Grouped.{IsGrouped}
use Rattle.kl_rel.proofs.Passes.{upto}
use Rattle.kl_rel.proofs.group.read_each.Given as goal

abbrev pub invariant-loop-number : goal.invariant-loop-number
invariant-loop-number l = record {
  flaw : first_of (map (group_flaw_of l.bytes) (upto l.number l.table.count)) ≡ groups_flaw l.bytes;
  list : l.groups ++ flat_map (groups_at l.bytes) (upto l.number l.table.count) ≡ groups_in l.bytes;
  grouped : IsGrouped l.bytes l.grouped (members_before l.bytes l.number 1);
}
