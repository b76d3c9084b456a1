use Rattle.std.proofs.Common.{◌∙◌, refl, arith, eq-eqb, ne_eqb}
use Rattle.kl_rel.specs.SectionGroups.{group_flaw_of, groups_flaw, groups_at, groups_in}
use Rattle.kl_rel.proofs.Passes.{first_passes, flat_map_passes, flat_map_skips}
use Rattle.kl_rel.proofs.Grouping.{members-start, members-passed, group_here, group_passed, groups_here, groups_passed}
use Rattle.kl_rel.proofs.group.read_each.Goals as goal
use Rattle.kl_rel.proofs.group.read_each.Goals.{then-section-eq-SHT_GROUP+in_ok-group+in_ok-push, else-section-eq-SHT_GROUP}

pub loop-number-init : goal.loop-number-init
unfolding groups_flaw groups_in
loop-number-init c = record {
  flaw = rw c.requires.table.count refl;
  list = rw (c.new-groups.ensures, c.requires.table.count) refl;
  grouped = rw (members-start c.args.bytes.now) c.requires.grouped;
}

pub loop-number-preserved : goal.loop-number-preserved
loop-number-preserved c =
    let b = c.args.bytes.now in
    let n = c.loop-number.number in
    let count = c.args.table.now.count in
    elim c.if-section-eq-SHT_GROUP.branch [
      | then-section-eq-SHT_GROUP+in_ok-group+in_ok-push w ↦
          let is = eq-eqb _ 17 (rw c.section.ensures at w.if-section-eq-SHT_GROUP.true) in
          record {
            flaw = first_passes (group_flaw_of b) n count (group_here b n is ∙ w.in_ok-group.ensures.sound) (omega arith) c.loop-number.invariant.flaw;
            list = rw (w.groups-is, w.in_ok-push.ensures.ok, w.in_ok-group.ensures.group, ← groups_here b n is) (flat_map_passes (groups_at b) n count c.loop-number.groups (omega arith) c.loop-number.invariant.list);
            grouped = rw w.grouped-is w.in_ok-group.ensures.grouped;
          }
      | else-section-eq-SHT_GROUP w ↦
          let is = ne_eqb _ 17 (rw c.section.ensures at w.if-section-eq-SHT_GROUP.false) in
          record {
            flaw = first_passes (group_flaw_of b) n count (group_passed b n is) (omega arith) c.loop-number.invariant.flaw;
            list = rw w.groups-is (flat_map_skips (groups_at b) n count c.loop-number.groups (groups_passed b n is) (omega arith) c.loop-number.invariant.list);
            grouped = rw (w.grouped-is, members-passed b n (omega arith) is) c.loop-number.invariant.grouped;
          }
    ]
