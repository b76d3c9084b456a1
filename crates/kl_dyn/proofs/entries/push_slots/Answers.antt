use Rattle.std.proofs.Common.{append_assoc}
use Rattle.kl_model.proofs.Each.{each_more}
use Rattle.kl_model.specs.declared.graph.Target.TheVariants.{Place}
use Rattle.kl_dyn.specs.Entries.{slot_jumps, slot_relas}
use Rattle.kl_dyn.proofs.entries.push_slots.Goals as goal

pub loop-number-preserved : goal.loop-number-preserved
loop-number-preserved c =
    let p = c.args.placement.now in let g = c.args.graph.now in let ts = c.args.targets.now in let n = c.loop-number.number in
    let h = c.loop-number-test.true in
    record {
      relas = rw (c.in_ok-push_slot.ensures.relas, c.loop-number.invariant.relas, each_more (slot_relas p g) ts n (Place 0 0) h) (append_assoc c.args.entries.now.relas.items _ _);
      jumps = rw (c.in_ok-push_slot.ensures.jumps, c.loop-number.invariant.jumps, each_more (slot_jumps p g) ts n (Place 0 0) h) (append_assoc c.args.entries.now.jumps.items _ _);
    }
