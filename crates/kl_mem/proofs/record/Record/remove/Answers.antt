use Rattle.std.proofs.Common.{ap, ◌∙◌}
use Rattle.std.specs.Prelude.{is_some}
use Rattle.kl_store.proofs.NameMaps.{remove_absent}
use Rattle.kl_mem.specs.declared.step.Step.TheVariants.{Remove}
use Rattle.kl_mem.proofs.Written.{same_after, same_still}
use Rattle.kl_mem.proofs.record.Record.remove.Goals as goal

pub invariant_of-self-then-remove : goal.invariant_of-self-then-remove
invariant_of-self-then-remove c = record { same = same_after c.args.self.now.files c.remove.new.self c.args.self.now.steps.items c.reserve.new.self.items c.push_reserved.new.self.items (Remove c.args.name.now) c.args.self.now.same c.remove.ensures.gone c.reserve.ensures.items c.push_reserved.ensures.items }

pub invariant_of-self-else-remove : goal.invariant_of-self-else-remove
invariant_of-self-else-remove c = record {
  same = same_still c.args.self.now.files c.remove.new.self c.args.self.now.steps.items c.reserve.new.self.items c.args.self.now.same
      (c.if-remove.ensures.gone ∙ remove_absent c.args.self.now.files c.args.name.now (ap is_some c.if-remove.ensures.was)) c.reserve.ensures.items;
}
