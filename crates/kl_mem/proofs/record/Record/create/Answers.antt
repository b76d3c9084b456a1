use Rattle.kl_mem.specs.declared.step.Step.TheVariants.{Create}
use Rattle.kl_mem.proofs.Written.{same_after}
use Rattle.kl_mem.proofs.record.Record.create.Goals as goal

pub invariant_of-self-2 : goal.invariant_of-self-2
invariant_of-self-2 c = record { same = same_after c.args.self.now.files c.put.new.self c.args.self.now.steps.items c.reserve.new.self.items c.push_reserved.new.self.items (Create c.args.name.now) c.args.self.now.same c.in_ok-put.ensures.ok c.reserve.ensures.items c.push_reserved.ensures.items }
