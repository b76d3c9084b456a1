use Rattle.std.proofs.Common.{refl}
use Rattle.kl_mem.specs.declared.step.Step.TheVariants.{Settle}
use Rattle.kl_mem.proofs.Written.{same_after}
use Rattle.kl_mem.proofs.record.Record.settle.Goals as goal

pub invariant_of-self-2 : goal.invariant_of-self-2
invariant_of-self-2 c = record { same = same_after c.args.self.now.files c.args.self.now.files c.args.self.now.steps.items c.reserve.new.self.items c.push_reserved.new.self.items Settle c.args.self.now.same refl c.reserve.ensures.items c.push_reserved.ensures.items }
