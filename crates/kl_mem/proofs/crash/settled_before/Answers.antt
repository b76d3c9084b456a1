use Rattle.kl_mem.proofs.Pending.{settled_there}
use Rattle.kl_mem.proofs.crash.settled_before.Goals as goal

pub returns-in-Settle-clause-settled : goal.returns-in-Settle-clause-settled
returns-in-Settle-clause-settled c = settled_there c.args.steps.now c.loop-i.i c.index-steps-i.result c.loop-i-test.true c.loop-i.invariant.within c.index-steps-i.is c.in-Settle.is

pub returns-in-Settle-2-clause-settled : goal.returns-in-Settle-2-clause-settled
returns-in-Settle-2-clause-settled c = settled_there c.args.steps.now c.loop-i.i c.index-steps-i.result c.loop-i-test.true c.loop-i.invariant.within c.index-steps-i.is c.in-Settle.is
