use Rattle.kl_batch.proofs.Prefixes.{go_on, may_leave_wider}
use Rattle.kl_batch.proofs.laws.batches_go_on.Goals as goal

pub returns-clause-more : goal.returns-clause-more
returns-clause-more c = go_on

pub returns-clause-stops : goal.returns-clause-stops
returns-clause-stops c = may_leave_wider
