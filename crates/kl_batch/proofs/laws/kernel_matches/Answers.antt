use Rattle.kl_batch.proofs.Matched.{kernel_matches, stays_matched}
use Rattle.kl_batch.proofs.laws.kernel_matches.Goals as goal

pub returns-clause-right : goal.returns-clause-right
returns-clause-right c = kernel_matches

pub returns-clause-stop : goal.returns-clause-stop
returns-clause-stop c = stays_matched
