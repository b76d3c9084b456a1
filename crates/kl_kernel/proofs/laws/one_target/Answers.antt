use Rattle.kl_kernel.proofs.OneTargets as targets
use Rattle.kl_kernel.proofs.laws.one_target.Goals as goal

pub returns : goal.returns
returns c = targets.one_target
