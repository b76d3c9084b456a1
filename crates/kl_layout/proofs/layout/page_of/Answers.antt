use Rattle.std.proofs.Common.{arith, refl}
use Rattle.kl_layout.proofs.layout.page_of.Goals as goal

pub returns-in-Kernel-clause-step : goal.returns-in-Kernel-clause-step
returns-in-Kernel-clause-step c = (12, omega arith, refl)
