use Rattle.std.proofs.Common.{arith}
use Rattle.kl_le.specs.Bytes.{num}
use Rattle.kl_reloc.proofs.patch.apply.Goals as goal

pub returns-in-0-clause-number : goal.returns-in-0-clause-number
unfolding num
returns-in-0-clause-number c = rw c.in-0.is (omega arith)
