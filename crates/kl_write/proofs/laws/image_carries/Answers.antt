use Rattle.kl_write.proofs.LawFields.{carries_graph, no_range_faults}
use Rattle.kl_write.proofs.WholeOrder.{whole_order}
use Rattle.kl_write.proofs.laws.image_carries.Goals as goal

pub returns : goal.returns
returns c = λ kit inputs g gaps order p kernel laid addresses fits.
    carries_graph kit inputs g gaps order p laid.origin laid.laid laid.small laid.base laid.sound (whole_order g order laid.whole) addresses kernel (no_range_faults p g fits) laid.names
