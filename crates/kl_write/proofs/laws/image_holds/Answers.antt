use Rattle.kl_write.proofs.LawFields.{library_holds}
use Rattle.kl_write.proofs.WholeOrder.{whole_order}
use Rattle.kl_write.proofs.laws.image_holds.Goals as goal

pub returns : goal.returns
returns c = λ kit inputs g gaps order p library laid addresses sizes.
    library_holds kit inputs g gaps order p laid.origin laid.laid laid.small laid.base laid.sound (whole_order g order laid.whole) addresses library sizes
