use Rattle.std.proofs.Common.{sym, ◌∙◌}
use Rattle.kl_digest.proofs.Digits.{enough}
use Rattle.kl_digest.proofs.record.fault_of.Goals as goal

pub content_fault_of-requires : goal.content_fault_of-requires
content_fault_of-requires c = enough _ (sym c.has_size.ensures ∙ c.if-not-has_size.false)
