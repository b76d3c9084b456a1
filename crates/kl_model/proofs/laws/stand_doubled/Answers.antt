use Rattle.kl_model.proofs.StandOnce.{none_doubled}
use Rattle.kl_model.proofs.laws.stand_doubled.Goals as goal

pub returns : goal.returns
returns c = record { none = none_doubled }
