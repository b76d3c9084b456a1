use Rattle.kl_generate.proofs.MadeRead.{made_are_read}
use Rattle.kl_generate.proofs.made_law.made_objects.Goals as goal

pub returns : goal.returns
returns c = made_are_read
