use Rattle.kl_generate.proofs.GapRead.{gaps_are_read}
use Rattle.kl_generate.proofs.gap_law.gap_objects.Goals as goal

pub returns : goal.returns
returns c = gaps_are_read
