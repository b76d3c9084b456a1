use Rattle.kl_loading.proofs.MadeSizes as sizes
use Rattle.kl_loading.proofs.areas_are_sized.Goals as goal

pub returns : goal.returns
returns c = sizes.made_sizes
