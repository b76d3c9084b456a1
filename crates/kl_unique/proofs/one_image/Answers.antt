use Rattle.kl_unique.proofs.OneImages as images
use Rattle.kl_unique.proofs.one_image.Goals as goal

pub returns : goal.returns
returns c = images.one_image
