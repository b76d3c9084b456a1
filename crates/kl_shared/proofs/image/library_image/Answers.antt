use Rattle.kl_loading.proofs.MadeSizes as sizes
use Rattle.kl_shared.proofs.image.library_image.Goals as goal

pub image-requires-clause-sizes : goal.image-requires-clause-sizes
image-requires-clause-sizes c = sizes.made_sizes c.args.kit.now c.args.inputs.now c.args.graph.now c.args.placement.now c.requires.library c.requires.texts
