use Rattle.kl_kernel.proofs.KernelMade.{kernel_sizes}
use Rattle.kl_kernel.proofs.image.kernel_image.Goals as goal

pub image-requires-clause-sizes : goal.image-requires-clause-sizes
image-requires-clause-sizes c = kernel_sizes c.args.kit.now c.args.inputs.now c.args.graph.now c.args.placement.now c.requires.kernel

pub image-requires-clause-stubs : goal.image-requires-clause-stubs
image-requires-clause-stubs c = c.in_ok-made_bytes.ensures.stubs c.args.inputs.now

pub image-requires-clause-tables : goal.image-requires-clause-tables
image-requires-clause-tables c = c.in_ok-made_bytes.ensures.tables c.args.inputs.now

pub image-requires-clause-got : goal.image-requires-clause-got
image-requires-clause-got c = c.in_ok-made_bytes.ensures.got c.args.inputs.now

pub image-requires-clause-dynamic : goal.image-requires-clause-dynamic
image-requires-clause-dynamic c = c.in_ok-made_bytes.ensures.dynamic c.args.inputs.now
