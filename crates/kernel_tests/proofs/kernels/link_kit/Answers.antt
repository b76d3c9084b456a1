use Rattle.std.proofs.Common.{arith}
use Rattle.kernel_tests.proofs.SmallInputs.{are_fit}
use Rattle.kernel_tests.proofs.kernels.link_kit.Goals as goal

pub link_kernel-requires-clause-inputs : goal.link_kernel-requires-clause-inputs
link_kernel-requires-clause-inputs c = are_fit c.args.inputs.now c.requires.fit c.requires.small c.requires.places (omega (arith, c.if-inputs-gt301.false))
