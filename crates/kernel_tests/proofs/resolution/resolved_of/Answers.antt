use Rattle.std.proofs.Common.{arith}
use Rattle.kernel_tests.proofs.SmallInputs.{are_fit}
use Rattle.kernel_tests.proofs.resolution.resolved_of.Goals as goal

pub resolve-requires-clause-inputs : goal.resolve-requires-clause-inputs
resolve-requires-clause-inputs c = are_fit c.args.inputs.now c.requires.fit c.requires.small c.requires.places (omega (arith, c.if-inputs-gt301.false))
