use Rattle.std.proofs.Common.{◌∙◌, refl, sym}
use Rattle.kernel_tests.proofs.kernels.input.Goals as goal

pub returns-clause-fit : goal.returns-clause-fit
returns-clause-fit c = c.in-Ok.ensures.fit _ (c.from_vec.ensures ∙ sym c.deref.ensures.value) refl
