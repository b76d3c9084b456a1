use Rattle.std.proofs.Common.{refl, arith}
use Rattle.kernel_tests.proofs.kernels.kernel.Goals as goal

pub from_vec-entry-requires : goal.from_vec-entry-requires
from_vec-entry-requires c = rw c.in_ok-from_slice.ensures.items (omega arith)

pub returns-clause-form : goal.returns-clause-form
returns-clause-form c =
    rw (c.kernel.ensures, c.new.ensures)
    (record {
      inputs = omega arith;
      runs = omega arith;
      edges = omega arith;
      drops = omega arith;
      needed = omega arith;
      exports = omega arith;
      runs_ascend = λ i j d low high. absurd (omega (arith, low, high));
      edges_ascend = λ i j d low high. absurd (omega (arith, low, high));
      areas = λ i d low. absurd (omega (arith, low));
      kernel = λ is. record { kernel = refl; entry = refl; base_page = (0xffffffff81000, refl); base_limit = omega arith };
      library = λ is. cc;
    })
