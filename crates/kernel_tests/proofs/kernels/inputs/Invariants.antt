use Rattle.std.proofs.Common.{◌≤◌}
use Rattle.std.specs.Prelude.{All, AllPairs}
use Rattle.kl_model.specs.Fit.{IsFit}
use Rattle.kl_model.specs.Kept.{part_number}
use Rattle.kernel_tests.specs.Small.{IsSmall}
use Rattle.kernel_tests.proofs.kernels.inputs.Given as goal

abbrev pub invariant-loop-digits : goal.invariant-loop-digits
invariant-loop-digits l = record {
  fit : All IsFit l.found.items;
  small : All IsSmall l.found.items;
  places : AllPairs (λ x y. part_number x.place ≤ part_number y.place) l.found.items;
  before : All (λ x. part_number x.place ≤ part_number l.place) l.found.items;
  place : part_number l.place ≤ 1;
}
