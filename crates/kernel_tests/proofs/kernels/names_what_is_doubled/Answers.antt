use Rattle.std.proofs.Common.{[], ◌∷◌, refl, arith}
use Rattle.std.proofs.lemmas.List.Sorted.{IsPermutation-swap}
use Rattle.kernel_tests.proofs.kernels.names_what_is_doubled.Goals as goal

pub fault-requires-2-clause-order : goal.fault-requires-2-clause-order
fault-requires-2-clause-order g c = IsPermutation-swap (0 ∷ 1 ∷ []) (1 ∷ 0 ∷ []) 0 1 (omega arith) (omega arith) refl
