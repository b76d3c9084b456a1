use Rattle.std.proofs.Common.{arith}
use Rattle.kernel_tests.proofs.kernels.moves_drawn_objects_by_the_gap.Goals as goal

pub call_behind-requires : goal.call_behind-requires
call_behind-requires g c = (0, omega arith, omega arith)

pub call_behind-requires-2 : goal.call_behind-requires-2
call_behind-requires-2 g c = (1, omega arith, omega arith)
