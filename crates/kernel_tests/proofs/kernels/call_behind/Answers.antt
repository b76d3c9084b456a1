use Rattle.std.proofs.Common.{arith}
use Rattle.kernel_tests.proofs.kernels.call_behind.Goals as goal

pub link_with-requires-clause-gaps : goal.link_with-requires-clause-gaps
link_with-requires-clause-gaps c = record {
  text = c.requires;
  rodata = (0, omega arith, omega arith);
  rwdata = (0, omega arith, omega arith);
  bss = (0, omega arith, omega arith);
}
