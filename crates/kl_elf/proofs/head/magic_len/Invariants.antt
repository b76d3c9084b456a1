use Rattle.std.proofs.Common.{◌≡◌, ◌+◌, ◌==◌, drop}
use Rattle.std.specs.List.{common_prefix_len}
use Rattle.kl_elf.specs.Heads.{magic_len}
use Rattle.kl_elf.specs.declared.abi.TheConstants.{ELFMAG}
use Rattle.kl_elf.proofs.head.magic_len.Given as goal

abbrev pub invariant-loop-i : goal.invariant-loop-i
invariant-loop-i l = l.i + common_prefix_len (λ x y. x == y) (drop l.i ELFMAG) (drop l.i l.ident) ≡ magic_len l.ident
