use Rattle.std.proofs.Common.{◌≡◌, ◌++◌, take}
use Rattle.std.specs.Prelude.{flat_map}
use Rattle.kl_model.specs.Written.{rela_bytes}
use Rattle.kl_dyn.proofs.entries.push_relas.Given as goal

abbrev pub invariant-loop-rela : goal.invariant-loop-rela
invariant-loop-rela l = l.bytes.items ≡ l.fn.bytes.items ++ flat_map rela_bytes (take l.rela-index l.relas)
