use Rattle.std.proofs.Common.{◌≡◌, ◌++◌}
use Rattle.kl_model.specs.Loaded.{relas_from}
use Rattle.kl_image.proofs.dynamic.DynamicSection.read_table.Given as goal

abbrev pub invariant-loop-number : goal.invariant-loop-number
invariant-loop-number l = l.relocations.items ≡ l.initial.relocations.items ++ relas_from l.self.bytes.now l.at l.number
