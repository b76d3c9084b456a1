use Rattle.std.proofs.Common.{◌≡◌, ◌++◌, drop}
use Rattle.std.specs.Prelude.{◌==◌}
use Rattle.kl_model.specs.Lists.{each_from, only_if}
use Rattle.kl_model.specs.Kept.{part_number}
use Rattle.kl_model.specs.Line.{inputs_in}
use Rattle.kl_layout.proofs.sequence.inputs_of.Given as goal

-- the inputs so far and those of the parts that are left are all of them
abbrev pub invariant-loop-input : goal.invariant-loop-input
invariant-loop-input l =
    l.inputs.items ++ each_from l.input (λ i x. only_if (part_number x == part_number l.place) i) (drop l.input l.graph.parts) ≡ inputs_in l.graph l.place
