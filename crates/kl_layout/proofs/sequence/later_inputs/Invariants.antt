use Rattle.std.proofs.Common.{◌≡◌, ◌++◌, drop, map}
use Rattle.std.specs.Prelude.{slice_index}
use Rattle.kl_layout.proofs.sequence.later_inputs.Given as goal

-- the inputs so far and those of the numbers that are left are all drawn inputs
abbrev pub invariant-loop-number : goal.invariant-loop-number
invariant-loop-number l =
    l.inputs.items ++ map (slice_index l.drawn.items) (drop l.number-index l.order) ≡ map (slice_index l.drawn.items) l.order
