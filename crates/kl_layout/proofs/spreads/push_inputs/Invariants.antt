use Rattle.std.proofs.Common.{ℕ, ◌≡◌, ◌<◌, ◌++◌, length, get_or, drop, []}
use Rattle.kl_layout.specs.Spreads.{parts_of_inputs}
use Rattle.kl_layout.proofs.spreads.push_inputs.Given as goal

-- the lists so far and the parts of the inputs that are left are all
abbrev pub invariant-loop-input : goal.invariant-loop-input
invariant-loop-input l = record {
  count : length l.lists ≡ length l.fn.lists;
  parts : (n : ℕ) → n < length l.fn.lists
      → get_or l.lists n [] ++ parts_of_inputs l.graph n (drop l.input-index l.inputs) ≡ get_or l.fn.lists n [] ++ parts_of_inputs l.graph n l.inputs;
}
