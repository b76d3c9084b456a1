use Rattle.std.proofs.Common.{◌≡◌, ◌++◌, drop}
use Rattle.std.specs.List.{flat_map}
use Rattle.kl_kit.specs.KitPrints.{input_line}
use Rattle.kl_kit.proofs.print.push_inputs.Given as goal

-- the lines so far and those that are left are the text
abbrev pub invariant-loop-input : goal.invariant-loop-input
invariant-loop-input l = l.text.items ++ flat_map input_line (drop l.input-index l.inputs) ≡ l.fn.text.items ++ flat_map input_line l.inputs
