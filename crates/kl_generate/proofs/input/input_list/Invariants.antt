use Rattle.std.proofs.Common.{◌≡◌, map}
use Rattle.std.specs.Prelude.{All}
use Rattle.std.specs.List.{range_with_len}
use Rattle.kl_model.specs.Fit.{IsFit}
use Rattle.kl_generate.specs.MadeRead.{made_input}
use Rattle.kl_generate.proofs.input.input_list.Given as goal

abbrev pub invariant-loop-number : goal.invariant-loop-number
invariant-loop-number l = record {
  inputs : l.inputs.items ≡ map (made_input l.count) (range_with_len 0 l.number);
  fit : All IsFit l.inputs.items;
}
