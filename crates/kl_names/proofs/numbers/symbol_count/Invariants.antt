use Rattle.std.proofs.Common.{◌≡◌, ◌+◌, length, drop}
use Rattle.std.specs.Prelude.{sum_by}
use Rattle.kl_names.proofs.numbers.symbol_count.Given as goal

abbrev pub invariant-loop-input : goal.invariant-loop-input
invariant-loop-input l = l.count + sum_by (λ x. length x.object.symbols) (drop l.input-index l.inputs) ≡ sum_by (λ x. length x.object.symbols) l.inputs
