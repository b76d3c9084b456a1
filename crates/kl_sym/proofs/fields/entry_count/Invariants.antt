use Rattle.std.proofs.Common.{◌≡◌, ◌+◌, length, drop}
use Rattle.std.specs.Prelude.{sum_by}
use Rattle.kl_sym.proofs.fields.entry_count.Given as goal

abbrev pub invariant-loop-input : goal.invariant-loop-input
invariant-loop-input l = l.count + sum_by (λ x. length x.object.fields) (drop l.input-index l.inputs) ≡ sum_by (λ x. length x.object.fields) l.inputs
