use Rattle.std.proofs.Common.{◌≡◌, suc, take}
use Rattle.std.specs.Prelude.{sum_by}
use Rattle.kl_dyn.proofs.size.names_size.Given as goal

abbrev pub invariant-loop-name : goal.invariant-loop-name
invariant-loop-name l = l.size ≡ suc (sum_by (λ d. suc d.name.len) (take l.name-index l.graph.names))
