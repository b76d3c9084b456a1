use Rattle.std.proofs.Common.{◌≡◌, length}
use Rattle.std.specs.Prelude.{map}
use Rattle.kl_model.specs.Names.{common_names, kept_numbers}
use Rattle.kl_names.proofs.OwnLaws.{placed_by}
use Rattle.kl_names.proofs.own.common_targets.Given as goal

abbrev pub invariant-loop-k : goal.invariant-loop-k
invariant-loop-k l = l.targets.items ≡ map (placed_by (length (kept_numbers l.kit l.inputs)) (common_names l.kit l.inputs) l.k) l.numbering.index
