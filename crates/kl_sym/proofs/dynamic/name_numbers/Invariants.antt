use Rattle.std.proofs.Common.{◌≡◌, map}
use Rattle.kl_model.specs.Dynamic.{dynamic_names}
use Rattle.kl_sym.proofs.DynamicSteps.{placed_by}
use Rattle.kl_sym.proofs.dynamic.name_numbers.Given as goal

abbrev pub invariant-loop-place : goal.invariant-loop-place
invariant-loop-place l = l.places.items ≡ map (placed_by (dynamic_names l.kit l.inputs) l.place) l.numbering.index
