-- Targets by number: each once, in the order in which they come first.
use Rattle.std.specs.Prelude.{ℕ, Bool, not, List, ◌++◌, Option}
use Rattle.std.specs.List.{list_any, position_from}
use Rattle.kl_model.specs.Lists.{only_if}
use Rattle.kl_model.specs.Slots.{same_target}
use Rattle.kl_model.specs.declared.graph.Target.{Target}
use Rattle.kl_model.specs.contracts.graph.TargetPartialEq.TheImpl as target_eq

-- what `==` says of two targets
abbrev pub same_value : Target → Target → Bool
same_value = (target_eq.ghosts).eq

-- the number of a target
abbrev pub number_of : List Target → Target → Option ℕ
number_of targets t = position_from (same_target t) 0 targets

-- targets with one more, unless it stands there
abbrev pub with_target : List Target → Target → List Target
with_target targets t = targets ++ only_if (not (list_any (same_target t) targets)) t
