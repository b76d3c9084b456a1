use Rattle.std.proofs.Common.{◌≡◌, ◌+◌, ◌∷◌, ◌++◌, drop}
use Rattle.kl_model.specs.Areas.{class_number, same_class}
use Rattle.kl_model.specs.Lists.{each_from, only_if}
use Rattle.kl_model.specs.Sound.{run_areas}
use Rattle.kl_layout.proofs.class.spread_numbers.Given as goal

-- the numbers so far and those of the runs that are left are all
abbrev pub invariant-loop-number : goal.invariant-loop-number
invariant-loop-number l =
    l.numbers.items ++ each_from l.number (λ k r. only_if (same_class r.class l.class) (15 + k)) (drop l.number l.kit.runs) ≡ class_number l.class ∷ run_areas l.kit l.class
