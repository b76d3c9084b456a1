use Rattle.std.proofs.Common.{◌≡◌, ◌++◌, drop}
use Rattle.std.specs.List.{AllWithin}
use Rattle.kl_model.specs.Lists.{each_from, each}
use Rattle.kl_map.specs.MapText.{area_line}
use Rattle.kl_map.specs.Spelling.{AreaFits}
use Rattle.kl_map.proofs.print.push_areas.Given as goal

-- the lines so far and those of the other areas are the text
abbrev pub invariant-loop-number : goal.invariant-loop-number
invariant-loop-number l =
    (l.text.items ++ each_from l.number area_line (drop l.number l.areas) ≡ l.fn.text.items ++ each l.areas area_line)
    × AllWithin AreaFits l.areas 0 l.number
