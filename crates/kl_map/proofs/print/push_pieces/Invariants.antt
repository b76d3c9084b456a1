use Rattle.std.proofs.Common.{◌≡◌, ◌++◌, drop}
use Rattle.std.specs.List.{AllWithin, flat_map}
use Rattle.kl_map.specs.MapText.{placed_line}
use Rattle.kl_map.specs.Spelling.{PlacedFits}
use Rattle.kl_map.proofs.print.push_pieces.Given as goal

-- the lines so far and those of the other pieces are the text
abbrev pub invariant-loop-placed : goal.invariant-loop-placed
invariant-loop-placed l =
    (l.text.items ++ flat_map placed_line (drop l.placed-index l.pieces) ≡ l.fn.text.items ++ flat_map placed_line l.pieces)
    × AllWithin PlacedFits l.pieces 0 l.placed-index
