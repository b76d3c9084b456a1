use Rattle.std.proofs.Common.{◌≡◌, take}
use Rattle.std.specs.Prelude.{Some, map, slice_get}
use Rattle.kl_model.specs.Lists.{each}
use Rattle.kl_names.specs.Facts.{common_symbol_names}
use Rattle.kl_names.proofs.CommonLaws.{free, piece_of}
use Rattle.kl_names.proofs.commons.common_pieces.Given as goal

abbrev pub invariant-loop-number : goal.invariant-loop-number
invariant-loop-number l = record {
  pieces : l.pieces.items ≡ each (free l.kit l.inputs (take l.number-index (common_symbol_names l.inputs))) (piece_of l.kit l.inputs);
  numbers : map (slice_get l.numbering.index) l.numbers.items ≡ map Some (free l.kit l.inputs (take l.number-index (common_symbol_names l.inputs)));
}
