use Rattle.std.proofs.Common.{◌≡◌, ◌∷◌, [], take}
use Rattle.kl_model.specs.Lists.{each}
use Rattle.kl_model.specs.Graphs.{input_pieces}
use Rattle.kl_names.specs.Tables.{piece_table}
use Rattle.kl_sym.proofs.pieces.section_pieces.Given as goal

abbrev pub invariant-loop-i : goal.invariant-loop-i
invariant-loop-i l = record {
  pieces : l.pieces.items ≡ each (take l.i l.inputs) (input_pieces l.kit l.inputs);
  tables : l.tables.items ≡ each (take l.i l.inputs) (λ i x. piece_table l.kit l.inputs i ∷ []);
}
