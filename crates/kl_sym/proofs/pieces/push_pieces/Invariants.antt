use Rattle.std.proofs.Common.{◌≡◌, ◌++◌, ◌∷◌, [], take}
use Rattle.std.specs.Prelude.{None}
use Rattle.kl_model.specs.Lists.{each_from}
use Rattle.kl_model.specs.Kept.{input_at}
use Rattle.kl_model.specs.Graphs.{section_piece}
use Rattle.kl_names.specs.Tables.{piece_entry}
use Rattle.kl_sym.proofs.pieces.push_pieces.Given as goal

abbrev pub invariant-loop-k : goal.invariant-loop-k
invariant-loop-k l = record {
  pieces : l.pieces.items ≡ l.initial.pieces.items ++ each_from 1 (section_piece l.kit l.inputs l.i (input_at l.inputs l.i)) (take l.k l.section-items);
  table : l.table ≡ None ∷ each_from 1 (λ s y. piece_entry l.kit l.inputs l.i s ∷ []) (take l.k l.section-items);
}
