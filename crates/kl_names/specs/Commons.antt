-- The piece of a common. For the contracts inside this crate alone.
use Rattle.std.specs.Prelude.{ℕ}
use Rattle.kl_base.specs.declared.class.Class.TheVariants.{Bss}
use Rattle.kl_model.specs.declared.area.TheConstants as area
use Rattle.kl_model.specs.declared.graph.PieceId.TheVariants as id
use Rattle.kl_model.specs.declared.graph.Piece.{Piece}
use Rattle.kl_names.specs.declared.facts.Common.{Common}

abbrev pub piece_of_common : ℕ → Common → Piece
piece_of_common k c = record { id = id.Common k; class = Bss; area = area.BSS; size = c.size; align = c.align; bytes = record { at = 0; len = 0 } }
