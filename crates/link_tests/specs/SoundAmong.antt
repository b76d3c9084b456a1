-- Pieces that a test lays out.
use Rattle.std.specs.Prelude.{ℕ, ◌≡◌, length}
use Rattle.kl_model.specs.Sound.{IsSoundPiece}
use Rattle.kl_model.specs.declared.graph.Graph.{Graph}
use Rattle.kl_model.specs.declared.graph.Piece.{Piece}
use Rattle.kl_model.specs.declared.kit.Kit.{Kit}

-- a piece that is sound in every graph of so many inputs
pub record IsSoundAmong (inputs : ℕ) (x : Piece) : Type 0 where
  pub sound : (kit : Kit) (g : Graph) → length g.parts ≡ inputs → IsSoundPiece kit g x
