-- Where the parts of an image may stand so that their places in the file are small. For the contracts inside this crate alone.
use Rattle.std.specs.Prelude.{ℕ, ◌+◌, ◌<◌, ◌≤◌, length, All}
use Rattle.kl_base.specs.declared.class.Class.{Class}
use Rattle.kl_base.specs.declared.limits.TheConstants.{SPAN_LIMIT}
use Rattle.kl_model.specs.Areas.{class_number}
use Rattle.kl_model.specs.Carries.{piece_at}
use Rattle.kl_model.specs.Laid.{area_at, place_of}
use Rattle.kl_model.specs.Line.{gap_size}
use Rattle.kl_model.specs.Relocations.{width}
use Rattle.kl_model.specs.declared.graph.Field.{Field}
use Rattle.kl_model.specs.declared.graph.Graph.{Graph}
use Rattle.kl_model.specs.declared.place.Body.TheVariants as body
use Rattle.kl_model.specs.declared.place.Gaps.{Gaps}
use Rattle.kl_model.specs.declared.place.Placement.{Placement}

-- an area is known, and stands in the span
pub record IsAreaInSpan (p : Placement) (n : ℕ) : Type 0 where
  pub known : n < length p.areas
  pub starts : p.base ≤ (area_at p n).start
  pub ordered : (area_at p n).start ≤ (area_at p n).end
  pub ends : (area_at p n).end ≤ p.base + SPAN_LIMIT

-- an area is known, and that many bytes from its start on stand in the span
pub record HasAreaRoom (p : Placement) (n size : ℕ) : Type 0 where
  pub known : n < length p.areas
  pub starts : p.base ≤ (area_at p n).start
  pub ends : (area_at p n).start + size ≤ p.base + SPAN_LIMIT

-- every piece has an address, and stands in the span
pub record ArePiecesInSpan (g : Graph) (p : Placement) : Type 0 where
  pub known : length g.pieces ≤ length p.pieces
  pub starts : (n : ℕ) → n < length g.pieces → p.base ≤ place_of p g (body.Piece n)
  pub ends : (n : ℕ) → n < length g.pieces → place_of p g (body.Piece n) + (piece_at g n).size ≤ p.base + SPAN_LIMIT

-- likewise every gap
pub record AreGapsInSpan (g : Graph) (z : Gaps) (p : Placement) : Type 0 where
  pub known : (c : Class) → length g.pieces + class_number c < length p.pieces
  pub starts : (c : Class) → p.base ≤ place_of p g (body.Gap c)
  pub ends : (c : Class) → place_of p g (body.Gap c) + gap_size z c ≤ p.base + SPAN_LIMIT

-- no piece has more bytes in the file of its input than it has in the image
abbrev pub AreShort : Graph → Type 0
AreShort g = All (λ x. x.bytes.len ≤ x.size) g.pieces

-- every field lies in a piece
pub record IsFieldInside (g : Graph) (f : Field) : Type 0 where
  pub piece : f.piece < length g.pieces
  pub inside : f.offset + width f.kind ≤ (piece_at g f.piece).size

abbrev pub AreFieldsInside : Graph → Type 0
AreFieldsInside g = All (IsFieldInside g) g.fields
