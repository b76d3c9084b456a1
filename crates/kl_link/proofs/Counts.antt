-- How many pieces a placement with gaps names.
use Rattle.std.proofs.Common.{◌≡◌, ◌+◌, ◌++◌, ℕ, List, length, map, ap, refl, arith, length-append}
use Rattle.std.specs.Prelude.{Option}
use Rattle.std.proofs.lemmas.List.{length-map}
use Rattle.kl_model.specs.Carries.{NamesPieces, gap_names}
use Rattle.kl_model.specs.declared.graph.Graph.{Graph}
use Rattle.kl_model.specs.declared.graph.Piece.{Piece}
use Rattle.kl_model.specs.declared.graph.PieceId.{PieceId}
use Rattle.kl_model.specs.declared.place.Gaps.{Gaps}
use Rattle.kl_model.specs.declared.place.Placed.{Placed}
use Rattle.kl_model.specs.declared.place.Placement.{Placement}
use Rattle.kl_link.specs.declared.report.Report.{Report}

abbrev placed_pair : Placed → PieceId × ℕ
placed_pair x = (x.id, x.size)

abbrev piece_pair : Piece → PieceId × ℕ
piece_pair x = (x.id, x.size)

-- those of the graph, and the gaps
pub placed-count : (p : Placement) (g : Graph) (z : Option Gaps) → NamesPieces p g z → length p.pieces ≡ length g.pieces + length (gap_names z)
placed-count p g z names =
    let named : length (map placed_pair p.pieces) ≡ length (map piece_pair g.pieces ++ gap_names z) = ap length names in
    let placed : length (map placed_pair p.pieces) ≡ length p.pieces = length-map p.pieces placed_pair in
    let pieces : length (map piece_pair g.pieces) ≡ length g.pieces = length-map g.pieces piece_pair in
    let both = length-append (map piece_pair g.pieces) (gap_names z) in
    omega arith

-- what is told of an image, by equal numbers
pub same-report : (a b x y n : ℕ) (d : List ℕ) → a ≡ b → x ≡ y
    → ◌≡◌ {A = Report} (record { pieces = a; fields = x; bytes = n; digest = d }) (record { pieces = b; fields = y; bytes = n; digest = d })
same-report a b x y n d e f = rw (e, f) refl
