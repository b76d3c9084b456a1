-- The steps of a link: names, the layout, the image.
use Rattle.std.proofs.Common.{◌≡◌, ◌<◌, ◌≤◌, ◌^◌, ◌∙◌, ℕ, List, [], ◌++◌, ap, length, map, length-append, refl, arith}
use Rattle.std.specs.Prelude.{Option, Some, None, slice_get}
use Rattle.std.proofs.lemmas.List.{length-map}
use Rattle.kl_base.specs.declared.limits.TheConstants.{BASE_LIMIT, SPAN_LIMIT}
use Rattle.kl_layout.specs.Spans.{as_link_fault, layout_fault}
use Rattle.kl_layout.specs.declared.fault.LayoutFault.{LayoutFault}
use Rattle.kl_model.specs.Carries.{NamesPieces, gap_names}
use Rattle.kl_model.specs.Faults.{link_fault, range_faults, resolve_fault}
use Rattle.kl_model.specs.Fit.{AreFit, IsKit}
use Rattle.kl_model.specs.Graphs.{graph}
use Rattle.kl_model.specs.Laid.{Laid, span}
use Rattle.kl_model.specs.Orders.{IsOrder, drawn_count}
use Rattle.kl_model.specs.Placed.{placed}
use Rattle.kl_model.specs.Sizes.{made_of}
use Rattle.kl_model.specs.Sound.{IsSoundGraph}
use Rattle.kl_model.specs.declared.graph.Graph.{Graph}
use Rattle.kl_model.specs.declared.graph.Piece.{Piece}
use Rattle.kl_model.specs.declared.graph.PieceId.{PieceId}
use Rattle.kl_model.specs.declared.kit.Kit.{Kit}
use Rattle.kl_model.specs.declared.kit.KitKind.TheVariants.{Kernel, Library}
use Rattle.kl_model.specs.declared.kit.KitKind.{KitKind}
use Rattle.kl_model.specs.declared.object.Input.{Input}
use Rattle.kl_model.specs.declared.place.Gaps.{Gaps}
use Rattle.kl_model.specs.declared.place.Made.{Made}
use Rattle.kl_model.specs.declared.place.Placed.{Placed}
use Rattle.kl_model.specs.declared.place.Placement.{Placement}
use Rattle.kl_write.specs.LaidKits.{HasAreaAddresses, HaveSources, IsLaidKit}
use Rattle.kl_steps.proofs.AreaAddresses.{area_addresses}
use Rattle.kl_steps.proofs.LinkFaults.{of_range, of_span}
use Rattle.kl_steps.proofs.Sources.{have_sources}

abbrev placed_pair : Placed → PieceId × ℕ
placed_pair x = (x.id, x.size)

abbrev piece_pair : Piece → PieceId × ℕ
piece_pair x = (x.id, x.size)

-- the base of a kernel is an address within the limit, and that of a library 0
pub base_small : (kit : Kit) → IsKit kit → kit.base ≤ BASE_LIMIT
base_small kit h = by_kind kit.kind refl
  where
    by_kind : (k : KitKind) → kit.kind ≡ k → kit.base ≤ BASE_LIMIT
    by_kind Kernel e = (h.kernel e).base_limit
    by_kind Library e = let zero = h.library e in omega (arith, zero)

module _ (kit : Kit) (inputs : List Input) (gaps : Option Gaps) (order : List ℕ) (is_kit : IsKit kit) (fit : AreFit inputs)
    (o : IsOrder (drawn_count (map (λ x. x.place) inputs)) order) (g : Graph) (is : g ≡ graph kit inputs) (sound : IsSoundGraph kit g) where
  pub graph_order : IsOrder (drawn_count g.parts) order
  unfolding graph
  graph_order = rw is o

  pub sources : HaveSources inputs g
  sources = rw is (have_sources kit inputs fit)

  module _ (made : Made) (made_is : made ≡ made_of kit g) where
    pub span_is : resolve_fault kit inputs ≡ None → (e : LayoutFault) → layout_fault (span kit g gaps order made) ≡ Some e → link_fault kit inputs gaps order ≡ Some (as_link_fault e)
    span_is no_fault e past = of_span kit inputs gaps order g is no_fault e (rw made_is at past)

  module _ (made : Made) (made_is : made ≡ made_of kit g) (p : Placement) (laid : Laid p kit g gaps order made) (names : NamesPieces p g gaps)
      (placed_is : p ≡ placed kit g gaps order made) (small : span kit g gaps order made ≤ SPAN_LIMIT) where
    placed_so : p ≡ placed kit g gaps order (made_of kit g)
    placed_so = rw made_is at placed_is

    small_so : span kit g gaps order (made_of kit g) ≤ SPAN_LIMIT
    small_so = rw made_is at small

    pub addresses : HasAreaAddresses p
    addresses = rw placed_is (area_addresses kit g gaps order made)

    few_gaps : (z : Option Gaps) → length (gap_names z) ≤ 4
    few_gaps None = omega arith
    few_gaps (Some z) = omega arith

    -- the placement has a piece of the graph or a gap
    pub few_placed : length p.pieces < 2 ^ 32
    few_placed =
        let named : length (map placed_pair p.pieces) ≡ length (map piece_pair g.pieces ++ gap_names gaps) = ap length names in
        let placed_count : length (map placed_pair p.pieces) ≡ length p.pieces = length-map p.pieces placed_pair in
        let piece_count : length (map piece_pair g.pieces) ≡ length g.pieces = length-map g.pieces piece_pair in
        let both = length-append (map piece_pair g.pieces) (gap_names gaps) in
        let limit = sound.piece_count in
        let gap_count = few_gaps gaps in
        omega arith

    pub laid_kit : IsLaidKit kit g gaps order p
    laid_kit = record {
      base = base_small kit is_kit;
      origin = is_kit.library;
      sound = sound;
      whole = graph_order;
      laid = rw made_is at laid;
      names = names;
      small = small_so;
    }

    module _ (no_fault : resolve_fault kit inputs ≡ None) where
      pub range_is : link_fault kit inputs gaps order ≡ slice_get (range_faults p g) 0
      range_is = of_range kit inputs gaps order g is no_fault p placed_so small_so

      module _ (fits : range_faults p g ≡ []) where
        pub none_stands : link_fault kit inputs gaps order ≡ None
        none_stands = range_is ∙ ap (λ fs. slice_get fs 0) fits
