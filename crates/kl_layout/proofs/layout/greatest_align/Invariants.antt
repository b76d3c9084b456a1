use Rattle.std.proofs.Common.{◌≡◌, drop}
use Rattle.std.specs.Prelude.{fold, max}
use Rattle.kl_model.specs.Sizes.{page_for}
use Rattle.kl_model.specs.declared.kit.KitKind.TheVariants.{Library}
use Rattle.kl_layout.specs.Stops.{IsStep}
use Rattle.kl_layout.proofs.layout.greatest_align.Given as goal

abbrev pub invariant-loop-piece : goal.invariant-loop-piece
invariant-loop-piece l = record {
  value : fold (λ n x. max n x.align) l.page (drop l.piece-index l.piece-items) ≡ page_for Library l.graph;
  step : IsStep l.page;
}
