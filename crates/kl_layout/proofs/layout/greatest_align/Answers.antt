use Rattle.std.proofs.Common.{◌≡◌, ◌+◌, ◌<◌, List, ◌∷◌, length, get_or, drop, ap, arith, refl}
use Rattle.std.specs.Prelude.{fold, max}
use Rattle.std.proofs.lemmas.List.{drop_more}
use Rattle.kl_model.specs.declared.graph.Piece.{Piece}
use Rattle.kl_layout.specs.Stops.{IsStep}
use Rattle.kl_layout.proofs.OrderSteps.{first_piece}
use Rattle.kl_layout.proofs.Rounding.{max_step}
use Rattle.kl_layout.proofs.layout.greatest_align.Goals as goal

pub loop-piece-init : goal.loop-piece-init
loop-piece-init c = record {
  value = ap (λ (l : List Piece). fold (λ n x. max n x.align) 4096 l) c.items-piece-items.ensures;
  step = (12, omega arith, refl);
}

pub loop-piece-preserved : goal.loop-piece-preserved
loop-piece-preserved c =
    let xs = c.items-piece-items.result.now in
    let k = c.loop-piece.piece-index in
    let x = get_or xs k first_piece in
    let split : drop k xs ≡ x ∷ drop (k + 1) xs = drop_more xs k first_piece c.loop-piece-test.true in
    let inv = c.loop-piece.invariant in
    let page : c.max-page.result ≡ max c.loop-piece.page x.align = c.max-page.ensures in
    let long = ap length c.items-piece-items.ensures in
    let same : x ≡ get_or c.args.graph.now.pieces k first_piece = ap (λ (l : List Piece). get_or l k first_piece) c.items-piece-items.ensures in
    let known : k < length c.args.graph.now.pieces = omega (arith, c.loop-piece-test.true, long) in
    let step : IsStep x.align = rw same (c.requires k first_piece known) in
    record {
      value = rw page (rw split at inv.value);
      step = rw page (max_step c.loop-piece.page x.align inv.step step);
    }
