use Rattle.std.proofs.Common.{◌≡◌, ◌<◌, ◌∙◌, get_or, ap, arith}
use Rattle.std.proofs.lemmas.List.{get_or_default}
use Rattle.kl_model.specs.declared.kit.EdgeLine.{EdgeLine}
use Rattle.kl_names.proofs.LineOrder.{all-more}
use Rattle.kl_names.proofs.edge_lines.count_before.Goals as goal

pub loop-count-preserved : goal.loop-count-preserved
loop-count-preserved c =
    let lines = c.args.lines.now in let n = c.loop-count.count in let d = c.index-lines-count.result in
    let item : d ≡ get_or lines n d = c.index-lines-count.is ∙ get_or_default lines n _ d c.loop-count-test.true in
    let line = ap (λ (e : EdgeLine). e.line) item in
    let low = c.if-line-number.false in
    all-more (λ e. e.line < c.args.number) n lines d c.loop-count-test.true c.loop-count.invariant (omega arith)
