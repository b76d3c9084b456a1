use Rattle.std.proofs.Common.{◌≡◌, ◌+◌, ◌∙◌, [], ◌∷◌, ◌++◌, length, get_or, drop, map, ap, sym, arith, append_assoc}
use Rattle.std.specs.Prelude.{slice_index}
use Rattle.std.proofs.lemmas.List.{drop_more, get_or_default}
use Rattle.kl_layout.proofs.Sequences.{order_below}
use Rattle.kl_layout.proofs.sequence.later_inputs.Goals as goal

pub index-requires : goal.index-requires
index-requires c =
    let below = order_below _ c.args.order.now c.requires.order c.loop-number.number-index 0 c.loop-number-test.true in
    let drawn = ap length c.in_ok-drawn.ensures in
    omega (arith, below, drawn, c.in_ok-drawn.drawn.ok.0)

pub loop-number-preserved : goal.loop-number-preserved
loop-number-preserved c =
    let drawn = c.in_ok-drawn.drawn.items in
    let order = c.args.order.now in
    let k = c.loop-number.number-index in
    let before = c.loop-number.inputs.items in
    let rest = map (slice_index drawn) (drop (k + 1) order) in
    let below = order_below _ order c.requires.order k 0 c.loop-number-test.true in
    let count = ap length c.in_ok-drawn.ensures in
    let value : c.index.result.now ≡ slice_index drawn (get_or order k 0) =
    c.index.ensures ∙ get_or_default drawn (get_or order k 0) c.index.result.now 0 (omega (arith, below, count)) in
    ap (λ l. l ++ rest) c.in_ok-push.ensures.items
    ∙ (append_assoc before (c.index.result.now ∷ []) rest
    ∙ (ap (λ v. before ++ v ∷ rest) value
    ∙ (ap (λ l. before ++ map (slice_index drawn) l) (sym (drop_more order k 0 c.loop-number-test.true)) ∙ c.loop-number.invariant)))
