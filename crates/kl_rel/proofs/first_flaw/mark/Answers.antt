use Rattle.std.proofs.Common.{◌≡◌, ◌<◌, ◌∙◌, length, slice_index, true, false, refl, sym, arith, eq-eqb, ne_eqb}
use Rattle.std.specs.Prelude.{◌==◌, nat_le}
use Rattle.std.proofs.lemmas.List.{length-set}
use Rattle.kl_rel.proofs.Passes.{upto-next}
use Rattle.kl_rel.proofs.Bytes.{not_added}
use Rattle.kl_rel.proofs.Stamps.{mark_here, mark_other}
use Rattle.kl_rel.proofs.first_flaw.mark.Goals as goal

pub returns-then-stamps-at-clause-free : goal.returns-then-stamps-at-clause-free
returns-then-stamps-at-clause-free c =
    let old = c.args.stamps.now in
    let at = c.loop-at.at in
    let next = upto-next at c.args.end (omega arith) in
    let all = rw next at c.loop-at.invariant.free in
    let same = c.loop-at.invariant.marked at (omega arith) ∙ not_added (slice_index old at == c.args.stamp) (nat_le c.args.offset at) at in
    let here : (slice_index old at == c.args.stamp) ≡ true = sym same ∙ eq-eqb _ c.args.stamp c.if-stamps-at.true in
    rw (all, here) refl

pub loop-at-preserved : goal.loop-at-preserved
loop-at-preserved c =
    let old = c.args.stamps.now in
    let stamps = c.loop-at.stamps in
    let at = c.loop-at.at in
    let next = upto-next at c.args.end (omega arith) in
    let all = rw next at c.loop-at.invariant.free in
    let same = c.loop-at.invariant.marked at (omega arith) ∙ not_added (slice_index old at == c.args.stamp) (nat_le c.args.offset at) at in
    let here : (slice_index old at == c.args.stamp) ≡ false = sym same ∙ ne_eqb _ c.args.stamp c.if-stamps-at.false in
    let short : at < length stamps = omega (arith, c.loop-at.invariant.count) in
    record {
      free = rw here at all;
      marked = λ x inside. mark_here stamps at c.args.stamp x c.args.offset (slice_index old x == c.args.stamp) short (omega arith) (c.loop-at.invariant.marked x inside);
      others = mark_other stamps old at c.args.stamp short c.loop-at.invariant.others;
      count = length-set stamps at c.args.stamp ∙ c.loop-at.invariant.count;
    }
