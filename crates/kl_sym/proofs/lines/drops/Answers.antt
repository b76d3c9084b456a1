use Rattle.std.proofs.Common.{suc, ◌≡◌, ◌+◌, ◌∙◌, ◌||◌, ◌++◌, ◌∷◌, [], length, take, ap, refl, sym, arith, take_all}
use Rattle.std.specs.Str.{bytes_eq}
use Rattle.std.proofs.Math.Seq.{take-suc}
use Rattle.kl_model.specs.Lists.{among}
use Rattle.kl_sym.proofs.RunSteps.{among_one, among_with, with_more}
use Rattle.kl_sym.proofs.lines.drops.Goals as goal

pub loop-word-init : goal.loop-word-init
loop-word-init c = rw c.new-drops.ensures (record { few = omega arith; same = λ q. refl })

pub number-requires : goal.number-requires
number-requires c =
    let few = c.loop-word.invariant.few in
    let here = c.loop-word-test.true in
    let all = ap length c.items-word-items.ensures in
    let limit = c.requires in
    omega arith

pub loop-word-preserved : goal.loop-word-preserved
loop-word-preserved c = record {
  few = (let a = c.loop-word.invariant.few in let b = with_more c.loop-word.drops c.items.result.now in rw c.in_ok-number.ensures.names (omega arith));
  same = λ q.
      let k = c.loop-word.word-index in
      let words = c.items-word-items.result.now in
      let e : suc k ≡ k + 1 = omega arith in
      let more : take (k + 1) words ≡ take k words ++ c.word-item.result ∷ [] = rw e at (take-suc words k c.word-item.result c.loop-word-test.true) ∙ ap (λ w. take k words ++ w ∷ []) (sym c.word-item.is) in
      rw (c.in_ok-number.ensures.names, more)
      (among_with c.loop-word.drops c.items.result.now q ∙ (ap (λ b. b || bytes_eq q c.items.result.now) (c.loop-word.invariant.same q)
      ∙ (ap (λ w. among (take k words) q || bytes_eq q w) c.items.ensures.items ∙ sym (among_one (take k words) c.word-item.result q))));
}

pub returns : goal.returns
returns c = λ q.
    let whole = take_all c.loop-word.word-index c.items-word-items.result.now c.loop-word-test.false in
    c.loop-word.invariant.same q ∙ (ap (λ l. among l q) whole ∙ ap (λ l. among l q) c.items-word-items.ensures)
