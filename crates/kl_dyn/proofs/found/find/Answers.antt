use Rattle.std.proofs.Common.{◌≡◌, ◌+◌, ◌*◌, ◌-◌, ◌∙◌, suc, ap, arith, rules, sym}
use Rattle.kl_le.specs.Bytes.{num}
use Rattle.kl_model.specs.Found.{walk}
use Rattle.kl_dyn.proofs.Walks.{walk_on}
use Rattle.kl_dyn.proofs.found.find.Goals as goal

pub loop-preserved : goal.loop-preserved
loop-preserved c =
    let b = c.args.tables.now in
    let at = c.args.at.now in
    let limit = num b (at.hash + 4) 4 in
    let left : limit - c.loop.counter ≡ suc (limit - (c.loop.counter + 1)) = omega (arith, c.number-end.ensures.number, c.loop-test.true) in
    let place : at.hash + 0 ≡ at.hash = omega arith in
    let buckets = c.number-buckets.ensures.number ∙ ap (λ n. num b n 4) place in
    let next = c.number-symbol-in-loop.ensures.number ∙ ap (λ n. num b (at.hash + (8 + 4 * (n + c.loop.symbol))) 4) buckets in
    record {
      small = search rules;
      rest =
          c.loop.invariant.rest
          ∙ (walk_on b at.hash at.symbols at.strings c.args.name.now (limit - c.loop.counter) (limit - (c.loop.counter + 1)) c.loop.symbol left (search rules)
          (sym c.defined_value.ensures ∙ c.in_default.is)
          ∙ ap (walk b at.hash at.symbols at.strings c.args.name.now (limit - (c.loop.counter + 1))) (sym next));
    }
