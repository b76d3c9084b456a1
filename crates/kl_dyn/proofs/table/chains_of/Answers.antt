use Rattle.std.proofs.Common.{suc, ◌≡◌, ◌-◌, ◌<◌, ◌∙◌, get_or, length, arith, rules}
use Rattle.std.proofs.lemmas.List.{get_or_default}
use Rattle.std.proofs.lemmas.List.FromFn.{fill_by_all}
use Rattle.kl_model.specs.Tables.{first_in}
use Rattle.kl_dyn.proofs.Chains.{firsts_step, nexts_step}
use Rattle.kl_dyn.proofs.table.chains_of.Goals as goal

pub loop-rest-preserved : goal.loop-rest-preserved
loop-rest-preserved c =
    let xs = c.args.buckets.now in
    let i = c.loop-rest.invariant in
    let some = c.loop-rest-test.true in
    let k = c.loop-rest.rest - 1 in
    let is : c.loop-rest.rest ≡ suc k = omega arith in
    let h : k < length xs = omega (arith, i.inside) in
    let bucket = get_or xs k 0 in
    let within = c.requires.within k 0 h in
    let inside : bucket < length c.loop-rest.firsts.items = omega (arith, within, i.count) in
    let next = c.index.ensures ∙ get_or_default c.loop-rest.firsts.items bucket c.index.result.now 0 inside in
    record {
      inside = omega (arith, i.inside);
      count = search rules;
      firsts = λ b l. firsts_step xs k c.loop-rest.rest is h c.loop-rest.firsts.items b (omega (arith, l, i.count)) (i.firsts b l);
      size = search rules;
      nexts = nexts_step xs k c.loop-rest.rest is h c.loop-rest.nexts.items c.index.result.now (omega (arith, i.size)) (next ∙ i.firsts bucket within) i.nexts;
    }

pub returns-clause-firsts : goal.returns-clause-firsts
returns-clause-firsts c = fill_by_all (λ b. first_in b 1 c.args.buckets.now) c.loop-rest.firsts.items c.args.count 0 c.loop-rest.invariant.count (λ b l. let none : c.loop-rest.rest ≡ 0 = omega arith in rw none at (c.loop-rest.invariant.firsts b l))
