use Rattle.std.proofs.Common.{suc, ◌≡◌, ◌+◌, ◌∙◌, ◌++◌, ◌∷◌, ◌&&◌, [], length, take, ap, cond, subst, sym, arith, take_all, length-take-le, Some, None}
use Rattle.std.specs.Option.{option_or}
use Rattle.std.specs.Str.{bytes_eq}
use Rattle.std.proofs.Math.Seq.{take-suc}
use Rattle.kl_model.specs.Areas.{same_class}
use Rattle.kl_model.specs.declared.area.TheConstants as area
use Rattle.kl_sym.proofs.RunSteps.{among_more}
use Rattle.kl_sym.specs.SectionLines.{HasRuns, run_among}
use Rattle.kl_sym.proofs.lines.SectionLines.new.Goals as goal

pub loop-number-preserved : goal.loop-number-preserved
loop-number-preserved c = record {
  few = (let a = c.loop-number.invariant.few in let b = c.in_ok-note_run.ensures.most in omega arith);
  runs = record {
    len = c.in_ok-note_run.ensures.len;
    found = λ k q.
        let n = c.loop-number.number in
        let runs = c.items-run-items.result.now in
        let e : suc n ≡ n + 1 = omega arith in
        let more : take (n + 1) runs ≡ take n runs ++ c.run-item.result ∷ [] = rw e at (take-suc runs n c.run-item.result c.loop-number-test.true) ∙ ap (λ r. take n runs ++ r ∷ []) (sym c.run-item.is) in
        let long : length (take n runs) ≡ n = length-take-le n runs c.loop-number.auto.number-end in
        let here = c.loop-number.invariant.runs.found k q in
        let old = among_more (take n runs) c.run-item.result k q in
        rw more (c.in_ok-note_run.ensures.noted k q
        ∙ (ap (λ o. option_or o (cond (bytes_eq q c.run-item.result.section && same_class k c.run-item.result.class) (Some (area.FIRST_RUN + n)) None)) here
        ∙ (ap (λ m. option_or (run_among (take n runs) k q) (cond (bytes_eq q c.run-item.result.section && same_class k c.run-item.result.class) (Some (area.FIRST_RUN + m)) None)) (sym long)
        ∙ sym old)));
  };
}

pub returns : goal.returns
returns c =
    let whole = take_all c.loop-number.number c.items-run-items.result.now c.loop-number-test.false in
    record {
      drops = c.in_ok-drops.ensures;
      runs = subst (λ rs. HasRuns rs c.loop-number.sections c.loop-number.runs.items) (whole ∙ c.items-run-items.ensures) c.loop-number.invariant.runs;
    }
