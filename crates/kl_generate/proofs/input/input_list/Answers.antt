use Rattle.std.proofs.Common.{◌≡◌, ◌∙◌, ◌++◌, ◌∷◌, [], sym, arith, rules, map}
use Rattle.std.specs.List.{range_with_len}
use Rattle.std.specs.Prelude.{All}
use Rattle.std.proofs.lemmas.List.FromFn.{map-range_with_len_more}
use Rattle.std.proofs.lemmas.List.Elements.{All-append, All-cons, All-nil}
use Rattle.kl_model.specs.Fit.{IsFit}
use Rattle.kl_generate.specs.MadeRead.{made_input}
use Rattle.kl_generate.proofs.input.input_list.Goals as goal

pub loop-number-preserved : goal.loop-number-preserved
loop-number-preserved c =
    let n = c.loop-number.number in
    let before = c.loop-number.invariant.inputs in
    let x = made_input c.args.count n in
    let pushed : c.push.new.self.items ≡ map (made_input c.args.count) (range_with_len 0 n) ++ x ∷ [] = search rules in
    let one : All IsFit (x ∷ []) = All-cons IsFit x [] (search rules) (All-nil IsFit) in
    record {
      inputs = pushed ∙ sym (map-range_with_len_more (made_input c.args.count) 0 n n (omega arith));
      fit = rw pushed (All-append IsFit (map (made_input c.args.count) (range_with_len 0 n)) (x ∷ []) (rw before at c.loop-number.invariant.fit) one);
    }
