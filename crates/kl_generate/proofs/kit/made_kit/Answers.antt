use Rattle.std.proofs.Common.{◌≡◌, ◌∙◌, ◌++◌, ◌∷◌, [], sym, arith, rules, map}
use Rattle.std.specs.List.{range_with_len}
use Rattle.std.proofs.lemmas.List.FromFn.{map-range_with_len_more}
use Rattle.kl_generate.specs.Made.{made_line}
use Rattle.kl_generate.proofs.kit.made_kit.Goals as goal

pub loop-number-preserved : goal.loop-number-preserved
loop-number-preserved c =
    let n = c.loop-number.number in
    let pushed : c.push.new.self.items ≡ map made_line (range_with_len 0 n) ++ made_line n ∷ [] = search rules in
    pushed ∙ sym (map-range_with_len_more made_line 0 n n (omega arith))
