use Rattle.std.proofs.Common.{◌<◌, ◌^◌, ◌∙◌, sym, ap, arith}
use Rattle.kl_base.proofs.Bools.{equal_bytes}
use Rattle.kl_text.specs.Numbers.{number_of}
use Rattle.kl_text.proofs.Numerals.{number_again}
use Rattle.kl_text.proofs.number.number_of.Goals as goal

pub returns-then-eq-clause-number : goal.returns-then-eq-clause-number
returns-then-eq-clause-number c =
    let fits : c.in_ok-number.number < 2 ^ 32 = omega arith in
    let same = equal_bytes c.as_bytes.result.now c.args.word.now (sym c.eq.ensures ∙ c.if-eq.true) in
    sym (number_again c.in_ok-number.number fits) ∙ ap number_of (sym c.format.ensures.text ∙ sym c.as_bytes.ensures.value ∙ same)
