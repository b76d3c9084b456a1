use Rattle.std.proofs.Common.{◌∙◌, sym, ap}
use Rattle.std.specs.Result.{result_ok}
use Rattle.kl_text.proofs.Numerals.{is_text, parsed_again}
use Rattle.kl_text.proofs.number.parsed.Goals as goal

pub returns-in-Ok : goal.returns-in-Ok
returns-in-Ok c = λ n fits e.
    c.ok.ensures.value ∙ ap result_ok (parsed_again c.in-Ok.digits.now c.parse.result n fits (e ∙ sym c.in-Ok.ensures.cases.0) c.parse.ensures.value.0)

pub returns-in-Err : goal.returns-in-Err
returns-in-Err c = λ n fits e. absurd (c.in-Err.ensures.cases.0 (is_text c.args.word.now n fits e))
