use Rattle.std.proofs.Common.{◌∙◌, sym}
use Rattle.kl_map.proofs.Lines.{one_spelling}
use Rattle.kl_map.proofs.read.read_map.Goals as goal

pub returns-clause-back : goal.returns-clause-back
returns-clause-back c = λ m fits e.
    one_spelling c.read_body.new.map m c.in_ok-read_body.ensures.form.fits fits (sym (c.in_ok-map.ensures.text ∙ c.in_ok-read_body.ensures.text) ∙ e)
