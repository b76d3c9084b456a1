use Rattle.std.proofs.Common.{◌≡◌, ◌∙◌, ◌+◌, ◌-◌, sym, drop, length, arith, length-drop}
use Rattle.std.proofs.lemmas.List.{take_all}
use Rattle.kl_text.proofs.Cuts.{cut-none, cut-some}
use Rattle.kl_text.proofs.cut.cut.Goals as goal

pub returns-in_err-end : goal.returns-in_err-end
returns-in_err-end c = rw c.from_residual.ensures (sym (cut-none c.args.value c.args.text.now 0 (sym c.place_of.ensures.place ∙ c.in_err-end.was)))

pub returns : goal.returns
returns c =
    let n = c.in_ok-end.end in
    let text = c.args.text.now in
    let r = cut-some c.args.value text 0 n (sym c.place_of.ensures.place ∙ c.in_ok-end.was) in
    let same : n ≡ r.0 = (let e = r.1 in omega arith) in
    let all = take_all (length text - (n + 1)) (drop (n + 1) text) (omega (arith, length-drop (n + 1) text)) in
    rw all (sym (rw (← same) at r.2))
