use Rattle.std.proofs.Common.{◌≡◌, ◌+◌, ◌-◌, ◌∙◌, length, get_or, take, drop, ap, sym, arith, length-drop}
use Rattle.std.proofs.lemmas.List.{length-take}
use Rattle.kl_le.proofs.Num.{get_or-bytes}
use Rattle.kl_write.proofs.Shown.{shows_part}
use Rattle.kl_write.specs.Windows.{text_from}
use Rattle.kl_write.proofs.window.put_window.Goals as goal

pub returns-then-from-to : goal.returns-then-from-to
returns-then-from-to c =
    let from = c.max-from.result in let to = c.min-to.result in let place = c.args.place in let at = c.args.at in
    let bytes = c.args.bytes.now in
    let old = c.args.out.now in let new = c.put_bytes.new.b in
    let r = c.put_bytes.ensures in
    let e : to - place - (from - place) ≡ to - from = omega (arith, c.max-from.ensures, c.if-from-to.true) in
    let n : length (take (to - place - (from - place)) (drop (from - place) bytes)) ≡ to - from =
    omega (arith, length-take (to - place - (from - place)) (drop (from - place) bytes), length-drop (from - place) bytes, c.max-from.ensures, c.min-to.ensures, c.if-from-to.true) in
    let written = rw e at (rw n at r.written) in
    shows_part old new at (text_from place bytes) from (to - from)
    (omega (arith, c.max-from.ensures)) (omega (arith, c.max-from.ensures)) (omega (arith, c.min-to.ensures, c.if-from-to.true)) (omega (arith, c.min-to.ensures, c.if-from-to.true))
    (λ q j k w. let low = w.0 in let high = w.1 in (omega (arith, c.max-from.ensures, j, low), omega (arith, c.min-to.ensures, k, high, c.if-from-to.true)))
    c.put_bytes.auto.b (rw n at r.rest)
    (λ i h.
    let right : from - place + i ≡ from + i - place = omega (arith, c.max-from.ensures) in
    let same : get_or new (from - at + i) 0 ≡ get_or bytes (from - place + i) 0 =
    sym (get_or-bytes new (from - at) (to - from) i h) ∙ (ap (λ xs. get_or xs i 0) written ∙ get_or-bytes bytes (from - place) (to - from) i h) in
    rw right at same)
