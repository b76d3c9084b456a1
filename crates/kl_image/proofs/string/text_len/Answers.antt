use Rattle.std.proofs.Common.{◌+◌, ◌*◌, ◌/◌, ◌≤◌, ◌∙◌, length, sym, arith}
use Rattle.kl_image.proofs.Texts.{len_found, len_passed, zeros_bound, part_bound}
use Rattle.kl_image.proofs.string.text_len.Goals as goal

pub overflow_add-result : goal.overflow_add-result
overflow_add-result c =
    let t = c.args.bytes.now in
    let near = part_bound t c.args.place c.min-end.result in
    let here = rw (← c.zero_or_len-len.ensures) at near in
    let far = zeros_bound t (64 * (c.args.place / 64 + 1)) in
    omega (arith, here, far)

pub returns-then-len-end : goal.returns-then-len-end
returns-then-len-end c =
    let t = c.args.bytes.now in
    let low : c.args.place ≤ c.min-end.result = omega arith in
    let high : c.min-end.result ≤ length t = omega arith in
    c.zero_or_len-len.ensures ∙ sym (len_found t c.args.place c.min-end.result low high (rw c.zero_or_len-len.ensures at c.if-len-end.true))

pub returns-else-len-end : goal.returns-else-len-end
returns-else-len-end c =
    let t = c.args.bytes.now in
    let low : c.args.place ≤ c.min-end.result = omega arith in
    let near = part_bound t c.args.place c.min-end.result in
    let here = rw (← c.zero_or_len-len.ensures) at near in
    let whole = len_passed t c.args.place c.min-end.result (64 * (c.args.place / 64 + 1)) low c.min-end.ensures (rw c.zero_or_len-len.ensures at c.if-len-end.false) in
    omega (arith, here, whole)
