use Rattle.std.proofs.Common.{◌+◌, ap, sym, ◌∙◌, cond, Some, drop, get_or, arith}
use Rattle.kl_digest.specs.Records.{record_prefix, text_place}
use Rattle.kl_digest.proofs.Digits.{text_step, apart, alike}
use Rattle.kl_digest.proofs.record.wrong_text.Goals as goal

pub returns-then-place-bytes : goal.returns-then-place-bytes
returns-then-place-bytes c =
    let i = c.loop-place.place in
    let b = c.args.bytes.now in
    sym (c.loop-place.invariant.rest ∙ text_step record_prefix b i i (omega arith) (omega arith) ∙ ap (λ v. cond v (text_place (drop (i + 1) record_prefix) (drop (i + 1) b) (i + 1)) (Some i)) (apart (get_or record_prefix i 0) (get_or b i 0) c.if-place-bytes.true))

pub loop-place-preserved : goal.loop-place-preserved
loop-place-preserved c =
    let i = c.loop-place.place in
    let b = c.args.bytes.now in
    record { rest = c.loop-place.invariant.rest ∙ text_step record_prefix b i i (omega arith) (omega arith) ∙ ap (λ v. cond v (text_place (drop (i + 1) record_prefix) (drop (i + 1) b) (i + 1)) (Some i)) (alike (get_or record_prefix i 0) (get_or b i 0) c.if-place-bytes.false) }
