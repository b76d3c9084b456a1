use Rattle.std.proofs.Common.{◌≡◌, ◌+◌, ◌∙◌, ap, arith, length, take}
use Rattle.std.proofs.lemmas.List.{take_min}
use Rattle.std.specs.Prelude.{min}
use Rattle.std.specs.Str.{bytes_eq}
use Rattle.kl_le.specs.Bytes.{text}
use Rattle.kl_dyn.proofs.TextRead.{short_text}
use Rattle.kl_dyn.proofs.found.is_text.Goals as goal

pub returns : goal.returns
returns c =
    let bytes = c.args.bytes.now in
    let name = c.args.name.now in
    let turned : c.min.result ≡ min (length name + 1) (length bytes) = omega (arith, c.min.ensures) in
    let head = ap (λ n. take n bytes) turned ∙ take_min (length name + 1) bytes in
    c.eq.ensures ∙ (ap (λ l. bytes_eq l name) (c.before_zero.ensures ∙ ap (λ l. text l 0) head) ∙ short_text bytes name)
