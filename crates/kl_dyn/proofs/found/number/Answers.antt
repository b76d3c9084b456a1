use Rattle.std.proofs.Common.{◌∙◌, ap, drop}
use Rattle.kl_dyn.proofs.TextRead.{num_padded}
use Rattle.kl_dyn.proofs.found.number.Goals as goal

pub returns-clause-number : goal.returns-clause-number
returns-clause-number g c =
    c.get.ensures.number
    ∙ num_padded c.args.bytes.now c.args.at c.args.offset g.row.W c.min-len.result c.bytes_from-rest.result.now c.copy_from_slice.new.self
    (c.bytes_from-rest.ensures ∙ ap (drop c.args.offset) c.bytes_from.ensures) c.min-len.ensures c.copy_from_slice.ensures.after
