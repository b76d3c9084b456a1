use Rattle.std.proofs.Common.{◌∙◌, arith}
use Rattle.kl_write.proofs.HeadBytes.{heads_are}
use Rattle.kl_write.proofs.head.put_headers.Goals as goal

pub returns : goal.returns
returns c =
    heads_are c.write_headers.new.image c.args.head.now c.args.segments.now (λ k. grind (arith, c.type_inv.bytes k)) (c.write_headers.auto.image ∙ c.requires.room) c.write_headers.ensures.head c.write_headers.ensures.segments
