use Rattle.std.proofs.Common.{◌∙◌, arith}
use Rattle.kl_draw.proofs.RecordBytes.{head_is}
use Rattle.kl_draw.proofs.record.put_head.Goals as goal

pub returns : goal.returns
returns c = head_is c.write.new.b c.args.head.now (λ k. grind (arith, c.type_inv.bytes k)) (c.write.auto.b ∙ c.requires.room) c.write.ensures.reads
