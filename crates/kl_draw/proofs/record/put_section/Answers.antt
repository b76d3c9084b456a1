use Rattle.std.proofs.Common.{◌∙◌, arith}
use Rattle.kl_draw.proofs.RecordBytes.{section_is}
use Rattle.kl_draw.proofs.record.put_section.Goals as goal

pub returns : goal.returns
returns c = section_is c.write.new.b c.args.section.now (λ k. grind (arith, c.type_inv.bytes k)) (c.write.auto.b ∙ c.requires.room) c.write.ensures.reads
