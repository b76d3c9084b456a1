use Rattle.std.proofs.Common.{◌∙◌, arith}
use Rattle.kl_generate.proofs.RecordBytes.{entry_is}
use Rattle.kl_generate.proofs.record.put_entry.Goals as goal

pub returns : goal.returns
returns c = entry_is c.write.new.b c.args.entry.now (λ k. grind (arith, c.type_inv.bytes k)) (c.write.auto.b ∙ c.requires.room) c.write.ensures.reads
