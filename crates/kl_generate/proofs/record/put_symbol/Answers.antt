use Rattle.std.proofs.Common.{◌∙◌, arith}
use Rattle.kl_generate.proofs.RecordBytes.{symbol_is}
use Rattle.kl_generate.proofs.record.put_symbol.Goals as goal

pub returns : goal.returns
returns c = symbol_is c.write.new.b c.args.symbol.now (λ k. grind (arith, c.type_inv.bytes k)) (c.write.auto.b ∙ c.requires.room) c.write.ensures.reads
