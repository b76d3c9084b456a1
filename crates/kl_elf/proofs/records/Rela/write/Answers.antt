use Rattle.std.proofs.Common.{rules, ◌∙◌, ap}
use Rattle.std.specs.Int.{cast_signed, cast_unsigned, w64}
use Rattle.std.proofs.lemmas.Int.{to_z-of_z}
use Rattle.kl_le.proofs.Num.{num_before}
use Rattle.kl_elf.proofs.Fields.{rela-reads}
use Rattle.kl_elf.proofs.records.Rela.write.Goals as goal

pub returns-clause-reads : goal.returns-clause-reads
returns-clause-reads c =
    let same = to_z-of_z w64 c.args.self.now.addend (search rules) in
    rela-reads _ _ _
    (search (rules, num_before))
    (search (rules, num_before))
    (ap (cast_signed w64) c.put-3.ensures.number ∙ (ap (cast_signed w64) c.cast_unsigned.ensures ∙ (ap (λ z. cast_signed w64 (cast_unsigned w64 z)) same ∙ same)))
