use Rattle.std.proofs.Common.{rules}
use Rattle.kl_le.proofs.Num.{num_before}
use Rattle.kl_elf.proofs.Fields.{phdr-reads}
use Rattle.kl_elf.proofs.records.Phdr.write.Goals as goal

pub returns-clause-reads : goal.returns-clause-reads
returns-clause-reads c =
    phdr-reads _ _ _
    (search (rules, num_before) depth 20 fits 20000)
    (search (rules, num_before) depth 20 fits 20000)
    (search (rules, num_before) depth 20 fits 20000)
    (search (rules, num_before) depth 20 fits 20000)
    (search (rules, num_before) depth 20 fits 20000)
    (search (rules, num_before) depth 20 fits 20000)
    (search (rules, num_before) depth 20 fits 20000)
    (search (rules, num_before) depth 20 fits 20000)
