use Rattle.std.proofs.Common.{rules, ◌≡◌, ◌+◌, ◌∙◌, length, arith, inl}
use Rattle.kl_le.specs.Bytes.{ChangesWithin}
use Rattle.kl_le.proofs.Num.{num_before, bytes_kept}
use Rattle.kl_elf.proofs.Fields.{ehdr-reads}
use Rattle.kl_elf.proofs.records.Ehdr.write.Goals as goal

pub returns-clause-reads : goal.returns-clause-reads
returns-clause-reads c =
    let later : ChangesWithin c.put_bytes.new.b c.put-13.new.b (c.args.at + 16) 48 = search rules in
    let long : length c.put-13.new.b ≡ length c.put_bytes.new.b = search rules in
    let full : length c.args.self.now.ident ≡ 16 = search rules in
    ehdr-reads _ _ _
    (bytes_kept (c.args.at + 0) 16 later (inl (omega arith)) long ∙ (rw full at c.put_bytes.ensures.written))
    (search (rules, num_before) depth 20 fits 20000)
    (search (rules, num_before) depth 20 fits 20000)
    (search (rules, num_before) depth 20 fits 20000)
    (search (rules, num_before) depth 20 fits 20000)
    (search (rules, num_before) depth 20 fits 20000)
    (search (rules, num_before) depth 20 fits 20000)
    (search (rules, num_before) depth 20 fits 20000)
    (search (rules, num_before) depth 20 fits 20000)
    (search (rules, num_before) depth 20 fits 20000)
    (search (rules, num_before) depth 20 fits 20000)
    (search (rules, num_before) depth 20 fits 20000)
    (search (rules, num_before) depth 20 fits 20000)
    (search (rules, num_before) depth 20 fits 20000)
