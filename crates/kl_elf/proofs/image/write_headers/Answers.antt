use Rattle.std.proofs.Common.{◌≡◌, ◌+◌, ◌*◌, ◌∙◌, length, arith, inl, inr, add-one, sym}
use Rattle.std.proofs.lemmas.List.{take_more, take_all}
use Rattle.kl_le.proofs.Num.{changes_more, changes_wider}
use Rattle.kl_elf.proofs.Kept.{phdrs_kept, phdrs_more}
use Rattle.kl_elf.specs.declared.records.Phdr.{Phdr}
use Rattle.kl_elf.proofs.image.write_headers.Goals as goal

-- what the list of segments is read as past its end
abbrev no_phdr : Phdr
no_phdr = record { kind = 0; flags = 0; offset = 0; vaddr = 0; paddr = 0; filesz = 0; memsz = 0; align = 0 }

pub loop-i-preserved : goal.loop-i-preserved
loop-i-preserved c =
    let kept = phdrs_kept 64 c.loop-i.i c.write.ensures.rest (inl (omega arith)) in
    let more = phdrs_more c.write.new.b 64 c.loop-i.i in
    let wide = changes_wider 64 (56 * (c.loop-i.i + 1)) c.loop-i.invariant.rest (omega arith) (omega arith) in
    let one = take_more c.args.segments.now c.loop-i.i no_phdr c.loop-i-test.true in
    record {
      done = rw (add-one, more, kept, c.loop-i.invariant.done, c.write.ensures.reads) (sym (rw add-one at one));
      rest = changes_more wide c.write.ensures.rest (omega arith) (omega arith);
    }

pub returns-clause-segments : goal.returns-clause-segments
returns-clause-segments c =
    let kept = phdrs_kept 64 (length c.args.segments.now) c.write-2.ensures.rest (inr (omega arith)) in
    let at_end : c.loop-i.i ≡ length c.args.segments.now = omega arith in
    kept ∙ (rw (← at_end) c.loop-i.invariant.done ∙ take_all c.loop-i.i c.args.segments.now (omega arith))
