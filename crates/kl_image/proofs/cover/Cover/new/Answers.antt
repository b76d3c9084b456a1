use Rattle.std.proofs.Common.{sym}
use Rattle.kl_elf.specs.declared.records.Phdr.{Phdr}
use Rattle.kl_image.proofs.CoverMaps.{cover_more, cover_same, held_all}
use Rattle.kl_image.proofs.Memories.{apart_keys}
use Rattle.kl_image.proofs.cover.Cover.new.Goals as goal

-- what the list of headers is read as past its end
abbrev no_phdr : Phdr
no_phdr = record { kind = 0; flags = 0; offset = 0; vaddr = 0; paddr = 0; filesz = 0; memsz = 0; align = 0 }

pub loop-header-preserved-then-not-takes_memory : goal.loop-header-preserved-then-not-takes_memory
loop-header-preserved-then-not-takes_memory c = record {
  held = cover_same c.loop-header.starts c.args.headers.now c.loop-header.header-index no_phdr c.loop-header-test.true (sym c.if-not-takes_memory.ensures) c.loop-header.invariant.held;
  first = c.loop-header.invariant.first;
}

pub loop-header-preserved : goal.loop-header-preserved
loop-header-preserved c =
    let more = cover_more c.loop-header.starts c.insert.new.self c.args.headers.now c.loop-header.header-index no_phdr c.requires c.loop-header-test.true
    (sym c.if-not-takes_memory.ensures) c.loop-header.invariant.held c.loop-header.invariant.first c.in_ok-insert.ensures.updates.1
    (λ q other. c.in_ok-insert.ensures.updates.2 q (apart_keys _ q other)) in
    record { held = more.0; first = more.1 }

pub returns : goal.returns
returns c = record {
  apart = c.requires;
  held = held_all c.loop-header.starts c.args.headers.now c.loop-header.header-index c.loop-header-test.false c.loop-header.invariant.held;
  first = c.loop-header.invariant.first;
}
