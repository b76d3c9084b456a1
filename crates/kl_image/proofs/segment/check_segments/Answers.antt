use Rattle.std.proofs.Common.{◌≡◌, ◌||◌, inl, inr, true, false, take, get_or, sym, arith}
use Rattle.std.specs.List.{list_any}
use Rattle.std.proofs.lemmas.List.{take_more}
use Rattle.kl_elf.specs.declared.records.Phdr.{Phdr}
use Rattle.kl_image.specs.Headers.{is_damaged, share_memory}
use Rattle.kl_image.proofs.SegmentFlaws.{flaws_more, flaw_first, flaws_none, either_wrong}
use Rattle.kl_image.proofs.segment.check_segments.Goals as goal
use Rattle.kl_image.proofs.segment.check_segments.Goals.{then-is_damaged-via-then-is_damaged, then-is_damaged-via-else-is_damaged+then-has_part_of}

-- what the list of segments is read as past its end
abbrev no_phdr : Phdr
no_phdr = record { kind = 0; flags = 0; offset = 0; vaddr = 0; paddr = 0; filesz = 0; memsz = 0; align = 0 }

pub returns-then-is_damaged-clause-flaw : goal.returns-then-is_damaged-clause-flaw
returns-then-is_damaged-clause-flaw c =
    let b = c.args.bytes.now in
    let ss = c.args.headers.now in
    let i = c.loop-index.index in
    let s = get_or ss i no_phdr in
    let wrong : (is_damaged b s || list_any (share_memory s) (take i ss)) ≡ true = elim c.then-is_damaged.branch [
      | then-is_damaged-via-then-is_damaged w ↦ either_wrong (is_damaged b s) (list_any (share_memory s) (take i ss)) (inl (sym w.if-is_damaged.ensures))
      | then-is_damaged-via-else-is_damaged+then-has_part_of w ↦ either_wrong (is_damaged b s) (list_any (share_memory s) (take i ss)) (inr (sym (w.if-has_part_of.ensures (take i ss) c.loop-index.invariant.memory)))
    ] in
    flaw_first b ss i no_phdr c.requires.headers c.loop-index-test.true c.loop-index.invariant.flaws wrong

pub loop-index-preserved : goal.loop-index-preserved
loop-index-preserved c =
    let b = c.args.bytes.now in
    let ss = c.args.headers.now in
    let i = c.loop-index.index in
    let s = get_or ss i no_phdr in
    let free : list_any (share_memory s) (take i ss) ≡ false = sym (c.if-has_part_of.ensures (take i ss) c.loop-index.invariant.memory) in
    let more = take_more ss i no_phdr c.loop-index-test.true in
    record {
      flaws = flaws_more b ss i no_phdr c.loop-index-test.true c.loop-index.invariant.flaws (sym c.if-is_damaged.ensures) free;
      memory = rw more (c.in_ok-add.ensures (take i ss) c.loop-index.invariant.memory free);
    }

pub returns-clause-sound : goal.returns-clause-sound
returns-clause-sound c = flaws_none c.args.bytes.now c.args.headers.now c.loop-index.index c.requires.headers (omega arith) c.loop-index.invariant.flaws
