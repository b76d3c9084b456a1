use Rattle.std.proofs.Common.{slice_index_or, sym, arith}
use Rattle.kl_elf.specs.declared.records.Phdr.{Phdr}
use Rattle.kl_model.specs.Loaded.{has_in_file}
use Rattle.kl_image.proofs.FlawLists.{find_first, find_more}
use Rattle.kl_image.proofs.SegmentFlaws.{all_inside}
use Rattle.kl_image.proofs.FilePlaces.{place_small, place_inside, place_found}
use Rattle.kl_image.proofs.dynamic.DynamicSection.file_at.Goals as goal

-- what the list of segments is read as past its end
abbrev no_phdr : Phdr
no_phdr = record { kind = 0; flags = 0; offset = 0; vaddr = 0; paddr = 0; filesz = 0; memsz = 0; align = 0 }

pub overflow_add-result : goal.overflow_add-result
overflow_add-result c =
    let i = c.loop-segment.segment-index in
    let b = c.args.self.now.bytes.now in
    let lies = rw (← c.requires.segments_are) at (all_inside b c.requires.sound i no_phdr (rw c.requires.segments_are at c.loop-segment-test.true)) in
    let small = place_small b c.args.address c.args.size (slice_index_or c.args.self.now.segments.now i no_phdr) lies (sym c.if-has_in_file.ensures) c.requires.short
    (omega arith) in
    omega (arith, small)

pub returns-then-has_in_file-clause-place : goal.returns-then-has_in_file-clause-place
returns-then-has_in_file-clause-place c =
    let i = c.loop-segment.segment-index in
    let found = find_first (has_in_file c.args.address c.args.size) c.args.self.now.segments.now i no_phdr c.loop-segment.invariant c.loop-segment-test.true (sym c.if-has_in_file.ensures) in
    place_found c.args.self.now.bytes.now c.args.self.now.segments.now c.args.address c.args.size _ c.requires.segments_are found

pub returns-then-has_in_file-clause-lies : goal.returns-then-has_in_file-clause-lies
returns-then-has_in_file-clause-lies c = λ some.
    let i = c.loop-segment.segment-index in
    let b = c.args.self.now.bytes.now in
    let lies = rw (← c.requires.segments_are) at (all_inside b c.requires.sound i no_phdr (rw c.requires.segments_are at c.loop-segment-test.true)) in
    place_inside b c.args.address c.args.size (slice_index_or c.args.self.now.segments.now i no_phdr) lies (sym c.if-has_in_file.ensures) some

pub loop-segment-preserved : goal.loop-segment-preserved
loop-segment-preserved c =
    find_more (has_in_file c.args.address c.args.size) c.args.self.now.segments.now c.loop-segment.segment-index no_phdr c.loop-segment.invariant c.loop-segment-test.true
    (sym c.if-has_in_file.ensures)
