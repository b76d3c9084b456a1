use Rattle.std.proofs.Common.{◌≡◌}
use Rattle.kl_elf.specs.Records.{phdrs_from}
use Rattle.kl_image.proofs.segment.read_segments.Given as goal

abbrev pub invariant-loop-number : goal.invariant-loop-number
invariant-loop-number l = l.segments ≡ phdrs_from l.bytes l.head.phoff l.number
