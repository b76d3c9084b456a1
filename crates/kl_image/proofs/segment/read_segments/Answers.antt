use Rattle.std.proofs.Common.{◌∙◌, add-one, refl}
use Rattle.kl_elf.proofs.Kept.{phdrs_more}
use Rattle.kl_image.proofs.segment.read_segments.Goals as goal

pub loop-number-preserved : goal.loop-number-preserved
loop-number-preserved c =
    let more = phdrs_more c.args.bytes.now c.args.head.now.phoff c.loop-number.number in
    c.in_ok-push.ensures.ok ∙ rw (c.loop-number.invariant, c.read.ensures, add-one, more) refl
