use Rattle.std.proofs.Common.{◌≡◌, [], take}
use Rattle.kl_model.specs.Lists.{each}
use Rattle.kl_image.specs.Occupied.{IsMemoryOf}
use Rattle.kl_image.proofs.SegmentFlaws.{told}
use Rattle.kl_image.proofs.segment.check_segments.Given as goal

abbrev pub invariant-loop-index : goal.invariant-loop-index
invariant-loop-index l = record {
  flaws : each (take l.index l.headers) (told l.bytes l.headers) ≡ [];
  memory : IsMemoryOf l.memory.ends (take l.index l.headers);
}
