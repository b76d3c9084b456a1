use Rattle.std.proofs.Common.{sym}
use Rattle.kl_image.proofs.Memories.{part_found, none_without}
use Rattle.kl_image.proofs.memory.Memory.has_part_of.Goals as goal

pub returns-in-Some : goal.returns-in-Some
returns-in-Some c = λ before is.
    part_found c.args.self.now.ends before c.args.segment.now c.in-Some.start c.in-Some.end c.end_before.result is (sym c.in-Some.ensures) c.end_before.ensures.found
    (c.end_before.ensures.furthest before is)

pub returns-in-None : goal.returns-in-None
returns-in-None c = λ before is. sym (none_without c.args.segment.now before (sym c.in-None.ensures))
