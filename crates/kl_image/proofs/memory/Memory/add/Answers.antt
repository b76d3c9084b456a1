use Rattle.std.proofs.Common.{sym}
use Rattle.kl_image.proofs.Memories.{memory_more, memory_same, apart_keys}
use Rattle.kl_image.proofs.memory.Memory.add.Goals as goal

pub returns-in_ok-insert : goal.returns-in_ok-insert
returns-in_ok-insert c = λ before is free.
    memory_more c.args.self.now.ends c.insert.new.self before c.args.segment.now c.in-Some.start c.in-Some.end is free (sym c.in-Some.ensures) c.in_ok-insert.ensures.updates.1
    (λ q other. c.in_ok-insert.ensures.updates.2 q (apart_keys c.in-Some.start q other))

pub returns-in_default : goal.returns-in_default
returns-in_default c = λ before is free. memory_same c.args.self.now.ends before c.args.segment.now is (sym c.in_default.ensures)
