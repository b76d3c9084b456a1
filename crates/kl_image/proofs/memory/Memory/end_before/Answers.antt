use Rattle.std.proofs.Common.{refl}
use Rattle.kl_image.proofs.Memories.{ends_after, before_is}
use Rattle.kl_image.proofs.memory.Memory.end_before.Goals as goal

pub returns-in-Some-clause-furthest : goal.returns-in-Some-clause-furthest
returns-in-Some-clause-furthest c = λ before is start end at low.
    let range = c.range.ensures.in_range tt in
    let entry = range.3 _ _ c.in-Some.ensures.steps in
    let last = range.4 _ _ c.in-Some.ensures.steps start (tt, before_is start c.args.address low) (rw at refl) in
    ends_after c.args.self.now.ends before _ start _ end is entry.1 at last
