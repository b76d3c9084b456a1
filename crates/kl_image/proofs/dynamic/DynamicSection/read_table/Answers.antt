use Rattle.kl_image.proofs.WrittenBytes.{relas_push}
use Rattle.kl_image.proofs.dynamic.DynamicSection.read_table.Goals as goal

pub loop-number-preserved : goal.loop-number-preserved
loop-number-preserved c =
    relas_push c.args.self.now.bytes.now c.in-Some.at c.loop-number.number c.args.relocations.now.items c.loop-number.relocations.items c.push.new.self.items
    c.loop-number.invariant (rw c.read.ensures at c.in_ok-push.ensures.items)
