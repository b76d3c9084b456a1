use Rattle.std.proofs.Common.{get_or, refl, arith}
use Rattle.kl_model.proofs.Each.{each_more}
use Rattle.kl_shared.proofs.StubArea.{slot_low}
use Rattle.kl_shared.specs.Stubs.{nth_stub}
use Rattle.kl_shared.proofs.stubs.bytes_of_stubs.Goals as goal

pub push_stub-requires-clause-above : goal.push_stub-requires-clause-above
push_stub-requires-clause-above c =
    let h = c.loop-number-test.true in
    let slot = slot_low c.args.got c.args.slots.now (get_or c.args.names.now c.loop-number.number 0) (c.requires.known c.loop-number.number 0 h) in
    let room = c.requires.slots in
    omega (arith, c.slot_of.ensures, slot, room)

pub loop-number-preserved : goal.loop-number-preserved
loop-number-preserved c =
    let n = c.loop-number.number in let names = c.args.names.now in
    rw (each_more (nth_stub c.args.stubs c.args.got c.args.slots.now) names n 0 c.loop-number-test.true, c.in_ok-push_stub.ensures, c.loop-number.invariant, c.slot_of.ensures) refl
