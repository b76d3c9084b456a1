use Rattle.std.proofs.Common.{[]}
use Rattle.std.proofs.lemmas.Result.{IfOk-weaker}
use Rattle.kl_write.proofs.FewSlots.{few_slots}
use Rattle.kl_write.proofs.Spans.{slots_placed}
use Rattle.kl_write.proofs.slots.slot_bytes.Goals as goal

pub bytes_of_slots-requires-clause-placed : goal.bytes_of_slots-requires-clause-placed
bytes_of_slots-requires-clause-placed c =
    let x = c.requires.laid in rw c.requires.slots (slots_placed c.args.kit.now [] c.args.graph.now x.0 x.1 c.args.placement.now x.2 c.requires.addresses)

pub bytes_of_slots-requires-clause-few : goal.bytes_of_slots-requires-clause-few
bytes_of_slots-requires-clause-few c = let x = c.requires.laid in rw c.requires.slots (few_slots c.args.kit.now c.args.graph.now x.2.sound)

pub returns : goal.returns
returns c = IfOk-weaker c.bytes_of_slots.result _ _ (λ v is inputs. rw c.requires.slots at is) c.bytes_of_slots.ensures
