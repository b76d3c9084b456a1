use Rattle.std.proofs.Common.{◌∙◌, arith}
use Rattle.std.proofs.lemmas.Result.{IfOk-weaker}
use Rattle.kl_model.proofs.ListWords.{once-apart}
use Rattle.kl_model.specs.Slots.{same_target}
use Rattle.kl_write.proofs.FewSlots.{few_slots}
use Rattle.kl_shared.proofs.StubArea.{stubs_are, stubs_have}
use Rattle.kl_shared.proofs.StubRoom.{area_start, got_ends, stubs_end}
use Rattle.kl_shared.proofs.stubs.stub_area.Goals as goal

pub of-requires-clause-apart : goal.of-requires-clause-apart
of-requires-clause-apart c = rw (c.items.ensures, c.requires.slots) (once-apart same_target _)

pub of-requires-clause-few : goal.of-requires-clause-few
of-requires-clause-few c = let x = c.requires.laid in rw (c.items.ensures, c.requires.slots) (few_slots x.0 c.args.graph.now x.3.sound)

pub bytes_of_stubs-requires-clause-few : goal.bytes_of_stubs-requires-clause-few
bytes_of_stubs-requires-clause-few c = let x = c.requires.laid in rw (c.in_ok-slots.ensures, c.items.ensures, c.requires.slots) (few_slots x.0 c.args.graph.now x.3.sound)

pub bytes_of_stubs-requires-clause-stubs : goal.bytes_of_stubs-requires-clause-stubs
bytes_of_stubs-requires-clause-stubs c =
    let x = c.requires.laid in
    let p = c.args.placement.now in
    rw (area_start x.0 c.args.graph.now x.1 p x.2 x.3 c.requires.addresses 6 (omega arith) c.items-areas.ensures, c.items-2.ensures, c.requires.stubs) (stubs_end x.0 c.args.graph.now x.1 p x.2 x.3 c.requires.addresses)

pub bytes_of_stubs-requires-clause-slots : goal.bytes_of_stubs-requires-clause-slots
bytes_of_stubs-requires-clause-slots c =
    let x = c.requires.laid in
    let p = c.args.placement.now in
    rw (area_start x.0 c.args.graph.now x.1 p x.2 x.3 c.requires.addresses 13 (omega arith) c.items-areas.ensures, c.in_ok-slots.ensures, c.items.ensures, c.requires.slots)
    (got_ends x.0 c.args.graph.now x.1 p x.2 x.3 c.requires.addresses)

pub bytes_of_stubs-requires-clause-known : goal.bytes_of_stubs-requires-clause-known
bytes_of_stubs-requires-clause-known c = rw (c.items-2.ensures, c.requires.stubs, c.in_ok-slots.ensures, c.items.ensures, c.requires.slots) (stubs_have c.args.graph.now)

pub returns : goal.returns
returns c =
    let x = c.requires.laid in
    let p = c.args.placement.now in
    let g = c.args.graph.now in
    IfOk-weaker c.bytes_of_stubs.result _ _
    (λ v is.
    rw (area_start x.0 g x.1 p x.2 x.3 c.requires.addresses 6 (omega arith) c.items-areas.ensures, area_start x.0 g x.1 p x.2 x.3 c.requires.addresses 13 (omega arith) c.items-areas.ensures, c.items-2.ensures, c.requires.stubs, c.in_ok-slots.ensures, c.items.ensures, c.requires.slots) at is
    ∙ stubs_are p g)
    c.bytes_of_stubs.ensures
