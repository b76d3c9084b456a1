use Rattle.std.proofs.Common.{◌∙◌, length, get_or, take, ap, sym, arith, length-take-le}
use Rattle.std.proofs.lemmas.List.{take_all}
use Rattle.kl_got.specs.Made.{stubs_of, with_slot, with_stub}
use Rattle.kl_got.proofs.Walked.{no_stubs, slots-few, slots_more, stub_name-known, stubs_more, zero_field}
use Rattle.kl_got.proofs.fields.needs.Goals as goal

pub add_slot-requires : goal.add_slot-requires
add_slot-requires c =
    let fs = c.args.graph.now.fields in
    let few = slots-few (take c.loop-field.field-index fs) in
    let same = ap length c.loop-field.invariant.slots in
    let limit = c.requires.field_count in
    let below = rw c.items-field-items.ensures at c.loop-field-test.true in
    omega (arith, length-take-le c.loop-field.field-index fs)

pub add_stub-requires-clause-name : goal.add_stub-requires-clause-name
add_stub-requires-clause-name c = λ n e.
    let items = c.items-field-items.ensures in
    let h = rw items at c.loop-field-test.true in
    rw c.loop-field.invariant.marks.count
    (stub_name-known c.args.kit.now c.args.graph.now (get_or c.args.graph.now.fields c.loop-field.field-index zero_field) (c.requires.fields c.loop-field.field-index zero_field h).target n (rw items at e))

pub loop-field-preserved : goal.loop-field-preserved
loop-field-preserved c =
    let fs = c.args.graph.now.fields in
    let i = c.loop-field.field-index in
    let items = c.items-field-items.ensures in
    let h = rw items at c.loop-field-test.true in
    let before = c.loop-field.invariant in
    let f = get_or fs i zero_field in
    record {
      slots = (rw items at c.in_ok-add_slot.ensures) ∙ (ap (λ l. with_slot l f) before.slots ∙ sym (slots_more fs i zero_field h));
      stubs = (rw items at c.in_ok-add_stub.ensures.names) ∙ (ap (λ l. with_stub l f) before.stubs ∙ sym (stubs_more fs i zero_field h));
      marks = rw before.marks.count at c.in_ok-add_stub.ensures.marked;
    }

pub returns-clause-kernel : goal.returns-clause-kernel
returns-clause-kernel c = λ kernel.
    let g = c.args.graph.now in
    let past = rw c.items-field-items.ensures at c.loop-field-test.false in
    c.loop-field.invariant.stubs ∙ (ap stubs_of (take_all c.loop-field.field-index g.fields past) ∙ no_stubs c.args.kit.now g (c.requires.kernel kernel) c.requires.fields)
