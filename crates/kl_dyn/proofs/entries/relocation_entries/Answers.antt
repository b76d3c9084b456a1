use Rattle.std.proofs.Common.{◌++◌, ◌∙◌, ap, arith, length, sym, nat_lt}
use Rattle.kl_elf.specs.declared.records.Rela.{Rela}
use Rattle.kl_model.specs.Lists.{each, in_order}
use Rattle.kl_model.specs.Slots.{slots}
use Rattle.kl_dyn.specs.Entries.{field_relas, slot_jumps, slot_relas}
use Rattle.kl_dyn.proofs.Counts.{slots-few}
use Rattle.kl_dyn.proofs.EntryRows.{first_table, second_table}
use Rattle.kl_dyn.proofs.EntryTargets.{fields_known, slots_known, stubs_known}
use Rattle.kl_dyn.proofs.entries.relocation_entries.Goals as goal

pub stubbed_names-requires-clause-known : goal.stubbed_names-requires-clause-known
stubbed_names-requires-clause-known c =
    let x = c.requires.laid in rw (c.items.ensures, c.requires.stubs) (stubs_known x.0 c.args.graph.now c.args.placement.now x.3.sound.fields)

pub push_fields-requires-clause-fields : goal.push_fields-requires-clause-fields
push_fields-requires-clause-fields c =
    let x = c.requires.laid in fields_known x.0 c.args.graph.now c.args.placement.now x.1 x.3 c.requires.addresses

pub push_slots-requires-clause-few : goal.push_slots-requires-clause-few
push_slots-requires-clause-few c =
    let x = c.requires.laid in
    let given = ap length (c.items-2.ensures ∙ c.requires.slots) in
    omega (arith, given, slots-few c.args.graph.now, x.3.sound.field_count)

pub push_slots-requires-clause-targets : goal.push_slots-requires-clause-targets
push_slots-requires-clause-targets c =
    let x = c.requires.laid in rw (c.items-2.ensures, c.requires.slots) (slots_known x.0 c.args.graph.now c.args.placement.now x.1 x.3 c.requires.addresses)

pub returns-clause-relas : goal.returns-clause-relas
returns-clause-relas c =
    let p = c.args.placement.now in let g = c.args.graph.now in
    let before = λ (r x : Rela). nat_lt r.offset x.offset in
    let fields = c.in_ok-push_fields.ensures ∙ ap (λ l. l ++ field_relas p g g.fields) c.in_ok-with_capacity.ensures.items in
    let slots_too = rw (c.items-2.ensures, c.requires.slots) at c.in_ok-push_slots.ensures.relas in
    c.in_ok-sort_by_offset.ensures
    ∙ ap (in_order before) (slots_too ∙ (ap (λ l. l ++ each (slots g) (slot_relas p g)) fields ∙ sym (first_table p g)))

pub returns-clause-jumps : goal.returns-clause-jumps
returns-clause-jumps c =
    let p = c.args.placement.now in let g = c.args.graph.now in
    let before = λ (r x : Rela). nat_lt r.offset x.offset in
    let slots_too = rw (c.items-2.ensures, c.requires.slots) at c.in_ok-push_slots.ensures.jumps in
    c.in_ok-sort_by_offset-2.ensures
    ∙ ap (in_order before) (slots_too ∙ (ap (λ l. l ++ each (slots g) (slot_jumps p g)) c.in_ok-with_capacity-2.ensures.items ∙ sym (second_table p g)))
