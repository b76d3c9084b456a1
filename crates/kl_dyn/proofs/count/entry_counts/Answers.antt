use Rattle.std.proofs.Common.{◌≤◌, ◌≡◌, ◌+◌, ◌∙◌, ap, length, sym, arith}
use Rattle.kl_model.specs.Slots.{rela_entries, slots, stubs}
use Rattle.kl_dyn.specs.Entries.{field_entries, slot_entries}
use Rattle.kl_dyn.proofs.Counts.{entry_total, jump_total, slots-few}
use Rattle.kl_dyn.proofs.count.entry_counts.Goals as goal
use Rattle.kl_dyn.proofs.count.entry_counts.Goals.{After-count_slots}

-- all entries
total : (c : After-count_slots) → c.count_fields.result + c.count_slots.result ≡ length (rela_entries c.args.graph.now) + length c.items-jumps.result.now
total c =
    let g = c.args.graph.now in
    let fields : c.count_fields.result ≡ length (field_entries g.fields) = c.count_fields.ensures.count ∙ ap (λ fs. length (field_entries fs)) c.items.ensures in
    let made : c.count_slots.result ≡ length (slot_entries g (slots g)) = c.count_slots.ensures.count g ∙ ap (λ ts. length (slot_entries g ts)) (c.items-2.ensures ∙ c.requires.slots) in
    let named : length c.items-jumps.result.now ≡ length (stubs g) = ap length (c.items-jumps.ensures ∙ c.requires.stubs) in
    omega (arith, entry_total g)

pub overflow_sub-result : goal.overflow_sub-result
overflow_sub-result c = omega (arith, total c)

pub returns-clause-relas : goal.returns-clause-relas
returns-clause-relas c = omega (arith, total c)

pub returns-clause-jumps : goal.returns-clause-jumps
returns-clause-jumps c = ap length (c.items-jumps.ensures ∙ c.requires.stubs) ∙ sym (jump_total c.args.graph.now)

pub returns-clause-few : goal.returns-clause-few
returns-clause-few c =
    let g = c.args.graph.now in
    let fields : c.count_fields.result ≤ length g.fields = rw c.items.ensures at c.count_fields.ensures.few in
    let given = ap length (c.items-2.ensures ∙ c.requires.slots) in
    let sound = c.requires.sound in
    omega (arith, total c, slots-few g, sound.1.field_count, c.count_slots.ensures.few)
