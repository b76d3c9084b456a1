use Rattle.std.proofs.Common.{◌∙◌, ap, length, arith}
use Rattle.kl_dyn.proofs.Counts.{slots-few, stubs-few}
use Rattle.kl_dyn.proofs.size.table_sizes.Goals as goal

pub overflow_mul-result : goal.overflow_mul-result
overflow_mul-result c =
    let g = c.args.graph.now in
    let named = ap length (c.items.ensures ∙ c.requires.stubs) in
    omega (arith, stubs-few g, c.requires.sound.field_count)

pub returns-clause-small_stubs : goal.returns-clause-small_stubs
returns-clause-small_stubs c =
    let named = ap length (c.items.ensures ∙ c.requires.stubs) in
    omega (arith, stubs-few c.args.graph.now, c.requires.sound.field_count)

pub returns-clause-small_got : goal.returns-clause-small_got
returns-clause-small_got c =
    let given = ap length (c.items-2.ensures ∙ c.requires.slots) in
    omega (arith, slots-few c.args.graph.now, c.requires.sound.field_count)

pub returns-clause-small_dynamic : goal.returns-clause-small_dynamic
returns-clause-small_dynamic c =
    let needed = ap length c.items-3.ensures in
    omega (arith, c.requires.kit.needed, c.tag_count.ensures.small)
