use Rattle.kl_rel.proofs.Grouping.{grouped_start}
use Rattle.kl_rel.proofs.group.read_groups.Goals as goal

pub read_each-requires-clause-grouped : goal.read_each-requires-clause-grouped
read_each-requires-clause-grouped c = rw (c.deref_mut.ensures.value, c.in_ok-grouped.ensures.items_if_clones_equal (λ y e. e)) (grouped_start c.args.bytes.now c.args.table.now.count c.requires.table.count)
