use Rattle.std.proofs.Common.{◌∙◌, rules, nat_lt}
use Rattle.std.proofs.lemmas.List.Sorted.{IsPartitionPoint-from_clause, IsPartitionedBy-ltb}
use Rattle.kl_ar.proofs.Ends.{find_point, found_behind, got}
use Rattle.kl_ar.proofs.long_names.first_from.Goals as goal

pub returns-clause-first : goal.returns-clause-first
returns-clause-first c =
    let parted = IsPartitionedBy-ltb (λ x. x) c.args.ends.now c.args.place c.requires in
    let point = IsPartitionPoint-from_clause (λ end. nat_lt end c.args.place) _ _ c.partition_point-first.ensures.partitioned parted (λ a r q k. search rules) in
    c.copied.ensures ∙ (got c.args.ends.now c.partition_point-first.result c.get.result c.get.ensures.lookup.0 c.get.ensures.lookup.1 ∙ find_point c.args.place c.partition_point-first.result c.args.ends.now c.partition_point-first.ensures.bound point)

pub returns-clause-behind : goal.returns-clause-behind
returns-clause-behind c = found_behind c.args.place c.args.ends.now c.copied.result (returns-clause-first c)
