use Rattle.std.proofs.Common.{◌∙◌, sym, rules}
use Rattle.kl_dyn.proofs.Counts.{field_count}
use Rattle.kl_dyn.proofs.count.count_fields.Goals as goal

pub returns-clause-count : goal.returns-clause-count
returns-clause-count c = search rules ∙ sym (field_count c.args.fields.now)
