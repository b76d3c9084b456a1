use Rattle.std.proofs.Common.{◌∙◌, sym, rules}
use Rattle.kl_dyn.proofs.Counts.{slot_count}
use Rattle.kl_dyn.proofs.count.count_slots.Goals as goal

pub returns-clause-count : goal.returns-clause-count
returns-clause-count c = λ g. search rules ∙ sym (slot_count g c.args.slots.now)
