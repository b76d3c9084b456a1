use Rattle.std.proofs.Common.{◌∙◌, ap}
use Rattle.kl_host.specs.Notes.{is_among}
use Rattle.kl_host.proofs.Among.{among_last}
use Rattle.kl_host.proofs.notes.Notes.add_checked.Goals as goal

pub returns-clause-checked : goal.returns-clause-checked
returns-clause-checked c = ap (is_among c.args.name.now) c.in_ok-push.ensures.items ∙ among_last c.args.name.now c.args.self.now.checked.items
