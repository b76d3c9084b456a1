use Rattle.std.proofs.Common.{◌∙◌, ap}
use Rattle.kl_host.specs.Notes.{is_among}
use Rattle.kl_host.proofs.Among.{among_last}
use Rattle.kl_host.proofs.notes.add.Goals as goal

pub returns-clause-added : goal.returns-clause-added
returns-clause-added c = ap (is_among c.args.name.now) c.in_ok-push.ensures.items ∙ among_last c.args.name.now c.args.names.now.items
