use Rattle.std.proofs.Common.{◌∙◌, ap, bytes_eq}
use Rattle.std.specs.List.{list_any}
use Rattle.kl_host.specs.Paths.{folder_of}
use Rattle.kl_host.proofs.Among.{folder_last}
use Rattle.kl_host.proofs.notes.Notes.add_known.Goals as goal

pub returns-clause-known : goal.returns-clause-known
returns-clause-known c =
    ap (list_any (λ other. bytes_eq (folder_of other) (folder_of c.args.name.now))) c.in_ok-push.ensures.items
    ∙ folder_last c.args.name.now c.args.self.now.asked.items
