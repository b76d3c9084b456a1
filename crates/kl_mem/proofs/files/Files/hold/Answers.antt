use Rattle.std.proofs.Common.{ap, ◌∙◌}
use Rattle.std.specs.Prelude.{Some}
use Rattle.std.specs.FinMap.{insert}
use Rattle.kl_store.specs.Names.{Names}
use Rattle.kl_mem.proofs.FileMaps.{updated}
use Rattle.kl_mem.proofs.files.Files.hold.Goals as goal

pub returns-in-Ok-clause-ok : goal.returns-in-Ok-clause-ok
returns-in-Ok-clause-ok c = updated c.self.inside.held c.insert.new.self c.args.name.now (Some c.args.file) c.in-Ok.ensures.updates.0 ∙ ap (λ (m : Names). insert m c.args.name.now c.args.file.items) c.self.view_is
