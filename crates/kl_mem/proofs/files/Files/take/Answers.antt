use Rattle.std.proofs.Common.{ap, sym, ◌∙◌}
use Rattle.std.specs.Prelude.{None, option_map}
use Rattle.std.specs.FinMap.{get, remove}
use Rattle.kl_store.specs.Names.{Names}
use Rattle.kl_mem.specs.FileMap.{items_of}
use Rattle.kl_mem.proofs.FileMaps.{updated, names_in-get}
use Rattle.kl_mem.proofs.files.Files.take.Goals as goal

pub returns-clause-was : goal.returns-clause-was
returns-clause-was c = ap (λ (m : Names). get m c.args.name.now) (sym c.self.view_is) ∙ names_in-get c.self.inside.held.entries c.args.name.now ∙ ap (option_map items_of) (sym c.remove.ensures.value)

pub returns-clause-gone : goal.returns-clause-gone
returns-clause-gone c = updated c.self.inside.held c.remove.new.self c.args.name.now None c.remove.ensures.updates.0 ∙ ap (λ (m : Names). remove m c.args.name.now) c.self.view_is
