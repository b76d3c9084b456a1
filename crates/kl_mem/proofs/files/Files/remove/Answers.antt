use Rattle.std.proofs.Common.{◌≡◌, ap, sym, ◌∙◌}
use Rattle.std.specs.Prelude.{None, is_some}
use Rattle.std.specs.FinMap.{get, remove}
use Rattle.kl_store.specs.Names.{Names}
use Rattle.kl_mem.proofs.FileMaps.{updated, names_in-get, same_some}
use Rattle.kl_store.proofs.NameMaps.{by_presence}
use Rattle.kl_mem.proofs.files.Files.remove.Goals as goal

was : (c : goal.Joined-remove) → c.is_some.result ≡ is_some (get c.args.self.now c.args.name.now)
was c = c.is_some.ensures ∙ ap is_some c.remove.ensures.value ∙ sym (same_some _) ∙ ap is_some (sym (names_in-get c.self.inside.held.entries c.args.name.now)) ∙ ap (λ (m : Names). is_some (get m c.args.name.now)) c.self.view_is

pub returns-clause-gone : goal.returns-clause-gone
returns-clause-gone c = updated c.self.inside.held c.remove.new.self c.args.name.now None c.remove.ensures.updates.0 ∙ ap (λ (m : Names). remove m c.args.name.now) c.self.view_is

pub returns-clause-was : goal.returns-clause-was
returns-clause-was c = by_presence c.is_some.result (get c.args.self.now c.args.name.now) (was c)
