use Rattle.std.proofs.Common.{ap, sym, ◌∙◌}
use Rattle.std.specs.Prelude.{is_some}
use Rattle.std.proofs.lemmas.Result.{IfOk-weaker}
use Rattle.std.specs.FinMap.{get}
use Rattle.kl_store.specs.Names.{Names}
use Rattle.kl_mem.proofs.FileMaps.{names_in-get, same_some}
use Rattle.kl_mem.proofs.files.Files.names.Goals as goal

pub returns : goal.returns
returns c = IfOk-weaker c.keys_of.result _ _ (λ v has q. ap (λ (m : Names). is_some (get m q)) (sym c.self.view_is) ∙ ap is_some (names_in-get c.self.inside.held.entries q) ∙ same_some _ ∙ has q) c.keys_of.ensures
