use Rattle.std.proofs.Common.{ℕ, List, ap, sym, ◌∙◌}
use Rattle.std.specs.Prelude.{Some, option_map}
use Rattle.std.specs.FinMap.{get}
use Rattle.kl_store.specs.Names.{Names}
use Rattle.kl_mem.proofs.FileMaps.{names_in-get}
use Rattle.kl_mem.specs.FileMap.{items_of}
use Rattle.kl_mem.proofs.files.Files.get.Goals as goal

pub returns-in-Some : goal.returns-in-Some
returns-in-Some c = ap (λ (l : List ℕ). Some l) c.deref.ensures.value ∙ ap (option_map items_of) c.in-Some.ensures.value ∙ sym (names_in-get c.self.inside.held.entries c.args.name.now) ∙ ap (λ (m : Names). get m c.args.name.now) c.self.view_is

pub returns-in-None : goal.returns-in-None
returns-in-None c = ap (option_map items_of) c.in-None.ensures.value ∙ sym (names_in-get c.self.inside.held.entries c.args.name.now) ∙ ap (λ (m : Names). get m c.args.name.now) c.self.view_is
