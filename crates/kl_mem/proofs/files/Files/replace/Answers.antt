use Rattle.std.proofs.Common.{◌≡◌, ap, sym, ◌∙◌, List, ℕ}
use Rattle.std.specs.Prelude.{Some, option_map, is_some}
use Rattle.std.specs.FinMap.{get, insert}
use Rattle.kl_store.specs.Names.{Names}
use Rattle.kl_mem.specs.FileMap.{names_in, items_of}
use Rattle.kl_mem.proofs.FileMaps.{updated, names_in-get}
use Rattle.kl_mem.proofs.files.Files.replace.Goals as goal

pub returns-in_default-clause-was : goal.returns-in_default-clause-was
returns-in_default-clause-was c = ap (λ (m : Names). get m c.args.name.now) (sym c.self.view_is) ∙ names_in-get c.self.inside.held.entries c.args.name.now ∙ ap (option_map items_of) (sym c.in_default.ensures.value)

pub returns-clause-was : goal.returns-clause-was
returns-clause-was c =
    let taken : items_of c.in-Some.place.now ≡ items_of c.replace.result = ap items_of (sym c.replace.ensures.value) in
    ap (λ (m : Names). get m c.args.name.now) (sym c.self.view_is) ∙ names_in-get c.self.inside.held.entries c.args.name.now ∙ ap (option_map items_of) (sym c.in-Some.ensures.value) ∙ ap (λ (l : List ℕ). Some l) taken

pub returns-clause-there : goal.returns-clause-there
returns-clause-there c =
    updated c.self.inside.held (c.get_mut.follows.lender c.replace.new.dest) c.args.name.now (Some c.replace.new.dest) ((c.get_mut.follows.holds c.replace.new.dest).3 (ap is_some (sym c.in-Some.ensures.value))).0
    ∙ ap (λ (l : List ℕ). insert (names_in c.self.inside.held.entries) c.args.name.now l) (ap items_of c.replace.ensures.after) ∙ ap (λ (m : Names). insert m c.args.name.now c.args.file.items) c.self.view_is
