use Rattle.std.proofs.Common.{◌≡◌, [], List, ℕ, ap, ◌∙◌}
use Rattle.std.specs.Prelude.{Vec, Some}
use Rattle.std.specs.declared.alloc.Global.{Global}
use Rattle.std.specs.FinMap.{get, insert, remove}
use Rattle.kl_store.specs.Names.{Names}
use Rattle.kl_mem.proofs.FileMaps.{is_replaced}
use Rattle.kl_store.proofs.NameMaps.{insert_same, insert_again, get-here, renamed_by_steps}
use Rattle.kl_mem.proofs.files.Files.rename.Goals as goal

pub returns-in-Ok-clause-ok : goal.returns-in-Ok-clause-ok
returns-in-Ok-clause-ok c =
    let emptied = c.in-Some.ensures.there ∙ ap (λ (l : List ℕ). insert c.args.self.now c.args.from.now l) c.new.ensures.items in
    let held = c.in-Ok.ensures.ok ∙ ap (λ (m : Names). insert m c.args.to.now c.in-Some.file.items) emptied in
    c.remove.ensures.gone ∙ ap (λ (m : Names). remove m c.args.from.now) held ∙ renamed_by_steps c.args.self.now c.args.from.now c.args.to.now c.in-Some.file.items c.requires c.in-Some.ensures.was

pub returns-in-Err-clause-err : goal.returns-in-Err-clause-err
returns-in-Err-clause-err c =
    let emptied : c.hold.new.self ≡ insert c.args.self.now c.args.from.now [] = c.in-Err.ensures.err.0 ∙ c.in-Some.ensures.there ∙ ap (λ (l : List ℕ). insert c.args.self.now c.args.from.now l) c.new.ensures.items in
    let empty : get c.hold.new.self c.args.from.now ≡ Some [] = ap (λ (m : Names). get m c.args.from.now) emptied ∙ get-here c.args.self.now c.args.from.now [] in
    is_replaced c.replace-in-Err.result c.hold.new.self c.replace-in-Err.new.self (insert c.hold.new.self c.args.from.now c.in-Err.file.items) c.args.from.now [] c.replace-in-Err.ensures.was empty c.replace-in-Err.ensures.there
    ∙ ap (λ (m : Names). insert m c.args.from.now c.in-Err.file.items) emptied
    ∙ insert_again c.args.self.now c.args.from.now [] c.in-Err.file.items
    ∙ ap (λ (v : Vec ℕ Global). insert c.args.self.now c.args.from.now v.items) c.in-Err.ensures.err.1
    ∙ insert_same c.args.self.now c.args.from.now c.in-Some.file.items c.in-Some.ensures.was
