use Rattle.std.proofs.Common.{◌≡◌, ℕ, List, ◌++◌, [], rules, ap, sym, ◌∙◌}
use Rattle.std.specs.Prelude.{Some, None, option_map, unwrap_or, is_some}
use Rattle.std.specs.FinMap.{get, insert}
use Rattle.std.specs.Prelude.{Vec}
use Rattle.std.specs.declared.alloc.Global.{Global}
use Rattle.std.specs.BTreeMap.{BTreeMap}
use Rattle.std.proofs.lemmas.Result.{on_ok_weaker}
use Rattle.kl_store.specs.Names.{Names}
use Rattle.kl_mem.specs.FileMap.{names_in, items_of}
use Rattle.kl_store.proofs.NameMaps.{insert_same}
use Rattle.kl_mem.proofs.FileMaps.{updated, names_in-get}
use Rattle.kl_mem.proofs.files.Files.append.Goals as goal

pub returns-in_default-clause-ok : goal.returns-in_default-clause-ok
returns-in_default-clause-ok c =
    let absent : get c.args.self.now c.args.name.now ≡ None =
    ap (λ (m : Names). get m c.args.name.now) (sym c.self.view_is) ∙ names_in-get c.self.inside.held.entries c.args.name.now ∙ ap (option_map items_of) (sym c.in_default.ensures.value) in
    on_ok_weaker c.put.result
    (λ made. made ∙ ap (λ (held : BTreeMap (List ℕ) (Vec ℕ Global)). insert (names_in held.entries) c.args.name.now c.args.bytes.now) c.get_mut.follows.holds-at-none
    ∙ ap (λ (m : Names). insert m c.args.name.now c.args.bytes.now) c.self.view_is
    ∙ ap (λ o. insert c.args.self.now c.args.name.now (unwrap_or o [] ++ c.args.bytes.now)) (sym absent))
    c.put.ensures.ok

pub returns-in-Ok-clause-ok : goal.returns-in-Ok-clause-ok
returns-in-Ok-clause-ok c =
    let old : Some c.in-Some.file.now.items ≡ get c.args.self.now c.args.name.now =
    ap (option_map items_of) c.in-Some.ensures.value ∙ sym (names_in-get c.self.inside.held.entries c.args.name.now) ∙ ap (λ (m : Names). get m c.args.name.now) c.self.view_is in
    let new : c.extend_from_slice.new.self.items ≡ c.in-Some.file.now.items ++ c.args.bytes.now = search rules in
    updated c.self.inside.held (c.get_mut.follows.lender c.extend_from_slice.new.self) c.args.name.now (Some c.extend_from_slice.new.self) ((c.get_mut.follows.holds c.extend_from_slice.new.self).3 (ap is_some (sym c.in-Some.ensures.value))).0
    ∙ ap (λ (l : List ℕ). insert (names_in c.self.inside.held.entries) c.args.name.now l) new
    ∙ ap (λ (m : Names). insert m c.args.name.now (c.in-Some.file.now.items ++ c.args.bytes.now)) c.self.view_is
    ∙ ap (λ o. insert c.args.self.now c.args.name.now (unwrap_or o [] ++ c.args.bytes.now)) old

pub returns-in-Err-clause-err : goal.returns-in-Err-clause-err
returns-in-Err-clause-err c =
    let old : Some c.in-Some.file.now.items ≡ get c.args.self.now c.args.name.now =
    ap (option_map items_of) c.in-Some.ensures.value ∙ sym (names_in-get c.self.inside.held.entries c.args.name.now) ∙ ap (λ (m : Names). get m c.args.name.now) c.self.view_is in
    let new : c.extend_from_slice.new.self.items ≡ c.in-Some.file.now.items = search rules in
    updated c.self.inside.held (c.get_mut.follows.lender c.extend_from_slice.new.self) c.args.name.now (Some c.extend_from_slice.new.self) ((c.get_mut.follows.holds c.extend_from_slice.new.self).3 (ap is_some (sym c.in-Some.ensures.value))).0
    ∙ ap (λ (l : List ℕ). insert (names_in c.self.inside.held.entries) c.args.name.now l) new
    ∙ ap (λ (m : Names). insert m c.args.name.now c.in-Some.file.now.items) c.self.view_is
    ∙ insert_same c.args.self.now c.args.name.now c.in-Some.file.now.items (sym old)
