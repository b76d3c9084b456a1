use Rattle.std.proofs.Common.{ℕ, ◌≡◌, ◌<◌, ◌∙◌, ◌&&◌, ◌||◌, List, [], length, get_or, ap, sym, arith, false, refl}
use Rattle.std.specs.Borrow.{Bor}
use Rattle.std.proofs.lemmas.List.{get_or-map, length-map}
use Rattle.kl_model.specs.Dynamic.{is_used}
use Rattle.kl_names.proofs.OwnLaws.{map-name}
use Rattle.kl_sym.specs.Linkage.{is_dynamic, linkage_of}
use Rattle.kl_sym.specs.declared.linkage.Linkage.{Linkage}
use Rattle.kl_sym.proofs.DynamicSteps.{listed-more, listed-same, names-few, no_linkage}
use Rattle.kl_sym.proofs.dynamic.listed_names.Goals as goal
use Rattle.kl_sym.proofs.dynamic.listed_names.Goals.{then-is_listed+in_ok-push, else-is_listed}

pub overflow_cast-number : goal.overflow_cast-number
overflow_cast-number c =
    let many = ap length c.requires.linkages ∙ length-map c.args.numbering.now.index (linkage_of c.args.kit.now c.args.inputs.now) in
    let once = ap length c.requires.numbered.once in
    let few = names-few c.args.inputs.now in
    let limit = c.requires.inputs.symbols in
    let here = c.loop-number-test.true in
    omega arith

pub loop-number-preserved : goal.loop-number-preserved
loop-number-preserved c =
    let kit = c.args.kit.now in let inputs = c.args.inputs.now in let index = c.args.numbering.now.index in let n = c.loop-number.number in
    let name = λ (p : Bor (List ℕ) × ℕ). p.0.now in
    let number = λ (p : Bor (List ℕ) × ℕ). p.1 in
    let link = map-name (linkage_of kit inputs) index c.args.linkages.now n no_linkage [] c.requires.linkages c.loop-number-test.true in
    let below = link.0 in
    let there : n < length c.args.used.now = (let many = ap length c.requires.used ∙ length-map index (is_used kit inputs) in omega arith) in
    let is_used_there = map-name (is_used kit inputs) index c.args.used.now n false [] c.requires.used there in
    let is : c.is_listed.result ≡ is_dynamic kit inputs (get_or index n []) =
    c.is_listed.ensures ∙ (ap (λ (l : Linkage). l.exported || (l.importable && get_or c.args.used.now n false)) link.1
    ∙ ap (λ b. (linkage_of kit inputs (get_or index n [])).exported || ((linkage_of kit inputs (get_or index n [])).importable && b)) is_used_there.1) in
    let many = sym (length-map c.names-names.result.now (λ k. k.now)) ∙ ap length c.names-names.ensures in
    let inside : n < length c.names-names.result.now = omega arith in
    let named = λ (d : Bor (List ℕ)). sym (get_or-map (λ k. k.now) c.names-names.result.now n d [] inside) ∙ ap (λ l. get_or l n []) c.names-names.ensures in
    elim c.if-is_listed.branch [
      | then-is_listed+in_ok-push w ↦
          let more = listed-more name number (is_dynamic kit inputs) index c.loop-number.listed.items n [] below c.loop-number.invariant.names c.loop-number.invariant.numbers _ (named _) refl (sym is ∙ w.if-is_listed.true) in
          record {
            names = rw (w.listed-is, w.in_ok-push.ensures.items) more.0;
            numbers = rw (w.listed-is, w.in_ok-push.ensures.items) more.1;
          }
      | else-is_listed w ↦ record {
        names = rw w.listed-is (listed-same name number (is_dynamic kit inputs) index c.loop-number.listed.items n [] below c.loop-number.invariant.names c.loop-number.invariant.numbers (sym is ∙ w.if-is_listed.false));
        numbers = rw w.listed-is c.loop-number.invariant.numbers;
      }
    ]
