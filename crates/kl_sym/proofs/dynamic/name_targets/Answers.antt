use Rattle.std.proofs.Common.{ℕ, ◌<◌, ◌≡◌, ◌∙◌, [], length, get_or, ap, sym, arith}
use Rattle.std.specs.Prelude.{None, Option}
use Rattle.std.proofs.lemmas.List.{length-map}
use Rattle.kl_model.specs.Dynamic.{name_number}
use Rattle.kl_model.specs.Names.{definition}
use Rattle.kl_model.specs.declared.graph.Target.{Target}
use Rattle.kl_model.specs.declared.graph.Target.TheVariants.{Name}
use Rattle.kl_names.proofs.OwnLaws.{map-more, map-name}
use Rattle.kl_sym.specs.Leads.{named_target, target_for}
use Rattle.kl_sym.specs.Linkage.{linkage_of}
use Rattle.kl_sym.specs.declared.linkage.Linkage.{Linkage}
use Rattle.kl_sym.proofs.DynamicSteps.{no_linkage}
use Rattle.kl_sym.proofs.dynamic.name_targets.Goals as goal

pub loop-number-preserved : goal.loop-number-preserved
loop-number-preserved c =
    let kit = c.args.kit.now in let inputs = c.args.inputs.now in let n = c.loop-number.number in let index = c.args.numbering.now.index in
    let link = map-name (linkage_of kit inputs) index c.args.linkages.now n no_linkage [] c.requires.linkages c.loop-number-test.true in
    let below = link.0 in
    let defined : n < length c.args.definitions.now = (let many = ap length c.requires.definitions ∙ length-map index (definition kit inputs) in omega arith) in
    let definition_is = map-name (definition kit inputs) index c.args.definitions.now n None [] c.requires.definitions defined in
    let placed : n < length c.args.places.now = (let many = ap length c.requires.places ∙ length-map index (name_number kit inputs) in omega arith) in
    let place_is = map-name (name_number kit inputs) index c.args.places.now n 0 [] c.requires.places placed in
    let d = get_or c.args.definitions.now n None in
    let k = get_or c.args.places.now n 0 in
    let is : c.name_target.result ≡ named_target kit inputs (get_or index n []) =
    c.name_target.ensures ∙ (ap (λ (l : Linkage). target_for l.replaceable d l.importable (Name k)) link.1
    ∙ (ap (λ (d : Option Target). target_for (linkage_of kit inputs (get_or index n [])).replaceable d (linkage_of kit inputs (get_or index n [])).importable (Name k)) definition_is.1
    ∙ ap (λ (k : ℕ). target_for (linkage_of kit inputs (get_or index n [])).replaceable (definition kit inputs (get_or index n [])) (linkage_of kit inputs (get_or index n [])).importable (Name k)) place_is.1)) in
    rw (c.in_ok-push.ensures.items, c.loop-number.invariant, is) (sym (map-more (named_target kit inputs) index n [] below))
