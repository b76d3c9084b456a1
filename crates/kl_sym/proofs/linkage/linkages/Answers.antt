use Rattle.std.proofs.Common.{◌∙◌, [], get_or, sym, false}
use Rattle.kl_model.specs.Kits.{may_export}
use Rattle.kl_model.specs.Names.{definition, own_definition}
use Rattle.kl_model.specs.declared.kit.KitKind.TheVariants.{Library}
use Rattle.kl_names.specs.Facts.{facts_of}
use Rattle.kl_names.proofs.NotedSteps.{get-map}
use Rattle.kl_names.proofs.OwnLaws.{map-more, map-name}
use Rattle.kl_sym.specs.Linkage.{linkage_of}
use Rattle.kl_sym.proofs.DynamicSteps.{there}
use Rattle.kl_sym.proofs.linkage.linkages.Goals as goal

pub loop-number-preserved : goal.loop-number-preserved
loop-number-preserved c =
    let kit = c.args.kit.now in let inputs = c.args.inputs.now in let index = c.args.names.now.numbering.index in let n = c.loop-number.number in
    let name = get_or index n [] in
    let marks = c.deref-may_export-items.ensures.value ∙ c.in_ok-exportable.ensures in
    let may = map-name (may_export Library kit.exports) index c.deref-may_export-items.result.now n false [] marks c.loop-number-test.true in
    let at = there index n [] may.0 in
    let fact = rw c.requires.names.notes.facts at c.index.ensures ∙ get-map (facts_of kit inputs) index n name c.index.result.now at in
    let own = rw c.requires.names.own at c.index-in-loop-number.ensures ∙ get-map (own_definition kit inputs) index n name c.index-in-loop-number.result.now at in
    let defined = rw c.requires.names.definitions at c.index-in-loop-number-2.ensures ∙ get-map (definition kit inputs) index n name c.index-in-loop-number-2.result.now at in
    let is = c.name_linkage.ensures inputs name may.1 fact own defined in
    rw (c.in_ok-push.ensures.items, c.loop-number.invariant, is) (sym (map-more (linkage_of kit inputs) index n [] may.0))
