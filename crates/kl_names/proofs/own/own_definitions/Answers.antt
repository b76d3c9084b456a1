use Rattle.std.proofs.Common.{◌<◌, ◌∙◌, [], length, get_or, ap, sym, arith}
use Rattle.std.proofs.lemmas.List.{length-map}
use Rattle.kl_elf.specs.declared.abi.TheConstants.{STB_GLOBAL, STB_WEAK}
use Rattle.kl_model.specs.Names.{own_definition}
use Rattle.kl_names.specs.Definitions.{common_target}
use Rattle.kl_names.specs.Facts.{facts_of}
use Rattle.kl_names.proofs.OwnLaws.{first-stands, map-more, map-name, nothing_noted}
use Rattle.kl_names.proofs.TableAt.{length-tables}
use Rattle.kl_names.proofs.own.own_definitions.Goals as goal

pub own_definition-requires-clause-count : goal.own_definition-requires-clause-count
own_definition-requires-clause-count c = ap length c.requires.tables ∙ length-tables c.args.kit.now c.args.inputs.now

pub own_definition-requires-clause-global : goal.own_definition-requires-clause-global
own_definition-requires-clause-global c =
    let kit = c.args.kit.now in let inputs = c.args.inputs.now in let n = c.loop-number.number in
    let facts = c.deref-facts-items.ensures.value ∙ c.requires.notes.facts in
    let fact = map-name (facts_of kit inputs) c.args.numbering.now.index c.deref-facts-items.result.now n nothing_noted [] facts c.loop-number-test.true in
    rw fact.1 (first-stands kit inputs STB_GLOBAL (get_or c.args.numbering.now.index n []))

pub own_definition-requires-clause-weak : goal.own_definition-requires-clause-weak
own_definition-requires-clause-weak c =
    let kit = c.args.kit.now in let inputs = c.args.inputs.now in let n = c.loop-number.number in
    let facts = c.deref-facts-items.ensures.value ∙ c.requires.notes.facts in
    let fact = map-name (facts_of kit inputs) c.args.numbering.now.index c.deref-facts-items.result.now n nothing_noted [] facts c.loop-number-test.true in
    rw fact.1 (first-stands kit inputs STB_WEAK (get_or c.args.numbering.now.index n []))

pub loop-number-preserved : goal.loop-number-preserved
loop-number-preserved c =
    let kit = c.args.kit.now in let inputs = c.args.inputs.now in let n = c.loop-number.number in let index = c.args.numbering.now.index in
    let name = get_or index n [] in
    let facts = c.deref-facts-items.ensures.value ∙ c.requires.notes.facts in
    let fact = map-name (facts_of kit inputs) index c.deref-facts-items.result.now n nothing_noted [] facts c.loop-number-test.true in
    let there : n < length c.in_ok-places.places.items = (let many = ap length c.in_ok-places.ensures ∙ length-map index (common_target kit inputs) in let l = fact.0 in omega arith) in
    let place = map-name (common_target kit inputs) index c.in_ok-places.places.items n c.index.result.now [] c.in_ok-places.ensures there in
    let own = c.own_definition.ensures kit name c.requires.tables fact.1 (c.index.ensures ∙ place.1) in
    rw (c.in_ok-push.ensures.items, c.loop-number.invariant, own) (sym (map-more (own_definition kit inputs) index n [] fact.0))
