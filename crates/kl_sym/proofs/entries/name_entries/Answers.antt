use Rattle.std.proofs.Common.{◌<◌, ◌∙◌, [], length, get_or, sym, rules}
use Rattle.std.specs.Prelude.{slice_get}
use Rattle.kl_elf.specs.declared.abi.TheConstants.{STB_GLOBAL, STB_WEAK}
use Rattle.kl_model.specs.Dynamic.{dyn_name, dynamic_names}
use Rattle.kl_model.specs.Names.{own_definition}
use Rattle.kl_names.specs.Facts.{facts_of}
use Rattle.kl_names.proofs.CommonLaws.{map-at}
use Rattle.kl_names.proofs.NotedSteps.{get-inside, get-map}
use Rattle.kl_names.proofs.OwnLaws.{first-stands, map-more}
use Rattle.kl_sym.proofs.ShownLaws.{name-stands}
use Rattle.kl_sym.proofs.entries.name_entries.Goals as goal

pub index-requires : goal.index-requires
index-requires c =
    let kit = c.args.kit.now in let inputs = c.args.inputs.now in let index = c.args.names.now.numbering.index in
    let at = map-at (slice_get index) c.args.numbers.now (dynamic_names kit inputs) c.loop-number.number-index 0 [] c.requires.numbers c.loop-number-test.true in
    let inside : get_or c.args.numbers.now c.loop-number.number-index 0 < length c.args.names.now.notes.facts.items =
    rw c.requires.names.notes.facts (get-inside (facts_of kit inputs) index _ _ at.1) in
    search (rules, inside)

pub index-requires-in-loop-number : goal.index-requires-in-loop-number
index-requires-in-loop-number c =
    let kit = c.args.kit.now in let inputs = c.args.inputs.now in let index = c.args.names.now.numbering.index in
    let at = map-at (slice_get index) c.args.numbers.now (dynamic_names kit inputs) c.loop-number.number-index 0 [] c.requires.numbers c.loop-number-test.true in
    let inside : get_or c.args.numbers.now c.loop-number.number-index 0 < length c.args.names.now.own.items =
    rw c.requires.names.own (get-inside (own_definition kit inputs) index _ _ at.1) in
    search (rules, inside)

pub name_entry-requires-clause-first : goal.name_entry-requires-clause-first
name_entry-requires-clause-first c =
    let kit = c.args.kit.now in let inputs = c.args.inputs.now in let index = c.args.names.now.numbering.index in let k = c.loop-number.number-index in
    let at = map-at (slice_get index) c.args.numbers.now (dynamic_names kit inputs) k 0 [] c.requires.numbers c.loop-number-test.true in
    let fact = rw c.requires.names.notes.facts at c.index.ensures ∙ get-map (facts_of kit inputs) index (get_or c.args.numbers.now k 0) _ c.index.result.now at.1 in
    rw fact (name-stands inputs (get_or (dynamic_names kit inputs) k []))

pub name_entry-requires-clause-global : goal.name_entry-requires-clause-global
name_entry-requires-clause-global c =
    let kit = c.args.kit.now in let inputs = c.args.inputs.now in let index = c.args.names.now.numbering.index in let k = c.loop-number.number-index in
    let at = map-at (slice_get index) c.args.numbers.now (dynamic_names kit inputs) k 0 [] c.requires.numbers c.loop-number-test.true in
    let fact = rw c.requires.names.notes.facts at c.index.ensures ∙ get-map (facts_of kit inputs) index (get_or c.args.numbers.now k 0) _ c.index.result.now at.1 in
    rw fact (first-stands kit inputs STB_GLOBAL (get_or (dynamic_names kit inputs) k []))

pub name_entry-requires-clause-weak : goal.name_entry-requires-clause-weak
name_entry-requires-clause-weak c =
    let kit = c.args.kit.now in let inputs = c.args.inputs.now in let index = c.args.names.now.numbering.index in let k = c.loop-number.number-index in
    let at = map-at (slice_get index) c.args.numbers.now (dynamic_names kit inputs) k 0 [] c.requires.numbers c.loop-number-test.true in
    let fact = rw c.requires.names.notes.facts at c.index.ensures ∙ get-map (facts_of kit inputs) index (get_or c.args.numbers.now k 0) _ c.index.result.now at.1 in
    rw fact (first-stands kit inputs STB_WEAK (get_or (dynamic_names kit inputs) k []))

pub loop-number-preserved : goal.loop-number-preserved
loop-number-preserved c =
    let kit = c.args.kit.now in let inputs = c.args.inputs.now in let index = c.args.names.now.numbering.index in let k = c.loop-number.number-index in
    let name = get_or (dynamic_names kit inputs) k [] in
    let at = map-at (slice_get index) c.args.numbers.now (dynamic_names kit inputs) k 0 [] c.requires.numbers c.loop-number-test.true in
    let fact = rw c.requires.names.notes.facts at c.index.ensures ∙ get-map (facts_of kit inputs) index (get_or c.args.numbers.now k 0) name c.index.result.now at.1 in
    let own = rw c.requires.names.own at c.index-in-loop-number.ensures ∙ get-map (own_definition kit inputs) index (get_or c.args.numbers.now k 0) name c.index-in-loop-number.result.now at.1 in
    let is = c.name_entry.ensures kit name fact own in
    rw (c.in_ok-push.ensures.items, c.loop-number.invariant, is) (sym (map-more (dyn_name kit inputs) (dynamic_names kit inputs) k [] at.0))
