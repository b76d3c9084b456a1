use Rattle.std.proofs.Common.{◌≡◌, ◌<◌, ◌∙◌, [], length, get_or, map, ap, sym, rules, arith}
use Rattle.std.specs.Prelude.{replicate, slice_get}
use Rattle.std.proofs.lemmas.List.{length-map}
use Rattle.kl_model.specs.Dynamic.{dynamic_names}
use Rattle.kl_model.specs.Names.{Occurrence, occurrences}
use Rattle.kl_names.proofs.CommonLaws.{map-at}
use Rattle.kl_names.proofs.NotedSteps.{AreOnce, are-once, get-inside}
use Rattle.kl_sym.proofs.DynamicSteps.{dynamic-few, dynamic-once, placed-more, placed-none, placed_by}
use Rattle.kl_sym.proofs.dynamic.name_numbers.Goals as goal

pub loop-place-init : goal.loop-place-init
loop-place-init c =
    let many = sym (length-map c.names.result.now (λ k. k.now)) ∙ ap length c.names.ensures in
    let items : c.in_ok-places.places.items ≡ replicate (length c.names.result.now) 0 = search rules in
    items ∙ (ap (λ n. replicate n 0) many ∙ placed-none (dynamic_names c.args.kit.now c.args.inputs.now) c.args.numbering.now.index)

pub overflow_cast-place : goal.overflow_cast-place
overflow_cast-place c =
    let kit = c.args.kit.now in let inputs = c.args.inputs.now in
    let at = map-at (slice_get c.args.numbering.now.index) c.args.numbers.now (dynamic_names kit inputs) c.loop-place.place 0 [] c.requires.numbers c.loop-place-test.true in
    let below = at.0 in
    let few = dynamic-few kit inputs in
    let limit = c.requires.inputs.symbols in
    omega arith

pub index_mut-requires : goal.index_mut-requires
index_mut-requires c =
    let kit = c.args.kit.now in let inputs = c.args.inputs.now in let index = c.args.numbering.now.index in
    let at = map-at (slice_get index) c.args.numbers.now (dynamic_names kit inputs) c.loop-place.place 0 [] c.requires.numbers c.loop-place-test.true in
    let inside : get_or c.args.numbers.now c.loop-place.place 0 < length c.loop-place.places.items =
    rw c.loop-place.invariant (get-inside (placed_by (dynamic_names kit inputs) c.loop-place.place) index _ _ at.1) in
    search (rules, inside)

pub loop-place-preserved : goal.loop-place-preserved
loop-place-preserved c =
    let kit = c.args.kit.now in let inputs = c.args.inputs.now in let index = c.args.numbering.now.index in let k = c.loop-place.place in
    let at = map-at (slice_get index) c.args.numbers.now (dynamic_names kit inputs) k 0 [] c.requires.numbers c.loop-place-test.true in
    let once : AreOnce index = rw c.requires.numbered.once (are-once (map (λ (o : Occurrence). o.name) (occurrences inputs))) in
    rw c.loop-place.invariant (placed-more (dynamic_names kit inputs) index k (get_or c.args.numbers.now k 0) [] once (dynamic-once kit inputs) at.0 at.1)
