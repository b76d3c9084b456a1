use Rattle.std.proofs.Common.{◌≡◌, ◌<◌, ◌∙◌, [], length, get_or, ap, sym, rules, arith}
use Rattle.std.specs.Prelude.{None, map, replicate, slice_get}
use Rattle.std.proofs.lemmas.List.{length-map}
use Rattle.kl_model.specs.Names.{common_names, kept_numbers, occurrences}
use Rattle.kl_names.proofs.CommonLaws.{commons-small, map-at}
use Rattle.kl_names.proofs.NotedSteps.{AreOnce, are-once, get-inside}
use Rattle.kl_names.proofs.OwnLaws.{common_names-le, common_names-once, kept-le, placed_by, placed-more, placed-none}
use Rattle.kl_names.proofs.own.common_targets.Goals as goal

pub loop-k-init : goal.loop-k-init
loop-k-init c =
    let kit = c.args.kit.now in let inputs = c.args.inputs.now in
    let many = sym (length-map c.names.result.now (λ k. k.now)) ∙ ap length c.names.ensures in
    let items : c.in_ok-targets.targets.items ≡ replicate (length c.names.result.now) None = search rules in
    items ∙ (ap (λ n. replicate n None) many ∙ placed-none (length (kept_numbers kit inputs)) (common_names kit inputs) c.args.numbering.now.index)

pub overflow_cast-k : goal.overflow_cast-k
overflow_cast-k c =
    let kit = c.args.kit.now in let inputs = c.args.inputs.now in
    let at = map-at (slice_get c.args.numbering.now.index) c.args.commons.now (common_names kit inputs) c.loop-k.k 0 [] c.requires.commons c.loop-k-test.true in
    let below = at.0 in
    let few = common_names-le kit inputs in
    let small = commons-small inputs c.requires.inputs.symbols in
    omega arith

pub overflow_add-kept : goal.overflow_add-kept
overflow_add-kept c =
    let kit = c.args.kit.now in let inputs = c.args.inputs.now in
    let at = map-at (slice_get c.args.numbering.now.index) c.args.commons.now (common_names kit inputs) c.loop-k.k 0 [] c.requires.commons c.loop-k-test.true in
    let below = at.0 in
    let few = common_names-le kit inputs in
    let small = commons-small inputs c.requires.inputs.symbols in
    let sections = kept-le kit inputs in
    let limit = c.requires.inputs.sections in
    let kept = c.requires.kept in
    omega arith

pub index_mut-requires : goal.index_mut-requires
index_mut-requires c =
    let kit = c.args.kit.now in let inputs = c.args.inputs.now in let index = c.args.numbering.now.index in
    let at = map-at (slice_get index) c.args.commons.now (common_names kit inputs) c.loop-k.k 0 [] c.requires.commons c.loop-k-test.true in
    let inside : get_or c.args.commons.now c.loop-k.k 0 < length c.loop-k.targets.items =
    rw c.loop-k.invariant (get-inside (placed_by (length (kept_numbers kit inputs)) (common_names kit inputs) c.loop-k.k) index _ _ at.1) in
    search (rules, inside)

pub loop-k-preserved : goal.loop-k-preserved
loop-k-preserved c =
    let kit = c.args.kit.now in let inputs = c.args.inputs.now in let index = c.args.numbering.now.index in let k = c.loop-k.k in
    let at = map-at (slice_get index) c.args.commons.now (common_names kit inputs) k 0 [] c.requires.commons c.loop-k-test.true in
    let once : AreOnce index = rw c.requires.numbered.once (are-once (map (λ o. o.name) (occurrences inputs))) in
    rw (c.loop-k.invariant, c.requires.kept)
    (placed-more (length (kept_numbers kit inputs)) (common_names kit inputs) index k (get_or c.args.commons.now k 0) [] once (common_names-once kit inputs) at.0 at.1)
