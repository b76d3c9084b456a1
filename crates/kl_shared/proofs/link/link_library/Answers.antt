use Rattle.std.proofs.Common.{◌∙◌, ap, inl, inr}
use Rattle.std.specs.Prelude.{None}
use Rattle.std.proofs.lemmas.Result.{err_from_is_err_and}
use Rattle.kl_layout.specs.Spans.{as_link_fault}
use Rattle.kl_steps.proofs.LinkFaults.{first_of_names}
use Rattle.kl_steps.proofs.LinkSteps.{addresses, few_placed, graph_order, laid_kit, none_stands, range_is, sources, span_is}
use Rattle.kl_steps.proofs.RoomyKits.{roomy_err}
use Rattle.kl_shared.proofs.LibraryCarries.{carries_kit, texts}
use Rattle.kl_shared.proofs.link.link_library.Goals as goal

pub returns-in_err-graph-clause-err : goal.returns-in_err-graph-clause-err
returns-in_err-graph-clause-err c =
    let r = err_from_is_err_and c.from_residual.result c.from_residual.ensures.1 in
    rw (r.1, r.2) (elim c.in_err-graph.ensures.err [
      | inl a ↦ inl a
      | inr e ↦ inr (first_of_names c.args.kit.now c.args.inputs.now None c.args.order.now _ e)
    ])

pub place-requires-clause-order : goal.place-requires-clause-order
place-requires-clause-order c = let q = c.requires in graph_order c.args.kit.now c.args.inputs.now None c.args.order.now q.kit q.inputs q.order c.in_ok-graph.graph c.in_ok-graph.ensures.ok c.in_ok-graph.ensures.graph

pub returns-in_err-placement-clause-err : goal.returns-in_err-placement-clause-err
returns-in_err-placement-clause-err c =
    let q = c.requires in
    let r = err_from_is_err_and c.from_residual-in_err-placement.result c.from_residual-in_err-placement.ensures.1 in
    rw (r.1, r.2) (elim c.in_err-placement.ensures.err [
      | inl a ↦ inl (ap as_link_fault a)
      | inr e ↦ inr (span_is c.args.kit.now c.args.inputs.now None c.args.order.now q.kit q.inputs q.order c.in_ok-graph.graph c.in_ok-graph.ensures.ok c.in_ok-graph.ensures.graph
          c.table_sizes-made.result c.table_sizes-made.ensures.sizes c.in_ok-graph.ensures.sound _ e)
    ])

pub library_image-requires-clause-laid : goal.library_image-requires-clause-laid
library_image-requires-clause-laid c =
    let q = c.requires in let p = c.in_ok-placement.ensures in (
      c.args.order.now,
      laid_kit c.args.kit.now c.args.inputs.now None c.args.order.now q.kit q.inputs q.order c.in_ok-graph.graph c.in_ok-graph.ensures.ok c.in_ok-graph.ensures.graph
          c.table_sizes-made.result c.table_sizes-made.ensures.sizes c.in_ok-placement.placement p.laid p.names p.placed p.small,
    )

pub library_image-requires-clause-addresses : goal.library_image-requires-clause-addresses
library_image-requires-clause-addresses c =
    let q = c.requires in let p = c.in_ok-placement.ensures in
    addresses c.args.kit.now c.args.inputs.now None c.args.order.now q.kit q.inputs q.order c.in_ok-graph.graph c.in_ok-graph.ensures.ok c.in_ok-graph.ensures.graph
    c.table_sizes-made.result c.table_sizes-made.ensures.sizes c.in_ok-placement.placement p.laid p.names p.placed p.small

pub library_image-requires-clause-sources : goal.library_image-requires-clause-sources
library_image-requires-clause-sources c = let q = c.requires in sources c.args.kit.now c.args.inputs.now None c.args.order.now q.kit q.inputs q.order c.in_ok-graph.graph c.in_ok-graph.ensures.ok c.in_ok-graph.ensures.graph

pub library_image-requires-clause-texts : goal.library_image-requires-clause-texts
library_image-requires-clause-texts c =
    let q = c.requires in
    texts c.args.kit.now c.args.inputs.now c.args.order.now q.kit q.library q.inputs q.order c.in_ok-graph.graph c.in_ok-graph.ensures.ok

pub returns-in_err-image-clause-err : goal.returns-in_err-image-clause-err
returns-in_err-image-clause-err c =
    let q = c.requires in let p = c.in_ok-placement.ensures in
    let r = err_from_is_err_and c.from_residual-in_err-image.result c.from_residual-in_err-image.ensures.1 in
    rw (r.1, r.2) (elim c.in_err-image.ensures.err [
      | inl a ↦ inl a
      | inr e ↦ inr (range_is c.args.kit.now c.args.inputs.now None c.args.order.now q.kit q.inputs q.order c.in_ok-graph.graph c.in_ok-graph.ensures.ok c.in_ok-graph.ensures.graph
          c.table_sizes-made.result c.table_sizes-made.ensures.sizes c.in_ok-placement.placement p.laid p.names p.placed p.small c.in_ok-graph.ensures.sound ∙ e)
    ])

pub returns-clause-ok : goal.returns-clause-ok
returns-clause-ok c =
    let q = c.requires in let p = c.in_ok-placement.ensures in
    carries_kit c.args.kit.now c.args.inputs.now c.args.order.now q.kit q.library q.inputs q.order c.in_ok-graph.graph c.in_ok-graph.ensures.ok c.in_ok-placement.placement
    (laid_kit c.args.kit.now c.args.inputs.now None c.args.order.now q.kit q.inputs q.order c.in_ok-graph.graph c.in_ok-graph.ensures.ok c.in_ok-graph.ensures.graph
    c.table_sizes-made.result c.table_sizes-made.ensures.sizes c.in_ok-placement.placement p.laid p.names p.placed p.small)
    (addresses c.args.kit.now c.args.inputs.now None c.args.order.now q.kit q.inputs q.order c.in_ok-graph.graph c.in_ok-graph.ensures.ok c.in_ok-graph.ensures.graph
    c.table_sizes-made.result c.table_sizes-made.ensures.sizes c.in_ok-placement.placement p.laid p.names p.placed p.small)
    c.in_ok-graph.ensures.sound c.in_ok-image.ensures.sound c.in_ok-image.image.items c.in_ok-image.ensures.image

pub returns-clause-few : goal.returns-clause-few
returns-clause-few c =
    let q = c.requires in let p = c.in_ok-placement.ensures in
    few_placed c.args.kit.now c.args.inputs.now None c.args.order.now q.kit q.inputs q.order c.in_ok-graph.graph c.in_ok-graph.ensures.ok c.in_ok-graph.ensures.graph
    c.table_sizes-made.result c.table_sizes-made.ensures.sizes c.in_ok-placement.placement p.laid p.names p.placed p.small

pub returns-clause-sound : goal.returns-clause-sound
returns-clause-sound c =
    let q = c.requires in let p = c.in_ok-placement.ensures in
    none_stands c.args.kit.now c.args.inputs.now None c.args.order.now q.kit q.inputs q.order c.in_ok-graph.graph c.in_ok-graph.ensures.ok c.in_ok-graph.ensures.graph
    c.table_sizes-made.result c.table_sizes-made.ensures.sizes c.in_ok-placement.placement p.laid p.names p.placed p.small c.in_ok-graph.ensures.sound c.in_ok-image.ensures.sound

pub returns-in_err-graph-clause-roomy : goal.returns-in_err-graph-clause-roomy
returns-in_err-graph-clause-roomy c = let q = c.requires in roomy_err c.args.kit.now c.args.inputs.now None c.args.order.now q.kit q.inputs tt q.order _ (returns-in_err-graph-clause-err c)

pub returns-in_err-placement-clause-roomy : goal.returns-in_err-placement-clause-roomy
returns-in_err-placement-clause-roomy c = let q = c.requires in roomy_err c.args.kit.now c.args.inputs.now None c.args.order.now q.kit q.inputs tt q.order _ (returns-in_err-placement-clause-err c)

pub returns-in_err-image-clause-roomy : goal.returns-in_err-image-clause-roomy
returns-in_err-image-clause-roomy c = let q = c.requires in roomy_err c.args.kit.now c.args.inputs.now None c.args.order.now q.kit q.inputs tt q.order _ (returns-in_err-image-clause-err c)
