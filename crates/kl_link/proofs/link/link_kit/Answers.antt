use Rattle.std.proofs.Common.{◌≡◌, ◌-◌, ◌∙◌, length, arith}
use Rattle.std.specs.Option.{option_copied}
use Rattle.kl_model.specs.Graphs.{graph}
use Rattle.kl_link.proofs.Counts.{placed-count, same-report}
use Rattle.kl_link.proofs.link.link_kit.Goals as goal

pub report-report-requires-clause-gaps : goal.report-report-requires-clause-gaps
report-report-requires-clause-gaps c =
    let count = placed-count c.in_ok-linked.linked.placement (graph c.args.kit.now c.args.inputs.now) (option_copied c.as_ref-gaps.result) c.in_ok-linked.ensures.ok.names in
    let gaps = c.count_gaps.ensures in
    omega (arith, count, gaps)

pub returns-clause-told : goal.returns-clause-told
returns-clause-told c =
    let g = graph c.args.kit.now c.args.inputs.now in
    let linked = c.in_ok-linked.linked in
    let count = placed-count linked.placement g (option_copied c.as_ref-gaps.result) c.in_ok-linked.ensures.ok.names in
    let gaps = c.count_gaps.ensures in
    let pieces : length linked.placement.pieces - c.count_gaps.result ≡ length g.pieces = omega (arith, count, gaps) in
    c.report-report.ensures ∙ same-report _ _ _ _ (length linked.image.items) _ pieces c.in_ok-linked.ensures.fields
