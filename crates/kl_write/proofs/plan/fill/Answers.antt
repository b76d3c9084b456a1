use Rattle.std.proofs.Common.{◌∙◌}
use Rattle.kl_write.proofs.Filled.{filled, made_are}
use Rattle.kl_write.proofs.Spans.{dynamic_room, fields_inside, fini_span, gaps_span, got_room, init_span, pieces_span, short_pieces, stubs_room, tables_room, text_span}
use Rattle.kl_write.proofs.plan.fill.Goals as goal

pub pad-requires-clause-text : goal.pad-requires-clause-text
pad-requires-clause-text c =
    let x = c.args.plan.now in text_span x.kit.now c.args.inputs.now x.graph.now x.gaps c.requires.laid.0 x.placement.now c.requires.laid.1 c.requires.addresses

pub pad-requires-clause-init : goal.pad-requires-clause-init
pad-requires-clause-init c =
    let x = c.args.plan.now in init_span x.kit.now c.args.inputs.now x.graph.now x.gaps c.requires.laid.0 x.placement.now c.requires.laid.1 c.requires.addresses

pub pad-requires-clause-fini : goal.pad-requires-clause-fini
pad-requires-clause-fini c =
    let x = c.args.plan.now in fini_span x.kit.now c.args.inputs.now x.graph.now x.gaps c.requires.laid.0 x.placement.now c.requires.laid.1 c.requires.addresses

pub write_pieces-requires-clause-short : goal.write_pieces-requires-clause-short
write_pieces-requires-clause-short c =
    let x = c.args.plan.now in short_pieces x.kit.now c.args.inputs.now x.graph.now x.gaps c.requires.laid.0 x.placement.now c.requires.laid.1 c.requires.addresses

pub write_pieces-requires-clause-span : goal.write_pieces-requires-clause-span
write_pieces-requires-clause-span c =
    let x = c.args.plan.now in pieces_span x.kit.now c.args.inputs.now x.graph.now x.gaps c.requires.laid.0 x.placement.now c.requires.laid.1 c.requires.addresses

pub pad_gaps-requires-clause-span : goal.pad_gaps-requires-clause-span
pad_gaps-requires-clause-span c =
    let x = c.args.plan.now in gaps_span x.kit.now c.args.inputs.now x.graph.now x.gaps c.requires.laid.0 x.placement.now c.requires.laid.1 c.requires.addresses

pub write_made-requires-clause-stubs : goal.write_made-requires-clause-stubs
write_made-requires-clause-stubs c =
    let x = c.args.plan.now in
    rw (c.requires.stubs, c.requires.sizes.stubs) (stubs_room x.kit.now c.args.inputs.now x.graph.now x.gaps c.requires.laid.0 x.placement.now c.requires.laid.1 c.requires.addresses)

pub write_made-requires-clause-tables : goal.write_made-requires-clause-tables
write_made-requires-clause-tables c =
    let x = c.args.plan.now in
    rw (c.requires.tables, c.requires.sizes.tables) (tables_room x.kit.now c.args.inputs.now x.graph.now x.gaps c.requires.laid.0 x.placement.now c.requires.laid.1 c.requires.addresses)

pub write_made-requires-clause-got : goal.write_made-requires-clause-got
write_made-requires-clause-got c =
    let x = c.args.plan.now in
    rw (c.requires.got, c.requires.sizes.got) (got_room x.kit.now c.args.inputs.now x.graph.now x.gaps c.requires.laid.0 x.placement.now c.requires.laid.1 c.requires.addresses)

pub write_made-requires-clause-dynamic : goal.write_made-requires-clause-dynamic
write_made-requires-clause-dynamic c =
    let x = c.args.plan.now in
    rw (c.requires.dynamic, c.requires.sizes.dynamic) (dynamic_room x.kit.now c.args.inputs.now x.graph.now x.gaps c.requires.laid.0 x.placement.now c.requires.laid.1 c.requires.addresses)

pub write_fields-requires-clause-fields : goal.write_fields-requires-clause-fields
write_fields-requires-clause-fields c =
    let x = c.args.plan.now in fields_inside x.kit.now c.args.inputs.now x.graph.now x.gaps c.requires.laid.0 x.placement.now c.requires.laid.1 c.requires.addresses

pub write_fields-requires-clause-span : goal.write_fields-requires-clause-span
write_fields-requires-clause-span c =
    let x = c.args.plan.now in pieces_span x.kit.now c.args.inputs.now x.graph.now x.gaps c.requires.laid.0 x.placement.now c.requires.laid.1 c.requires.addresses

pub returns-clause-bytes : goal.returns-clause-bytes
returns-clause-bytes c =
    let x = c.args.plan.now in
    filled x.kit.now c.args.inputs.now x.graph.now x.gaps c.requires.laid.0 x.placement.now c.requires.laid.1 c.requires.addresses c.requires.sizes
    c.args.out.now c.pad.new.out c.write_pieces.new.out c.pad_gaps.new.out c.write_made.new.out c.write_fields.new.out c.put_window.new.out c.args.at _ _ _
    c.pad.ensures c.write_pieces.ensures c.pad_gaps.ensures c.write_made.ensures c.write_fields.ensures c.put_window.ensures
    (c.deref-2.ensures.value ∙ c.requires.head) (made_are x.kit.now c.args.inputs.now x.graph.now x.placement.now _ _ _ _ c.requires.stubs c.requires.tables c.requires.got c.requires.dynamic)
    (c.deref.ensures.value ∙ c.requires.values)
