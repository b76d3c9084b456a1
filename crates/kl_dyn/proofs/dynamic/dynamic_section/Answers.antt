use Rattle.std.proofs.Common.{◌≡◌, ◌∙◌, [], ap, arith}
use Rattle.std.specs.Prelude.{None}
use Rattle.kl_model.specs.Sizes.{made_for, made_of, tables_of}
use Rattle.kl_write.proofs.Spans.{tables_room}
use Rattle.kl_dyn.proofs.dynamic.dynamic_section.Goals as goal

pub dynamic_entries-requires-clause-room : goal.dynamic_entries-requires-clause-room
dynamic_entries-requires-clause-room c =
    let kit = c.args.kit.now in let g = c.args.graph.now in let p = c.args.placement.now in
    let x = c.requires.laid in
    let size : (made_of kit g).tables ≡ (tables_of kit g).stop = ap (λ k. (made_for k kit g).tables) c.requires.library in
    let room = (tables_room kit [] g None x.0 p x.1 c.requires.addresses).ends in
    let base = x.1.laid.base ∙ x.1.origin c.requires.library in
    omega (arith, size, room, base)
