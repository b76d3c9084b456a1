use Rattle.std.proofs.Common.{◌<◌, ◌∙◌, [], length, get_or, ap, sym, arith}
use Rattle.std.specs.Prelude.{None}
use Rattle.std.specs.Option.{option_or}
use Rattle.std.proofs.lemmas.List.{length-map}
use Rattle.kl_model.specs.Names.{definition, edge_of, own_definition}
use Rattle.kl_names.proofs.OwnLaws.{map-more, map-name}
use Rattle.kl_names.proofs.edges.definitions.Goals as goal

pub loop-number-preserved : goal.loop-number-preserved
loop-number-preserved c =
    let kit = c.args.kit.now in let inputs = c.args.inputs.now in let n = c.loop-number.number in let index = c.args.numbering.now.index in
    let own = map-name (own_definition kit inputs) index c.args.own.now n None [] c.requires.own c.loop-number-test.true in
    let below = own.0 in
    let there : n < length c.args.edges.now = (let many = ap length c.requires.edges ∙ length-map index (edge_of kit) in omega arith) in
    let edge = map-name (edge_of kit) index c.args.edges.now n None [] c.requires.edges there in
    let both = c.or.ensures ∙ (ap (λ o. option_or o (get_or c.args.edges.now n None)) own.1 ∙ ap (option_or (own_definition kit inputs (get_or index n []))) edge.1) in
    rw (c.in_ok-push.ensures.items, c.loop-number.invariant, both) (sym (map-more (definition kit inputs) index n [] below))
