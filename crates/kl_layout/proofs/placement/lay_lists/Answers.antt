use Rattle.std.proofs.Common.{◌≡◌, ◌+◌, length, ap, arith}
use Rattle.kl_layout.proofs.placement.lay_lists.Goals as goal

pub lay_classes-requires-clause-parts : goal.lay_classes-requires-clause-parts
lay_classes-requires-clause-parts c =
    let now = ap length c.deref_mut.ensures.value in
    let pieces = ap length c.items.ensures in
    let long : length c.deref_mut.result.now ≡ 19 + length c.args.graph.now.pieces = omega (arith, now, pieces, c.in_ok-addresses.ensures.len, c.in_ok-addresses.addresses.ok.0) in
    λ k. rw long (c.requires.parts k)
