use Rattle.std.proofs.Common.{arith}
use Rattle.kl_dyn.proofs.TableRoom.{names_small}
use Rattle.kl_dyn.proofs.symbols.push_symbols.Goals as goal

pub push_all-requires-clause-small : goal.push_all-requires-clause-small
push_all-requires-clause-small c =
    let x = c.requires.laid in
    omega (arith, names_small x.0 c.args.graph.now x.1 c.args.placement.now x.2 x.3 c.requires.addresses)
