use Rattle.std.proofs.Common.{[]}
use Rattle.kl_write.proofs.Spans.{base_fits, class_span, dynamic_span, entry_placed, few_phdrs_16, page_is, zero}
use Rattle.kl_write.proofs.head.headers.Goals as goal

pub header_bytes-requires-clause-areas : goal.header_bytes-requires-clause-areas
header_bytes-requires-clause-areas c = let x = c.requires.laid in class_span c.args.kit.now [] c.args.graph.now x.0 x.1 c.args.placement.now x.2 c.requires.addresses

pub header_bytes-requires-clause-dynamic : goal.header_bytes-requires-clause-dynamic
header_bytes-requires-clause-dynamic c = λ library. (let x = c.requires.laid in dynamic_span c.args.kit.now [] c.args.graph.now x.0 x.1 c.args.placement.now x.2 c.requires.addresses)

pub header_bytes-requires-clause-base : goal.header_bytes-requires-clause-base
header_bytes-requires-clause-base c = let x = c.requires.laid in base_fits c.args.kit.now [] c.args.graph.now x.0 x.1 c.args.placement.now x.2 c.requires.addresses

pub header_bytes-requires-clause-zero : goal.header_bytes-requires-clause-zero
header_bytes-requires-clause-zero c = let x = c.requires.laid in zero c.args.kit.now [] c.args.graph.now x.0 x.1 c.args.placement.now x.2 c.requires.addresses

pub header_bytes-requires-clause-page : goal.header_bytes-requires-clause-page
header_bytes-requires-clause-page c = rw c.requires.page (page_is c.args.kit.now c.args.graph.now)

pub header_bytes-requires-clause-entry : goal.header_bytes-requires-clause-entry
header_bytes-requires-clause-entry c = let x = c.requires.laid in entry_placed c.args.kit.now [] c.args.graph.now x.0 x.1 c.args.placement.now x.2 c.requires.addresses

pub header_bytes-requires-clause-few : goal.header_bytes-requires-clause-few
header_bytes-requires-clause-few c = let x = c.requires.laid in rw c.requires.page (few_phdrs_16 c.args.kit.now [] c.args.graph.now x.0 x.1 c.args.placement.now x.2 c.requires.addresses)
