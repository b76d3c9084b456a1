use Rattle.std.proofs.Common.{◌∙◌, []}
use Rattle.kl_write.proofs.FileEnds.{image_end}
use Rattle.kl_write.proofs.Spans.{class_span, dynamic_in_data, headers_long, zero}
use Rattle.kl_model.specs.Sizes.{page_of}
use Rattle.kl_write.proofs.size.image_size.Goals as goal

pub file_stop-requires : goal.file_stop-requires
file_stop-requires c = let x = c.requires.laid in record { areas = class_span c.args.kit.now [] c.args.graph.now x.0 x.1 c.args.placement.now x.2 c.requires.addresses }

pub returns : goal.returns
returns c = λ inputs gaps.
    let kit = c.args.kit.now in let g = c.args.graph.now in let p = c.args.placement.now in let x = c.requires.laid in
    let size = c.requires.headers ∙ headers_long kit [] g x.0 x.1 p x.2 c.requires.addresses in
    rw (c.file_stop.ensures, c.requires.headers)
    (image_end kit.kind (page_of kit g) p _ (zero kit [] g x.0 x.1 p x.2 c.requires.addresses) (class_span kit [] g x.0 x.1 p x.2 c.requires.addresses)
    (headers_long kit [] g x.0 x.1 p x.2 c.requires.addresses) (dynamic_in_data kit [] g x.0 x.1 p x.2 c.requires.addresses))
