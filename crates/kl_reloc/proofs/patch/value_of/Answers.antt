use Rattle.std.proofs.Common.{arith}
use Rattle.kl_reloc.proofs.Rows.{field_width, field_width-small, narrow, row_fits}
use Rattle.kl_reloc.proofs.patch.value_of.Goals as goal

pub fits-requires : goal.fits-requires
fits-requires c =
    let row = c.row_of-row.result in narrow row.range row.number row.width (row_fits c.args.kind row c.row_of-row.ensures)

pub overflow_cast-result : goal.overflow_cast-result
overflow_cast-result c =
    let row = c.row_of-row.result in
    let few = field_width-small row.width (field_width row.range row.number row.width (row_fits c.args.kind row c.row_of-row.ensures)) in omega arith
