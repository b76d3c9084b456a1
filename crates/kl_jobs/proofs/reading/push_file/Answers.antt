use Rattle.std.proofs.Common.{arith}
use Rattle.kl_jobs.proofs.Readings.{bounds}
use Rattle.kl_jobs.proofs.reading.push_file.Goals as goal

pub overflow_cast-result : goal.overflow_cast-result
overflow_cast-result c =
    let t = c.args.totals.now in
    let w = bounds c.args.inputs.now.items t.inputs t.bytes t.sections t.symbols t.fields c.requires.counts c.requires.within in omega (arith, w.0)
