use Rattle.std.proofs.Common.{◌<◌, length}
use Rattle.kl_model.proofs.Each.{each_more}
use Rattle.kl_write.proofs.Shown.{shows-append}
use Rattle.kl_write.specs.Writes.{no_field, nth_value_write}
use Rattle.kl_write.proofs.numbers.write_fields.Goals as goal

pub loop-number-preserved : goal.loop-number-preserved
loop-number-preserved c =
    let g = c.args.graph.now in let p = c.args.placement.now in let n = c.loop-number.number in
    let less : n < length g.fields = rw c.items-number-end.ensures at c.loop-number-test.true in
    rw (each_more (nth_value_write c.args.kind g p c.args.values.now) g.fields n no_field less) (shows-append c.args.out.now c.loop-number.out c.write_field.new.out c.args.at _ _ c.loop-number.invariant c.write_field.ensures)
