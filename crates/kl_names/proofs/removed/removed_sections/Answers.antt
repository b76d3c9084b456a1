use Rattle.std.proofs.Common.{◌∷◌, [], refl}
use Rattle.kl_model.specs.Kept.{no_input}
use Rattle.kl_model.proofs.Each.{each_more}
use Rattle.kl_names.specs.Removed.{repeated_table}
use Rattle.kl_names.proofs.removed.removed_sections.Goals as goal

pub loop-i-preserved : goal.loop-i-preserved
loop-i-preserved c = record {
  tables =
      let more = each_more (λ i x. repeated_table c.args.inputs.now i ∷ []) c.args.inputs.now c.loop-i.i no_input c.loop-i-test.true in
      rw (more, c.in_ok-push.ensures.items, c.loop-i.invariant.tables, c.in_ok-removed_of.ensures.removed) refl;
  sees = c.in_ok-removed_of.ensures.seen;
}
