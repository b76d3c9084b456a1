use Rattle.std.proofs.Common.{◌∙◌, ap, get_or}
use Rattle.kl_model.specs.declared.graph.Target.TheVariants.{Place}
use Rattle.kl_got.specs.Numbered.{with_target}
use Rattle.kl_got.proofs.Walked.{target_more}
use Rattle.kl_got.proofs.index.SlotIndex.of.Goals as goal

pub loop-target-preserved : goal.loop-target-preserved
loop-target-preserved c =
    let ts = c.args.targets.now in
    let i = c.loop-target.target-index in
    c.in_ok-number.ensures.targets
    ∙ (ap (λ l. with_target l (get_or ts i (Place 0 0))) c.loop-target.invariant ∙ target_more ts i (Place 0 0) c.requires.apart c.loop-target-test.true)
