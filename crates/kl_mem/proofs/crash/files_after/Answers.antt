use Rattle.std.proofs.Common.{◌≡◌, ◌++◌, ◌∷◌, [], sym, ap, ◌∙◌, take, List, ◌+◌}
use Rattle.std.proofs.lemmas.List.{take_more}
use Rattle.kl_store.specs.Disk.{names_now}
use Rattle.kl_mem.specs.declared.step.Step.{Step}
use Rattle.kl_mem.specs.Record.{disk_of, written}
use Rattle.kl_mem.proofs.Written.{names_more}
use Rattle.kl_mem.proofs.crash.files_after.Goals as goal

pub loop-step-preserved : goal.loop-step-preserved
loop-step-preserved c =
    let s = c.step-item.result in
    let more : take (c.loop-step.step-index + 1) c.args.steps.now ≡ take c.loop-step.step-index c.args.steps.now ++ s ∷ [] = take_more c.args.steps.now c.loop-step.step-index s c.loop-step-test.true ∙ ap (λ (t : Step). take c.loop-step.step-index c.args.steps.now ++ t ∷ []) (sym c.step-item.is) in
    record { now = c.in_ok-apply.ensures ∙ ap (written s) c.loop-step.invariant.now ∙ sym (ap (λ (l : List Step). names_now (disk_of l)) more ∙ names_more (take c.loop-step.step-index c.args.steps.now) s) }
