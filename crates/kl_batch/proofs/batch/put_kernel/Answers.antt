use Rattle.std.proofs.Common.{◌∙◌, refl, rules, [], ◌∷◌}
use Rattle.kl_store.proofs.KeptNames.{keeps_trans}
use Rattle.kl_base.specs.declared.class.Slot.TheVariants.{Kernel}
use Rattle.kl_install.specs.Installers.{batch_of}
use Rattle.kl_install.proofs.Named.{differs}
use Rattle.kl_batch.specs.Batches.{kernel_files}
use Rattle.kl_batch.specs.Together.{file}
use Rattle.kl_batch.specs.declared.names.TheConstants.{KERNEL, KERNEL_MAP, KERNEL_RECORD}
use Rattle.kl_batch.proofs.Placing.{commit_keeps, fails, free_disk, installs_at, staged_fails, staged_first, staged_next, stage_keeps}
use Rattle.kl_batch.proofs.Prefixes.{kernel_crash, kernel_done, kernel_stop}
use Rattle.kl_batch.proofs.batch.put_kernel.Goals as goal

pub returns-in_err-stage-clause-installs : goal.returns-in_err-stage-clause-installs
returns-in_err-stage-clause-installs g c =
    fails Kernel _ (refl, (refl, (refl, tt))) (free_disk (g.S.Store.meaning c.args.store.now) Kernel c.requires.free) (search rules) c.stage.ensures.quiet c.stage.ensures.files

pub returns-in_err-stage-2-clause-installs : goal.returns-in_err-stage-2-clause-installs
returns-in_err-stage-2-clause-installs g c =
    let one = staged_first KERNEL c.requires.none (search rules) c.in_ok-stage.ensures.staged c.stage.ensures.quiet in
    fails Kernel _ (refl, (refl, (refl, tt))) (free_disk (g.S.Store.meaning c.args.store.now) Kernel c.requires.free) (search rules)
    (staged_fails _ _ one c.stage-2.ensures.quiet) (keeps_trans c.stage.ensures.files c.stage-2.ensures.files)

pub returns-in_err-stage-3-clause-installs : goal.returns-in_err-stage-3-clause-installs
returns-in_err-stage-3-clause-installs g c =
    let one = staged_first KERNEL c.requires.none (search rules) c.in_ok-stage.ensures.staged c.stage.ensures.quiet in
    let two = staged_next (file KERNEL c.args.image.now ∷ []) KERNEL_RECORD (differs KERNEL_RECORD KERNEL refl, tt) (search rules) one c.in_ok-stage-2.ensures.staged c.stage-2.ensures.quiet in
    fails Kernel _ (refl, (refl, (refl, tt))) (free_disk (g.S.Store.meaning c.args.store.now) Kernel c.requires.free) (search rules)
    (staged_fails _ _ two c.stage-3.ensures.quiet) (keeps_trans c.stage.ensures.files (keeps_trans c.stage-2.ensures.files c.stage-3.ensures.files))

pub returns-clause-installs : goal.returns-clause-installs
returns-clause-installs g c =
    let one = staged_first KERNEL c.requires.none (search rules) c.in_ok-stage.ensures.staged c.stage.ensures.quiet in
    let two = staged_next (file KERNEL c.args.image.now ∷ []) KERNEL_RECORD (differs KERNEL_RECORD KERNEL refl, tt) (search rules) one c.in_ok-stage-2.ensures.staged c.stage-2.ensures.quiet in
    let three = staged_next (file KERNEL c.args.image.now ∷ file KERNEL_RECORD c.args.record_text.now ∷ []) KERNEL_MAP (differs KERNEL_MAP KERNEL refl, (differs KERNEL_MAP KERNEL_RECORD refl, tt)) (search rules)
    two c.in_ok-stage-3.ensures.staged c.stage-3.ensures.quiet in
    installs_at Kernel _ (batch_of c.stage-3.new.self) (c.stage-3.ensures.slot ∙ c.stage-2.ensures.slot ∙ c.stage.ensures.slot ∙ c.requires.slot) (refl, (refl, (refl, tt)))
    (free_disk (g.S.Store.meaning c.args.store.now) Kernel c.requires.free) three c.commit.ensures.commits

pub returns-in_err-stage-clause-crash : goal.returns-in_err-stage-clause-crash
returns-in_err-stage-clause-crash g c = λ p batch. kernel_crash p _ _ _ batch (free_disk (g.S.Store.meaning c.args.store.now) Kernel c.requires.free) (returns-in_err-stage-clause-installs g c)

pub returns-in_err-stage-2-clause-crash : goal.returns-in_err-stage-2-clause-crash
returns-in_err-stage-2-clause-crash g c = λ p batch. kernel_crash p _ _ _ batch (free_disk (g.S.Store.meaning c.args.store.now) Kernel c.requires.free) (returns-in_err-stage-2-clause-installs g c)

pub returns-in_err-stage-3-clause-crash : goal.returns-in_err-stage-3-clause-crash
returns-in_err-stage-3-clause-crash g c = λ p batch. kernel_crash p _ _ _ batch (free_disk (g.S.Store.meaning c.args.store.now) Kernel c.requires.free) (returns-in_err-stage-3-clause-installs g c)

pub returns-clause-crash : goal.returns-clause-crash
returns-clause-crash g c = λ p batch. kernel_crash p _ _ _ batch (free_disk (g.S.Store.meaning c.args.store.now) Kernel c.requires.free) (returns-clause-installs g c)

pub returns-in_err-stage-clause-stopped : goal.returns-in_err-stage-clause-stopped
returns-in_err-stage-clause-stopped g c = λ p batch. kernel_stop p _ _ _ batch (free_disk (g.S.Store.meaning c.args.store.now) Kernel c.requires.free) (returns-in_err-stage-clause-installs g c)

pub returns-in_err-stage-2-clause-stopped : goal.returns-in_err-stage-2-clause-stopped
returns-in_err-stage-2-clause-stopped g c = λ p batch. kernel_stop p _ _ _ batch (free_disk (g.S.Store.meaning c.args.store.now) Kernel c.requires.free) (returns-in_err-stage-2-clause-installs g c)

pub returns-in_err-stage-3-clause-stopped : goal.returns-in_err-stage-3-clause-stopped
returns-in_err-stage-3-clause-stopped g c = λ p batch. kernel_stop p _ _ _ batch (free_disk (g.S.Store.meaning c.args.store.now) Kernel c.requires.free) (returns-in_err-stage-3-clause-installs g c)

pub returns-clause-stopped : goal.returns-clause-stopped
returns-clause-stopped g c = λ p batch. kernel_stop p _ _ _ batch (free_disk (g.S.Store.meaning c.args.store.now) Kernel c.requires.free) (returns-clause-installs g c)

pub returns-clause-installed : goal.returns-clause-installed
returns-clause-installed g c = λ p batch. kernel_done p _ _ _ batch (free_disk (g.S.Store.meaning c.args.store.now) Kernel c.requires.free) (returns-clause-installs g c)

pub returns-in_err-stage-clause-others : goal.returns-in_err-stage-clause-others
returns-in_err-stage-clause-others g c = stage_keeps KERNEL (search rules) (λ n p. p.2.0.1) c.stage.ensures.others

pub returns-in_err-stage-2-clause-others : goal.returns-in_err-stage-2-clause-others
returns-in_err-stage-2-clause-others g c =
    keeps_trans (stage_keeps KERNEL (search rules) (λ n p. p.2.0.1) c.stage.ensures.others) (stage_keeps KERNEL_RECORD (search rules) (λ n p. p.2.1.0.1) c.stage-2.ensures.others)

pub returns-in_err-stage-3-clause-others : goal.returns-in_err-stage-3-clause-others
returns-in_err-stage-3-clause-others g c =
    keeps_trans (stage_keeps KERNEL (search rules) (λ n p. p.2.0.1) c.stage.ensures.others)
    (keeps_trans (stage_keeps KERNEL_RECORD (search rules) (λ n p. p.2.1.0.1) c.stage-2.ensures.others) (stage_keeps KERNEL_MAP (search rules) (λ n p. p.2.1.1.0.1) c.stage-3.ensures.others))

pub returns-clause-others : goal.returns-clause-others
returns-clause-others g c =
    let one = staged_first KERNEL c.requires.none (search rules) c.in_ok-stage.ensures.staged c.stage.ensures.quiet in
    let two = staged_next (file KERNEL c.args.image.now ∷ []) KERNEL_RECORD (differs KERNEL_RECORD KERNEL refl, tt) (search rules) one c.in_ok-stage-2.ensures.staged c.stage-2.ensures.quiet in
    let three = staged_next (file KERNEL c.args.image.now ∷ file KERNEL_RECORD c.args.record_text.now ∷ []) KERNEL_MAP (differs KERNEL_MAP KERNEL refl, (differs KERNEL_MAP KERNEL_RECORD refl, tt)) (search rules)
    two c.in_ok-stage-3.ensures.staged c.stage-3.ensures.quiet in
    keeps_trans (stage_keeps KERNEL (search rules) (λ n p. p.2.0.1) c.stage.ensures.others)
    (keeps_trans (stage_keeps KERNEL_RECORD (search rules) (λ n p. p.2.1.0.1) c.stage-2.ensures.others)
    (keeps_trans (stage_keeps KERNEL_MAP (search rules) (λ n p. p.2.1.1.0.1) c.stage-3.ensures.others)
    (commit_keeps Kernel (kernel_files c.args.image.now c.args.record_text.now c.args.map.now) (batch_of c.stage-3.new.self) (c.stage-3.ensures.slot ∙ c.stage-2.ensures.slot ∙ c.stage.ensures.slot ∙ c.requires.slot) three.names c.commit.ensures.others)))
