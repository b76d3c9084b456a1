-- How the kernel's job ends before anything is installed.
use Rattle.std.proofs.Common.{◌≡◌, ℕ, List, refl, ap, ◌∙◌, inl, inr, ◌⊎◌}
use Rattle.std.specs.Prelude.{Option, Some, None, Result, Ok, Err, IfOk}
use Rattle.std.specs.Option.{ForSome}
use Rattle.kl_store.specs.Calls.{Stays}
use Rattle.kl_store.specs.Meaning.{Meaning}
use Rattle.kl_store.specs.Names.{Names}
use Rattle.kl_store.specs.Outside.{Blocks, GivesNone}
use Rattle.kl_store.proofs.Moments.{told_stays}
use Rattle.kl_link.specs.Links.{AreLinked, report_of}
use Rattle.kl_link.specs.declared.link.LinkedKit.{LinkedKit}
use Rattle.kl_link.specs.declared.report.Report.{Report}
use Rattle.kl_model.specs.declared.kit.Kit.{Kit}
use Rattle.kl_model.specs.declared.kit.KitKind.{KitKind}
use Rattle.kl_model.specs.declared.kit.KitKind.TheVariants.{Kernel, Library}
use Rattle.kl_model.specs.declared.object.Input.{Input}
use Rattle.kl_batch.specs.Batches.{Plan}
use Rattle.kl_batch.specs.declared.names.TheConstants.{KERNEL}
use Rattle.kl_jobs.specs.Kernels.{IsKernelLink, kernel_early, kernel_late}
use Rattle.kl_jobs.specs.Links.{IsKitOf}
use Rattle.kl_jobs.specs.Reading.{inputs_in, kind_refusal, kit_in, kit_order, text_refusal}
use Rattle.kl_jobs.specs.Refusals.{EndsUnder, Refuses, RefusesJob, kit_refusal, late_refusal}
use Rattle.kl_jobs.specs.Seeds.{IsSeed}
use Rattle.kl_jobs.specs.Start.{kernel_refusal}
use Rattle.kl_jobs.specs.declared.cause.Cause.{Cause}
use Rattle.kl_jobs.specs.declared.cause.Cause.TheVariants.{NoMemory}
use Rattle.kl_jobs.specs.declared.names.TheConstants.{KERNEL_KIT}
use Rattle.kl_jobs.proofs.JobEnds.{ends_linking}
use Rattle.kl_jobs.proofs.KernelChecks.{first, second}

-- a kit that isn't refused where a kernel's is wanted is a kernel's
pub kernel_wanted : (kind : KitKind) → kind_refusal (Some Kernel) kind ≡ None → kind ≡ Kernel
kernel_wanted Kernel e = refl
kernel_wanted Library e = cc

-- the kernel's kit text is what refuses the job next
abbrev kit_text_refusal : Names → Option Cause
kit_text_refusal m = text_refusal (Some Kernel) m KERNEL_KIT

early_is : (m : Names) → kernel_refusal m ≡ None → kernel_early m ≡ kit_text_refusal m
early_is m none = second (kernel_refusal m) (kit_text_refusal m) (kit_text_refusal m) none refl

module _ (given : Option (List ℕ)) (b0 b1 : Blocks) where
  ends_so : (m : Names) (end : Option Cause) → kernel_refusal m ≡ None → EndsUnder given b0 b1 (kit_text_refusal m) (kernel_late m) end → EndsUnder given b0 b1 (kernel_early m) (kernel_late m) end
  ends_so m end none u = record { seed = u.seed; drawn = u.drawn; none_early = early_is m none ∙ u.none_early; end_is = u.end_is }

  pub start_refuses : (before : Meaning) (c : Cause) → Refuses before kernel_refusal c → GivesNone b0 b1 → RefusesJob given b0 b1 before kernel_early kernel_late c
  start_refuses before c h none = λ m told. elim (h m told) [
    | inl outside ↦ inl outside
    | inr is ↦ inr (inl (record { stands = first (kernel_refusal m) (kit_text_refusal m) c is; undrawn = none }))
  ]

  module _ {before now : Meaning} (still : Stays before now) (none : ForSome before.names (λ m. kernel_refusal m ≡ None)) where
    pub kit_refuses : (c : Cause) → RefusesJob given b0 b1 now kit_text_refusal (λ m. late_refusal m KERNEL_KIT) c → RefusesJob given b0 b1 before kernel_early kernel_late c
    kit_refuses c h = λ m told. elim (h m (told_stays m still told)) [
      | inl outside ↦ inl outside
      | inr stands ↦ elim stands [
        | inl is ↦ inr (inl (record { stands = early_is m (none m told) ∙ is.stands; undrawn = is.undrawn }))
        | inr behind ↦ elim behind [
          | inl lacks ↦ inr (inr (inl (record { cause_is = lacks.cause_is; none_early = early_is m (none m told) ∙ lacks.none_early })))
          | inr under ↦ inr (inr (inr (ends_so m (Some c) (none m told) under)))
        ]
      ]
    ]

    module _ (kit : Kit) (inputs : List Input) (seed : List ℕ) (drawn : IsSeed given b0 b1 seed) (reads : ForSome now.names (λ m. IsKitOf (Some Kernel) m KERNEL_KIT kit inputs)) where
      pub link_ends : (end : Option Cause) → kit_refusal seed kit inputs ≡ end → ForSome before.names (λ m. EndsUnder given b0 b1 (kernel_early m) (kernel_late m) end)
      link_ends end is = λ m told.
          let at = reads m (told_stays m still told) in
          ends_so m end (none m told)
          (ends_linking given b0 b1 (Some Kernel) m KERNEL_KIT seed kit drawn at.kit_is at.text inputs end at.inputs_are at.lines is)

      pub link_refuses : (c : Cause) → (c ≡ NoMemory) ⊎ (kit_refusal seed kit inputs ≡ Some c) → RefusesJob given b0 b1 before kernel_early kernel_late c
      link_refuses c h = λ m told. elim h [ inl memory ↦ inl (inl memory) | inr is ↦ inr (inr (inr (link_ends (Some c) is m told))) ]

      abbrev plan : Plan
      plan = record { kit = kit; inputs = inputs; seed = seed }

      pub kernel_link : (image map : List ℕ) (report : Report) → kit.kind ≡ Kernel → kit.output ≡ KERNEL → AreLinked seed kit inputs image map → report ≡ report_of kit inputs image
          → IsKernelLink given b0 b1 before image map report
      kernel_link image map report kind output linked told = record {
        plan = plan;
        drawn = drawn;
        of_names = λ m names.
            let at = reads m (told_stays m still names) in
            let inputs_are : inputs ≡ inputs_in m KERNEL_KIT (kit_order (kit_in m KERNEL_KIT).inputs) = at.inputs_are ∙ ap (λ (k : Kit). inputs_in m KERNEL_KIT (kit_order k.inputs)) at.kit_is in
            ap (λ (k : Kit). record { kit = k; inputs = inputs; seed = seed }) at.kit_is
            ∙ ap (λ (xs : List Input). record { kit = kit_in m KERNEL_KIT; inputs = xs; seed = seed }) inputs_are;
        kernel = record { kind = kind; output = output };
        linked = linked;
        told = told;
      }

      pub kernel_linked : (result : Result LinkedKit Cause) → kit.kind ≡ Kernel → kit.output ≡ KERNEL → IfOk result (λ l. AreLinked seed kit inputs l.image.items l.map.items)
          → IfOk result (λ l. l.report ≡ report_of kit inputs l.image.items) → IfOk result (λ l. IsKernelLink given b0 b1 before l.image.items l.map.items l.report)
      kernel_linked (Ok l) kind output linked told = kernel_link l.image.items l.map.items l.report kind output linked told
      kernel_linked (Err c) kind output linked told = tt
