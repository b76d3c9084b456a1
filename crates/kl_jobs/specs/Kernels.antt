-- The kernel's job: its batch, what it leaves where it is done, and what a stop in it leaves.
use Rattle.std.specs.Prelude.{ℕ, ◌≡◌, ◌≢◌, List, [], ◌∷◌, Option, Some}
use Rattle.std.specs.Option.{ForSome, option_or}
use Rattle.std.specs.FinMap.{get}
use Rattle.kl_base.specs.declared.class.Slot.{Slot}
use Rattle.kl_base.specs.declared.class.Slot.TheVariants as slot
use Rattle.kl_store.specs.Disk.{names_now}
use Rattle.kl_store.specs.Images.{IsSettledAt}
use Rattle.kl_store.specs.Meaning.{Meaning}
use Rattle.kl_store.specs.Names.{Names}
use Rattle.kl_store.specs.Outside.{Blocks}
use Rattle.kl_intent.specs.IntentText.{slot_name}
use Rattle.kl_install.specs.After.{after, temp_name}
use Rattle.kl_model.specs.declared.kit.KitKind.TheVariants.{Kernel}
use Rattle.kl_link.specs.Links.{AreLinked, report_of}
use Rattle.kl_link.specs.declared.report.Report.{Report}
use Rattle.kl_batch.specs.Batches.{IsKernelPlan, IsMatched, MayLeave, Plan, Reached}
use Rattle.kl_batch.specs.declared.names.TheConstants.{KERNEL, KERNEL_MAP, KERNEL_RECORD}
use Rattle.kl_jobs.specs.Reading.{inputs_in, kit_in, kit_order, text_refusal}
use Rattle.kl_jobs.specs.Refusals.{late_refusal}
use Rattle.kl_jobs.specs.Seeds.{IsSeed}
use Rattle.kl_jobs.specs.Start.{kernel_refusal}
use Rattle.kl_jobs.specs.declared.cause.Cause.{Cause}
use Rattle.kl_jobs.specs.declared.names.TheConstants.{KERNEL_KIT}

-- THE FIRST REFUSAL of the kernel's job before a seed is asked for: of a pending batch, of the kernel and its record, of the kit text;
-- and behind that, under a seed
abbrev pub kernel_early : Names → Option Cause
kernel_early m = option_or (kernel_refusal m) (text_refusal (Some Kernel) m KERNEL_KIT)

abbrev pub kernel_late : Names → List ℕ → Option Cause
kernel_late m seed = late_refusal m KERNEL_KIT seed

-- THE PLAN of the kernel: its kit and that kit's inputs, as these names have them, and the seed
abbrev pub kernel_plan : Names → List ℕ → Plan
kernel_plan m seed = record {
  kit = kit_in m KERNEL_KIT;
  inputs = inputs_in m KERNEL_KIT (kit_order (kit_in m KERNEL_KIT).inputs);
  seed = seed;
}

-- THE BATCHES OF THE KERNEL'S JOB on these names, under a seed: one
abbrev pub kernel_batches : Names → List ℕ → List Plan
kernel_batches m seed = kernel_plan m seed ∷ []

-- a kernel that is linked under the seed that was used, and what is told of its image; where the store tells its names the plan is theirs
pub record IsKernelLink (given : Option (List ℕ)) (b0 b1 : Blocks) (before : Meaning) (image map : List ℕ) (report : Report) : Type 0 where
  pub plan : Plan
  pub drawn : IsSeed given b0 b1 plan.seed
  pub of_names : ForSome before.names (λ m. plan ≡ kernel_plan m plan.seed)
  pub kernel : IsKernelPlan plan
  pub linked : AreLinked plan.seed plan.kit plan.inputs image map
  pub told : report ≡ report_of plan.kit plan.inputs image

-- AFTER THE JOB all its batches are installed: the kernel, its record and its map are of the kit under the seed, and this is what is told
-- of the image. All other names but scratch names hold what they held.
pub record IsRelinked (seed : List ℕ) (report : Report) (m n : Names) : Type 0 where
  pub image : List ℕ
  pub reached : Reached m (kernel_batches m seed) n
  pub kernel : get n KERNEL ≡ Some image
  pub told : report ≡ report_of (kernel_plan m seed).kit (kernel_plan m seed).inputs image

-- a kernel that was relinked under the seed that was used, stable on the disk where the store tells it
pub record RelinksUnder (given : Option (List ℕ)) (b0 b1 : Blocks) (before now : Meaning) (report : Report) : Type 0 where
  pub seed : List ℕ
  pub drawn : IsSeed given b0 b1 seed
  pub relinked : ForSome before.disk (λ d. IsSettledAt now.disk (IsRelinked seed report (names_now d)))

-- WHAT A STOP LEAVES OF A JOB that has these batches under a seed: some first ones of them under the seed that it used, once its slot is
-- recovered; and a kernel that matched its record at the job's start matches it then.
pub record JobMayLeave (slot : Slot) (given : Option (List ℕ)) (b0 b1 : Blocks) (batches : List ℕ → List Plan) (m x : Names) : Type 0 where
  pub seed : List ℕ
  pub drawn : IsSeed given b0 b1 seed
  pub stopped : MayLeave slot (batches seed) m x
  pub matched : IsMatched m → IsMatched (after slot x)

abbrev pub KernelMayLeave : Option (List ℕ) → Blocks → Blocks → Names → Names → Type 0
KernelMayLeave given b0 b1 m x = JobMayLeave slot.Kernel given b0 b1 (kernel_batches m) m x

-- the name is neither the kernel's slot nor one of its batch's files, nor a temporary of these
abbrev pub IsNoTargetOf : List ℕ → List ℕ → Type 0
IsNoTargetOf target n = (n ≢ target) × (n ≢ temp_name target)

abbrev pub IsNoKernelFile : List ℕ → Type 0
IsNoKernelFile n = IsNoTargetOf (slot_name slot.Kernel) n × IsNoTargetOf KERNEL n × IsNoTargetOf KERNEL_RECORD n × IsNoTargetOf KERNEL_MAP n
