-- What is known of all batches.
use Rattle.std.specs.Prelude.{ℕ, ◌⊎◌, List, [], ◌∷◌, ◌++◌}
use Rattle.std.specs.List.{AllByRecursion}
use Rattle.kl_base.specs.declared.class.Slot.{Slot}
use Rattle.kl_store.specs.Disk.{Disk, names_now}
use Rattle.kl_store.specs.Names.{Names}
use Rattle.kl_install.specs.After.{after}
use Rattle.kl_link.specs.Links.{AreLinked}
use Rattle.kl_batch.specs.Together.{AreAllOrNone, AreInPlace}
use Rattle.kl_batch.specs.Batches.{AreInstalled, HasTargets, IsKernelPlan, IsMatched, IsNext, IsNoTarget, IsRight, MayLeave, Plan, files_of}
use Rattle.kl_batch.specs.declared.names.TheConstants.{KERNEL, KERNEL_RECORD}

-- ONE BATCH MORE on a disk on which those before it are installed: where its files are in place and nothing is pending all are installed, and
-- where its files are all in place or none a stop leaves what it may leave of all
pub record GoesOn (slot : Slot) (plans : List Plan) (p : Plan) (image text : List ℕ) (m : Names) (d : Disk) : Type 0 where
  pub done : (x : Names) → AreInPlace (files_of p image text) (names_now d) x → AreInstalled slot (plans ++ p ∷ []) m (record { stable = x; changes = [] })
  pub stop : (x : Names) → AreAllOrNone slot (files_of p image text) (names_now d) x → MayLeave slot (plans ++ p ∷ []) m x

abbrev pub BatchesGoOn : Type 0
BatchesGoOn =
    (slot : Slot) (plans : List Plan) (p : Plan) (image text : List ℕ) (m : Names) (d : Disk) → AllByRecursion HasTargets plans → IsNext plans p
    → AreLinked p.seed p.kit p.inputs image text → AreInstalled slot plans m d → GoesOn slot plans p image text m d

-- what a stop may leave of some batches it may leave of more
abbrev pub StopsGoOn : Type 0
StopsGoOn = (slot : Slot) (plans more : List Plan) (m x : Names) → MayLeave slot plans m x → MayLeave slot (plans ++ more) m x

-- where a kernel's batch is right the kernel matches its record
abbrev pub KernelMatches : Type 0
KernelMatches = (x : Names) (p : Plan) → IsKernelPlan p → IsRight x p → IsMatched x

-- the batch installs a kernel, or leaves the kernel and its record alone
abbrev pub KeepsKernel : Plan → Type 0
KeepsKernel p = IsKernelPlan p ⊎ (IsNoTarget KERNEL p × IsNoTarget KERNEL_RECORD p)

-- a kernel that matched its record matches it after each stop in such batches, once the slot is recovered
abbrev pub KernelStaysMatched : Type 0
KernelStaysMatched = (slot : Slot) (plans : List Plan) (m x : Names) → AllByRecursion KeepsKernel plans → IsMatched m → MayLeave slot plans m x → IsMatched (after slot x)
