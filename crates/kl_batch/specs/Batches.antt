-- The batches of a job, and the names after some first ones of them.
use Rattle.std.specs.Prelude.{ℕ, ◌≡◌, ◌≢◌, ◌⊎◌, ◌≤◌, ◌<◌, nat_eq, List, [], ◌∷◌, ◌++◌, codes, length, take, false, true, None, Some}
use Rattle.std.specs.FinMap.{get}
use Rattle.std.specs.List.{AllByRecursion, ends_with}
use Rattle.sha2.specs.Sha256.{sha256}
use Rattle.kl_base.specs.declared.class.Slot.{Slot}
use Rattle.kl_base.specs.declared.limits.TheConstants.{OUTPUT_LIMIT}
use Rattle.kl_store.specs.Disk.{Disk, names_now}
use Rattle.kl_store.specs.Names.{Names, is_scratch}
use Rattle.kl_digest.specs.Records.{IsRecord, record_of}
use Rattle.kl_intent.specs.IntentText.{is_target, slot_name}
use Rattle.kl_install.specs.After.{after}
use Rattle.kl_install.specs.Recovery.{is_clear, slot_end}
use Rattle.kl_model.specs.declared.kit.Kit.{Kit}
use Rattle.kl_model.specs.declared.kit.KitKind.{KitKind}
use Rattle.kl_model.specs.declared.kit.KitKind.TheVariants.{Kernel, Library}
use Rattle.kl_model.specs.declared.object.Input.{Input}
use Rattle.kl_link.specs.Links.{AreLinked}
use Rattle.kl_batch.specs.Together.{AllHold, File, file}
use Rattle.kl_batch.specs.declared.names.TheConstants.{KERNEL, KERNEL_MAP, KERNEL_RECORD}

-- A PLAN: a kit and its inputs, and the seed under which they are linked
pub record Plan : Type 0 where
  pub kit : Kit
  pub inputs : List Input
  pub seed : List ℕ

-- the name of its image
abbrev pub output_of : Plan → List ℕ
output_of p = p.kit.output

-- THE NAME OF A LIBRARY'S MAP, by the library's name
abbrev pub map_of : List ℕ → List ℕ
map_of output = codes "/var/db/relink" ++ (output ++ codes ".map")

abbrev pub library_map : Plan → List ℕ
library_map p = map_of (output_of p)

-- THE FILES OF A BATCH of this image and this map text, by the kind of the kit: the image, for a kernel the record of its digest, the map
abbrev pub files_for : KitKind → Plan → List ℕ → List ℕ → List File
files_for Kernel p image text = file (output_of p) image ∷ file KERNEL_RECORD (record_of (sha256 image)) ∷ file KERNEL_MAP text ∷ []
files_for Library p image text = file (output_of p) image ∷ file (library_map p) text ∷ []

abbrev pub files_of : Plan → List ℕ → List ℕ → List File
files_of p image text = files_for p.kit.kind p image text

-- their names
abbrev pub targets_for : KitKind → Plan → List (List ℕ)
targets_for Kernel p = output_of p ∷ KERNEL_RECORD ∷ KERNEL_MAP ∷ []
targets_for Library p = output_of p ∷ library_map p ∷ []

abbrev pub targets_of : Plan → List (List ℕ)
targets_of p = targets_for p.kit.kind p

-- the name is no target of the batch
abbrev pub IsNoTarget : List ℕ → Plan → Type 0
IsNoTarget n p = AllByRecursion (λ t. n ≢ t) (targets_of p)

-- each of its targets may be one
abbrev pub HasTargets : Plan → Type 0
HasTargets p = AllByRecursion (λ t. is_target t ≡ true) (targets_of p)

-- its targets may be targets, and none of them is one of the batches before it
pub record IsNext (before : List Plan) (p : Plan) : Type 0 where
  pub targets : HasTargets p
  pub apart : AllByRecursion (λ q. AllByRecursion (λ t. IsNoTarget t p) (targets_of q)) before

-- A BATCH IS RIGHT in x: its targets hold the files of one image and one map text, which are linked from the plan's kit and inputs under
-- its seed
pub record IsRight (x : Names) (p : Plan) : Type 0 where
  pub image : List ℕ
  pub text : List ℕ
  pub linked : AreLinked p.seed p.kit p.inputs image text
  pub held : AllHold x (files_of p image text)

-- REACHED: these batches are right in x, and each other file is as in m
pub record Reached (m : Names) (done : List Plan) (x : Names) : Type 0 where
  pub right : AllByRecursion (IsRight x) done
  pub others : (n : List ℕ) → is_scratch n ≡ false → AllByRecursion (IsNoTarget n) done → get x n ≡ get m n

-- WHAT A STOP LEAVES of these batches: recovery of the slot goes on to the names that some first ones of them reach. Before it each file,
-- the slot aside, is as in m or as recovery leaves it, and the slot is free or its intent is sound.
pub record MayLeave (slot : Slot) (plans : List Plan) (m x : Names) : Type 0 where
  pub count : ℕ
  pub within : count ≤ length plans
  pub reached : Reached m (take count plans) (after slot x)
  pub clear : is_clear (slot_end slot x) ≡ true
  pub each : (n : List ℕ) → is_scratch n ≡ false → n ≢ slot_name slot → (get x n ≡ get m n) ⊎ (get x n ≡ get (after slot x) n)

-- ALL INSTALLED: the names on the disk are reached by these batches, the slot is free, and where there is a batch no change is pending
pub record AreInstalled (slot : Slot) (plans : List Plan) (m : Names) (d : Disk) : Type 0 where
  pub reached : Reached m plans (names_now d)
  pub free : get (names_now d) (slot_name slot) ≡ None
  pub settled : 0 < length plans → d.changes ≡ []

-- an image, a record and a map text under the kernel's names
abbrev pub kernel_files : List ℕ → List ℕ → List ℕ → List File
kernel_files image record_text map = file KERNEL image ∷ file KERNEL_RECORD record_text ∷ file KERNEL_MAP map ∷ []

-- an image and a map text under a library's names
abbrev pub library_files : List ℕ → List ℕ → List ℕ → List File
library_files output image map = file output image ∷ file (map_of output) map ∷ []

-- a name under which a library may be installed: it may be a target, is within the limit of outputs, and is that of no map
pub record IsLibraryName (output : List ℕ) : Type 0 where
  pub target : is_target output ≡ true
  pub short : length output ≤ OUTPUT_LIMIT
  pub no_map : ends_with nat_eq output (codes ".map") ≡ false

-- a plan of a kernel
pub record IsKernelPlan (p : Plan) : Type 0 where
  pub kind : p.kit.kind ≡ Kernel
  pub output : output_of p ≡ KERNEL

-- an image, a record and a map text of a kernel's plan
pub record IsKernelBatch (p : Plan) (image record_text map : List ℕ) : Type 0 where
  pub plan : IsKernelPlan p
  pub linked : AreLinked p.seed p.kit p.inputs image map
  pub record_is : record_text ≡ record_of (sha256 image)

-- THE KERNEL MATCHES its record: both are there, and the record names the kernel's digest
pub record IsMatched (x : Names) : Type 0 where
  pub image : List ℕ
  pub text : List ℕ
  pub kernel : get x KERNEL ≡ Some image
  pub record_held : get x KERNEL_RECORD ≡ Some text
  pub names : IsRecord (sha256 image) text
