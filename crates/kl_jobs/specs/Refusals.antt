-- Why a kit isn't linked: each refusal that stands in its files, in the order in which they are told.
use Rattle.std.specs.Prelude.{◌≡◌, ◌⊎◌, ℕ, List, [], Option, Some, None}
use Rattle.std.specs.Option.{ForSome, option_map, option_or}
use Rattle.kl_store.specs.Names.{Names}
use Rattle.kl_store.specs.Meaning.{Meaning}
use Rattle.kl_store.specs.Outside.{Blocks, GivesNone}
use Rattle.kl_link.specs.Links.{fault_of}
use Rattle.kl_model.specs.declared.kit.Kit.{Kit}
use Rattle.kl_model.specs.declared.object.Input.{Input}
use Rattle.kl_jobs.specs.Reading.{inputs_in, kit_in, kit_order, lines_refusal}
use Rattle.kl_jobs.specs.Seeds.{IsSeed}
use Rattle.kl_jobs.specs.declared.cause.Cause.{Cause}
use Rattle.kl_jobs.specs.declared.cause.Cause.TheVariants.{Done, Usage, NoMemory, Store, Entropy, Sink}
use Rattle.kl_jobs.specs.declared.cause.Cause.TheVariants as cause

-- the first refusal of a kit whose inputs are read, under a seed
abbrev pub kit_refusal : List ℕ → Kit → List Input → Option Cause
kit_refusal seed kit inputs = option_map cause.Link (fault_of seed kit inputs)

-- THE FIRST REFUSAL BEHIND THE KIT TEXT that stands in the files of a kit, under a seed: of its inputs in kit order, of its link
abbrev pub inputs_refusal : Names → List ℕ → Kit → List ℕ → Option Cause
inputs_refusal m dir kit seed =
    option_or (lines_refusal m dir [] (kit_order kit.inputs)) (kit_refusal seed kit (inputs_in m dir (kit_order kit.inputs)))

abbrev pub late_refusal : Names → List ℕ → List ℕ → Option Cause
late_refusal m dir seed = inputs_refusal m dir (kit_in m dir) seed

-- a cause that no file shows: want of memory, or a fault of the store
abbrev pub IsOutside : Cause → Type 0
IsOutside c = (c ≡ NoMemory) ⊎ (c ≡ Store)

-- why a file isn't read or a kit isn't linked: nothing of the words, of the source of random bytes, of the sink or of a recovery
abbrev pub IsRefusal : Cause → Type 0
IsRefusal Done = ⊥
IsRefusal Usage = ⊥
IsRefusal Entropy = ⊥
IsRefusal Sink = ⊥
IsRefusal (cause.Foreign slot entry target temp) = ⊥
IsRefusal (cause.Intent slot line) = ⊥
IsRefusal _ = Unit {0}

-- why a job ends: nothing of the words, of the sink or of a recovery
abbrev pub IsJobRefusal : Cause → Type 0
IsJobRefusal Done = ⊥
IsJobRefusal Usage = ⊥
IsJobRefusal Sink = ⊥
IsJobRefusal (cause.Foreign slot entry target temp) = ⊥
IsJobRefusal (cause.Intent slot line) = ⊥
IsJobRefusal _ = Unit {0}

-- a cause that is outside, or where the store tells its names a refusal that stands in them
abbrev pub Refuses : Meaning → (Names → Option Cause) → Cause → Type 0
Refuses before refusal c = ForSome before.names (λ m. IsOutside c ⊎ (refusal m ≡ Some c))

-- HOW A JOB ENDS that asks for a seed: nothing stands against it before, and this is what stands under the seed that it used
pub record EndsUnder (given : Option (List ℕ)) (before now : Blocks) (early : Option Cause) (late : List ℕ → Option Cause) (end : Option Cause) : Type 0 where
  pub seed : List ℕ
  pub drawn : IsSeed given before now seed
  pub none_early : early ≡ None
  pub end_is : late seed ≡ end

-- this stands against a job before it asks for a seed, and no block of random bytes is taken
pub record StandsEarly (b0 b1 : Blocks) (early : Option Cause) (c : Cause) : Type 0 where
  pub stands : early ≡ Some c
  pub undrawn : GivesNone b0 b1

-- nothing stands against it before, and the source of random bytes failed
pub record LacksSeed (early : Option Cause) (c : Cause) : Type 0 where
  pub cause_is : c ≡ Entropy
  pub none_early : early ≡ None

-- THE REFUSALS OF A JOB that asks for a seed, in their order: what stands before it asks, that it gets none, what stands under the seed that it
-- used; or a cause that is outside
abbrev pub RefusesJob : Option (List ℕ) → Blocks → Blocks → Meaning → (Names → Option Cause) → (Names → List ℕ → Option Cause) → Cause → Type 0
RefusesJob given b0 b1 before early late c =
    ForSome before.names (λ m. IsOutside c ⊎ (StandsEarly b0 b1 (early m) c ⊎ (LacksSeed (early m) c ⊎ EndsUnder given b0 b1 (early m) (late m) (Some c))))
