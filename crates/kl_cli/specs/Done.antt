-- What a command leaves where it came to its end.
use Rattle.std.specs.Prelude.{ℕ, ◌≡◌, ◌⊎◌, ◌+◌, List, Option, Some, None}
use Rattle.std.specs.Option.{ForSome}
use Rattle.kl_store.specs.Disk.{names_now}
use Rattle.kl_store.specs.Images.{IsSettledAt}
use Rattle.kl_store.specs.Meaning.{Meaning}
use Rattle.kl_store.specs.Outside.{Blocks}
use Rattle.kl_store.specs.Calls.{Stays}
use Rattle.kl_base.specs.declared.class.Slot.TheVariants as slot
use Rattle.kl_install.specs.After.{after}
use Rattle.kl_install.specs.Recovery.{slot_end}
use Rattle.kl_install.specs.declared.recover.SlotEnd.{SlotEnd}
use Rattle.kl_link.specs.declared.report.Report.{Report}
use Rattle.kl_generate.specs.Generated.{IsGenerated}
use Rattle.kl_jobs.specs.Kernels.{RelinksUnder}
use Rattle.kl_jobs.specs.Links.{LinksUnder}
use Rattle.kl_jobs.specs.Recovery.{both_after, completed, ends_refusal}
use Rattle.kl_jobs.specs.Seeds.{IsSeed}
use Rattle.kl_jobs.specs.declared.cause.Cause.{Cause}
use Rattle.kl_jobs.specs.declared.cause.Cause.TheVariants.{Done, Sink}
use Rattle.kl_cli.specs.declared.command.Command.{Command}
use Rattle.kl_cli.specs.declared.command.Command.TheVariants.{Link, ReorderKernel, Recover, Generate}
use Rattle.kl_cli.specs.declared.command.Request.{Request}
use Rattle.kl_cli.specs.declared.outcome.Outcome.{Outcome}
use Rattle.kl_cli.specs.declared.outcome.Outcome.TheVariants.{Linked, Relinked, Recovered, Generated}

-- the kit of n objects was made and linked under the seed of the command; the store is as it was
pub record GeneratesUnder (n : ℕ) (given : Option (List ℕ)) (b0 b1 : Blocks) (before now : Meaning) (report : Report) : Type 0 where
  pub seed : List ℕ
  pub drawn : IsSeed given b0 b1 seed
  pub generated : IsGenerated seed n report
  pub stays : Stays before now

-- the slots ended as they do on these names, and recovery of both is on the disk, with nothing pending
pub record Recovers (kernel libs : SlotEnd) (before now : Meaning) : Type 0 where
  pub kernel_end : ForSome before.names (λ m. kernel ≡ slot_end slot.Kernel m)
  pub libs_end : ForSome before.names (λ m. libs ≡ slot_end slot.Libs (after slot.Kernel m))
  pub settled : ForSome before.disk (λ d. IsSettledAt now.disk (λ x. x ≡ both_after (names_now d)))

-- what is left where a command came to its end, and what is told of it
abbrev pub Does : Command → Option (List ℕ) → Blocks → Blocks → Meaning → Meaning → Outcome → Type 0
Does (Link dir) given b0 b1 before now (Linked name report) = (name ≡ dir) × LinksUnder dir given b0 b1 before now report
Does ReorderKernel given b0 b1 before now (Relinked report) = RelinksUnder given b0 b1 before now report
Does Recover given b0 b1 before now (Recovered kernel libs) = Recovers kernel libs before now
Does (Generate n) given b0 b1 before now (Generated count report) = (count ≡ n) × GeneratesUnder n given b0 b1 before now report
Does _ given b0 b1 before now o = ⊥

abbrev pub Finishes : Option Request → Blocks → Blocks → Meaning → Meaning → Outcome → Type 0
Finishes None b0 b1 before now o = ⊥
Finishes (Some r) b0 b1 before now o = Does r.command r.seed b0 b1 before now o

-- all was done, whether or not the sink took the line that says so
abbrev pub IsDone : Cause → Type 0
IsDone c = (c ≡ Done) ⊎ (c ≡ Sink)

-- what is answered where this stands against a command, or nothing
abbrev pub IsEnd : Option Cause → Cause → Type 0
IsEnd (Some x) c = c ≡ x
IsEnd None c = IsDone c

-- what stands against a command by what it did: against a recovery, that a slot isn't recovered
abbrev pub refusal_of : Outcome → Option Cause
refusal_of (Linked dir report) = None
refusal_of (Relinked report) = None
refusal_of (Recovered kernel libs) = ends_refusal kernel libs
refusal_of (Generated count report) = None

-- how many batches were installed, and for a recovery how many slots were completed
abbrev pub installed_by : Outcome → ℕ
installed_by (Linked dir report) = 0
installed_by (Relinked report) = 1
installed_by (Recovered kernel libs) = completed kernel + completed libs
installed_by (Generated count report) = 0

-- HOW A COMMAND CAME TO ITS END: what it did, so many batches are counted, and this is answered
pub record ComesToEnd (request : Option Request) (b0 b1 : Blocks) (before now : Meaning) (c : Cause) (batches : ℕ) : Type 0 where
  pub outcome : Outcome
  pub finishes : Finishes request b0 b1 before now outcome
  pub counted : batches ≡ installed_by outcome
  pub answer : IsEnd (refusal_of outcome) c
