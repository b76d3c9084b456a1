-- What a command answers: each cause with its status, and the first refusal that stands in the words and the files.
use Rattle.std.specs.Prelude.{ℕ, ◌≡◌, ◌≢◌, ◌≤◌, ◌⊎◌, Bool, take, List, length, map, Option, Some, None, Result, Ok, Err, IfOk, if◌then◌else◌, unwrap_or}
use Rattle.std.specs.Option.{ForSome}
use Rattle.std.specs.declared.vec.Vec.{Vec}
use Rattle.std.specs.declared.alloc.Global.{Global}
use Rattle.kl_store.specs.Names.{Names}
use Rattle.kl_store.specs.Meaning.{Meaning}
use Rattle.kl_store.specs.Outside.{Blocks, Taken, Takes}
use Rattle.kl_store.specs.Calls.{Rose}
use Rattle.kl_jobs.specs.Kernels.{kernel_early, kernel_late}
use Rattle.kl_jobs.specs.Reading.{text_refusal}
use Rattle.kl_jobs.specs.Recovery.{recovery_refusal}
use Rattle.kl_jobs.specs.Refusals.{EndsUnder, IsOutside, LacksSeed, StandsEarly, late_refusal}
use Rattle.kl_jobs.specs.declared.fault.JobFault.{JobFault}
use Rattle.kl_jobs.specs.declared.cause.Cause.{Cause}
use Rattle.kl_jobs.specs.declared.cause.Cause.TheVariants.{Done, Usage, NoMemory, Store, Entropy, Sink}
use Rattle.kl_jobs.specs.declared.cause.Cause.TheVariants as cause
use Rattle.kl_lines.specs.Lines.{cause_line, generate_line, kernel_line, link_line, slot_lines}
use Rattle.kl_cli.specs.Commands.{request_of}
use Rattle.kl_cli.specs.Done.{Finishes, IsDone, IsEnd, installed_by, refusal_of}
use Rattle.kl_cli.specs.declared.command.Command.{Command}
use Rattle.kl_cli.specs.declared.command.Command.TheVariants.{Link, ReorderKernel, Recover, Generate}
use Rattle.kl_cli.specs.declared.command.Request.{Request}
use Rattle.kl_cli.specs.declared.outcome.Outcome.{Outcome}
use Rattle.kl_cli.specs.declared.outcome.Outcome.TheVariants.{Linked, Relinked, Recovered, Generated}

-- the status of each cause
abbrev pub status_of : Cause → ℕ
status_of Done = 0
status_of Usage = 2
status_of NoMemory = 3
status_of Store = 4
status_of Entropy = 5
status_of Sink = 6
status_of (cause.Mismatch recorded found) = 10
status_of (cause.Record r) = 11
status_of (cause.Kit c) = 12
status_of (cause.Object input line f) = 13
status_of (cause.Link f) = 14
status_of (cause.Pending slot) = 15
status_of (cause.Foreign slot entry target temp) = 16
status_of (cause.Intent slot line) = 17

-- THE FIRST REFUSAL that stands in the names before a seed is asked for, and the first that stands behind it, under a seed
abbrev pub early : Names → Command → Option Cause
early m (Link dir) = text_refusal None m dir
early m ReorderKernel = kernel_early m
early m Recover = recovery_refusal m
early m (Generate n) = None

abbrev pub late : Names → Command → List ℕ → Option Cause
late m (Link dir) seed = late_refusal m dir seed
late m ReorderKernel seed = kernel_late m seed
late m Recover seed = None
late m (Generate n) seed = None

-- the answer under the seed that the command used
pub record AnswersUnder (r : Request) (b0 b1 : Blocks) (m : Names) (c : Cause) : Type 0 where
  pub end : Option Cause
  pub under : EndsUnder r.seed b0 b1 (early m r.command) (late m r.command) end
  pub answer : IsEnd end c

-- THE ANSWER: of words that are no command Usage; else the first refusal that stands, and where none does that all was done, but for
-- want of memory and a counted fault of the store, of the source of random bytes or of the sink. The source is asked behind what stands
-- early, and before anything else.
abbrev pub IsAnswer : Option Request → Blocks → Blocks → Names → Cause → Type 0
IsAnswer None b0 b1 m c = c ≡ Usage
IsAnswer (Some r) b0 b1 m c =
    IsOutside c ⊎ (StandsEarly b0 b1 (early m r.command) c ⊎ (LacksSeed (early m r.command) c ⊎ AnswersUnder r b0 b1 m c))

-- all was done, and nothing stands under the seed that was used
abbrev pub IsDoneAnswer : Option Request → Blocks → Blocks → Names → Type 0
IsDoneAnswer None b0 b1 m = ⊥
IsDoneAnswer (Some r) b0 b1 m = EndsUnder r.seed b0 b1 (early m r.command) (late m r.command) None

-- a command that came to its end: all was done, or a recovery found a slot that isn't recovered
abbrev pub IsAtEnd : Cause → Type 0
IsAtEnd Done = Unit {0}
IsAtEnd Sink = Unit {0}
IsAtEnd (cause.Foreign slot entry target temp) = Unit {0}
IsAtEnd (cause.Intent slot line) = Unit {0}
IsAtEnd _ = ⊥

-- and one that was refused before, or failed
abbrev pub IsNoEnd : Cause → Type 0
IsNoEnd c = IsAtEnd c → ⊥

-- a command that may have changed names: it came to its end, or a call of the store failed
abbrev pub MayChange : Cause → Type 0
MayChange c = IsAtEnd c ⊎ (c ≡ Store)

-- a command that works in memory alone ends well, or for want of memory
abbrev pub IsDoneInMemory : Cause → Type 0
IsDoneInMemory c = IsDone c ⊎ (c ≡ NoMemory)

-- where the store tells its names, that is so of the names at the start
abbrev pub Answers : List (List ℕ) → Blocks → Blocks → Meaning → Cause → Type 0
Answers words b0 b1 before c = ForSome before.names (λ m. IsAnswer (request_of words) b0 b1 m c)

-- the seed that was given with the words
abbrev pub given_seed : Option Request → Option (List ℕ)
given_seed None = None
given_seed (Some r) = r.seed

-- the words of a command line, as texts
abbrev pub texts : List (Vec ℕ Global) → List (List ℕ)
texts words = map (λ w. w.items) words

-- that this stands against a command, or nothing
abbrev pub StandsSo : Option Request → Blocks → Blocks → Names → Option Cause → Type 0
StandsSo request b0 b1 m None = IsDoneAnswer request b0 b1 m
StandsSo None b0 b1 m (Some c) = ⊥
StandsSo (Some r) b0 b1 m (Some c) = StandsEarly b0 b1 (early m r.command) c

-- the lines of how a command ended before they were written
abbrev pub lines_of : Result Outcome JobFault → List ℕ
lines_of (Ok (Linked dir report)) = link_line dir report
lines_of (Ok (Relinked report)) = kernel_line report
lines_of (Ok (Recovered kernel libs)) = slot_lines kernel libs
lines_of (Ok (Generated count report)) = generate_line count report
lines_of (Err f) = cause_line f.cause

-- the cause that is answered of it
abbrev pub IsCauseOf : Result Outcome JobFault → Cause → Type 0
IsCauseOf (Ok o) c = IsEnd (refusal_of o) c
IsCauseOf (Err f) c = c ≡ f.cause

abbrev pub cause_of : Result Outcome JobFault → Bool → Cause
cause_of (Ok o) told = unwrap_or (refusal_of o) (if told then Done else Sink)
cause_of (Err f) told = f.cause

-- how many batches are counted
abbrev pub batches_of : Result Outcome JobFault → ℕ
batches_of (Ok o) = installed_by o
batches_of (Err f) = f.batches

-- WHAT IS WRITTEN: the sink has taken the lines of how the command ended, whose numbers are those of the graph and the image. Where
-- the sink's count of faults rose it may be some first bytes of them, but not where all was done.
pub record Says (request : Option Request) (b0 b1 : Blocks) (before now : Meaning) (c : Cause) (taken_before taken_now : Taken) (faults_before faults_now : ℕ) : Type 0 where
  pub ended : Result Outcome JobFault
  pub cause : IsCauseOf ended c
  pub numbers : IfOk ended (Finishes request b0 b1 before now)
  pub part : ℕ
  pub taken : Takes (take part (lines_of ended)) taken_before taken_now
  pub whole : (length (lines_of ended) ≤ part) ⊎ ((c ≢ Done) × Rose faults_before faults_now)
