-- What each command leaves where a call of the store failed, what a stop leaves of it, and what it leaves alone.
use Rattle.std.specs.Prelude.{ℕ, ◌≡◌, ◌⊎◌, List, Option, Some, None}
use Rattle.std.specs.Option.{ForSome}
use Rattle.kl_store.specs.Calls.{Stays}
use Rattle.kl_store.specs.Disk.{Disk, names_now}
use Rattle.kl_store.specs.Files.{HasFiles, KeepsNames, SameFiles}
use Rattle.kl_store.specs.Images.{NamesHave}
use Rattle.kl_store.specs.Meaning.{Meaning}
use Rattle.kl_store.specs.Names.{Names}
use Rattle.kl_store.specs.Outside.{Blocks}
use Rattle.kl_base.specs.declared.class.Slot.TheVariants as slot
use Rattle.kl_install.specs.Recovery.{slot_end}
use Rattle.kl_jobs.specs.Kernels.{IsNoKernelFile, KernelMayLeave}
use Rattle.kl_jobs.specs.Recovery.{IsNoneOfBoth, RecoveryMayLeave, completed}
use Rattle.kl_cli.specs.declared.command.Command.{Command}
use Rattle.kl_cli.specs.declared.command.Command.TheVariants.{Link, ReorderKernel, Recover, Generate}
use Rattle.kl_cli.specs.declared.command.Request.{Request}

-- WHERE A CALL OF THE STORE FAILED: how many batches are counted, and for the kernel's job that nothing has changed or that the names are
-- as a stop leaves them
abbrev pub FailsSo : Command → Option (List ℕ) → Blocks → Blocks → ℕ → Meaning → Meaning → Type 0
FailsSo (Link dir) given b0 b1 batches before now = batches ≡ 0
FailsSo ReorderKernel given b0 b1 batches before now = (batches ≡ 0) × (Stays before now ⊎ NamesHave before now (KernelMayLeave given b0 b1))
FailsSo Recover given b0 b1 batches before now = ForSome before.names (λ m. (batches ≡ 0) ⊎ (batches ≡ completed (slot_end slot.Kernel m)))
FailsSo (Generate n) given b0 b1 batches before now = ⊥

abbrev pub Fails : Option Request → Blocks → Blocks → ℕ → Meaning → Meaning → Type 0
Fails None b0 b1 batches before now = ⊥
Fails (Some r) b0 b1 batches before now = FailsSo r.command r.seed b0 b1 batches before now

-- WHAT A STOP LEAVES of a command on a disk, at each moment
abbrev pub MayLeaveSo : Command → Option (List ℕ) → Blocks → Blocks → Disk → Names → Type 0
MayLeaveSo (Link dir) given b0 b1 d x = HasFiles d x
MayLeaveSo ReorderKernel given b0 b1 d x = KernelMayLeave given b0 b1 (names_now d) x
MayLeaveSo Recover given b0 b1 d x = RecoveryMayLeave (names_now d) x
MayLeaveSo (Generate n) given b0 b1 d x = ⊥

abbrev pub IsCrash : Option Request → Blocks → Blocks → Disk → Names → Type 0
IsCrash None b0 b1 d x = ⊥
IsCrash (Some r) b0 b1 d x = MayLeaveSo r.command r.seed b0 b1 d x

-- WHAT A COMMAND LEAVES ALONE, whatever it answers
abbrev pub LeavesAlone : Command → Meaning → Meaning → Type 0
LeavesAlone (Link dir) before now = SameFiles before now
LeavesAlone ReorderKernel before now = KeepsNames IsNoKernelFile before now
LeavesAlone Recover before now = ForSome before.names (λ m. KeepsNames (IsNoneOfBoth m) before now)
LeavesAlone (Generate n) before now = Stays before now

abbrev pub Keeps : Option Request → Meaning → Meaning → Type 0
Keeps None before now = Stays before now
Keeps (Some r) before now = LeavesAlone r.command before now
