-- What staging a file does.
use Rattle.std.specs.Prelude.{◌≡◌, ◌≢◌, ◌<◌, ℕ, length, List, [], ◌∷◌, ◌++◌, Option, Some, option_map}
use Rattle.std.specs.Option.{ForSome}
use Rattle.std.specs.FinMap.{get}
use Rattle.sha2.specs.Sha256.{sha256}
use Rattle.kl_store.specs.Names.{Names}
use Rattle.kl_store.specs.Disk.{Disk, IsImage, names_now}
use Rattle.kl_store.specs.Meaning.{Meaning}
use Rattle.kl_store.specs.Files.{IsWritten}
use Rattle.kl_intent.specs.declared.intent.Entry.{Entry}
use Rattle.kl_install.specs.After.{temp_name}
use Rattle.kl_install.specs.Batch.{Batch, batch, IsStaged, IsQuiet}

-- a batch that has files is staged so far, where the store tells its disk
abbrev pub CanGoOn : Batch → Meaning → Type 0
CanGoOn b before = 0 < length b.entries → ForSome before.disk (IsStaged b)

-- every image has the files of the names
abbrev pub AllQuiet : Disk → Type 0
AllQuiet d = (x : Names) → IsImage d x → IsQuiet (names_now d) x

-- a file waits on the disk: its bytes are under the name, and a crash leaves no other change of the files
pub record Waits (name bytes : List ℕ) (m : Names) (disk : Option Disk) : Type 0 where
  pub now : Disk
  pub told : disk ≡ Some now
  pub written : IsWritten name bytes m (names_now now)
  pub quiet : AllQuiet now

-- The bytes wait under the target's temporary. The target is noted with the digest of what it held, or its absence, and
-- that of the bytes, and the batch with it is staged.
pub record Stages (b : Batch) (target bytes : List ℕ) (staged : List Entry) (before now : Meaning) : Type 0 where
  pub entry : Entry
  pub noted : staged ≡ b.entries ++ entry ∷ []
  pub target_is : entry.target ≡ target
  pub new : entry.new ≡ sha256 bytes
  pub old : ForSome before.disk (λ d. entry.old ≡ option_map sha256 (get (names_now d) target))
  pub waits : ForSome before.disk (λ d. ForSome now.disk (λ e. IsWritten (temp_name target) bytes (names_now d) (names_now e)))
  pub ready : ForSome now.disk (IsStaged (batch b.slot staged))

-- the disk has these names, and a crash leaves no other change of the files
pub record IsReadyDisk (m : Names) (disk : Option Disk) : Type 0 where
  pub now : Disk
  pub told : disk ≡ Some now
  pub names : names_now now ≡ m
  pub quiet : AllQuiet now
