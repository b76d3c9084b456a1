-- The disk of a store that notes each of its steps. For the contracts inside this crate alone.
use Rattle.std.specs.Prelude.{◌≤◌, ℕ, List, [], ◌∷◌, length, take, ⊤}
use Rattle.std.specs.FinMap.{empty, insert}
use Rattle.kl_store.specs.Names.{Names, Change, carried_out}
use Rattle.kl_store.specs.Names as names
use Rattle.kl_store.specs.Disk.{Disk, IsImage, Numbers, joined, settled, names_now, renumbered}
use Rattle.kl_mem.specs.declared.step.Step.{Step}
use Rattle.kl_mem.specs.declared.step.Step.TheVariants.{Create, Append, Rename, Remove, Settle, Put}

-- the disk with a stable file more, where nothing is pending
abbrev pub with_stable : List ℕ → List ℕ → Disk → Disk
with_stable n bytes d = record { stable = insert (names_now d) n bytes; changes = [] }

-- the disk after the step
abbrev pub stepped : Step → Disk → Disk
stepped (Create n) d = joined (names.Create n) d
stepped (Append n bytes) d = joined (names.Append n bytes) d
stepped (Rename a b) d = joined (names.Rename a b) d
stepped (Remove n) d = joined (names.Remove n) d
stepped Settle d = settled d
stepped (Put n bytes) d = with_stable n bytes d

-- the disk after all of the steps
abbrev pub all_stepped : List Step → Disk → Disk
all_stepped [] d = d
all_stepped (s ∷ ss) d = all_stepped ss (stepped s d)

-- the disk with no file
abbrev pub blank : Disk
blank = record { stable = empty; changes = [] }

-- the disk of a store that took these steps
abbrev pub disk_of : List Step → Disk
disk_of steps = all_stepped steps blank

-- the names after the step
abbrev pub written : Step → Names → Names
written (Create n) m = carried_out (names.Create n) m
written (Append n bytes) m = carried_out (names.Append n bytes) m
written (Rename a b) m = carried_out (names.Rename a b) m
written (Remove n) m = carried_out (names.Remove n) m
written Settle m = m
written (Put n bytes) m = insert m n bytes

-- the names were an image after some of the steps, from the time t on
pub record WasImage (steps : List Step) (t : ℕ) (x : Names) : Type 0 where
  pub at : ℕ
  pub since : t ≤ at
  pub within : at ≤ length steps
  pub image : IsImage (disk_of (take at steps)) x

-- the step is a change of the disk, and no settle
abbrev pub IsChange : Step → Type 0
IsChange (Create n) = ⊤
IsChange (Append n bytes) = ⊤
IsChange (Rename a b) = ⊤
IsChange (Remove n) = ⊤
IsChange Settle = ⊥
IsChange (Put n bytes) = ⊥

-- each of the steps is
abbrev pub AreChanges : List Step → Type 0
AreChanges [] = ⊤
AreChanges (s ∷ ss) = IsChange s × AreChanges ss

-- the changes that the steps make
abbrev pub changes_of : List Step → List Change
changes_of [] = []
changes_of (Create n ∷ ss) = names.Create n ∷ changes_of ss
changes_of (Append n bytes ∷ ss) = names.Append n bytes ∷ changes_of ss
changes_of (Rename a b ∷ ss) = names.Rename a b ∷ changes_of ss
changes_of (Remove n ∷ ss) = names.Remove n ∷ changes_of ss
changes_of (Settle ∷ ss) = changes_of ss
changes_of (Put n bytes ∷ ss) = changes_of ss

-- the numbers of files after the step
abbrev pub renumbers : Step → Numbers → Numbers
renumbers (Create n) f = renumbered (names.Create n) f
renumbers (Append n bytes) f = renumbered (names.Append n bytes) f
renumbers (Rename a b) f = renumbered (names.Rename a b) f
renumbers (Remove n) f = renumbered (names.Remove n) f
renumbers Settle f = f
renumbers (Put n bytes) f = f
