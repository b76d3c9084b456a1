-- The images of a store as time goes on.
use Rattle.std.specs.Prelude.{◌≡◌, ◌≤◌, ◌⊎◌, ℕ, [], Option, Some, is_some, Result, OnOk}
use Rattle.std.specs.Option.{ForSome}
use Rattle.kl_store.specs.Names.{Names, Change, Applies}
use Rattle.kl_store.specs.Disk.{Disk, IsImage, joined, names_now}
use Rattle.kl_store.specs.Meaning.{Meaning}

-- a crash after the change may leave these names
pub record MayLeave (c : Change) (d : Disk) (x : Names) : Type 0 where
  pub applies : Applies c (names_now d)
  pub image : IsImage (joined c d) x

-- a crash leaves nothing new
abbrev pub Nothing : Disk → Names → Type 0
Nothing d x = ⊥

-- Time goes on from one meaning to another: each image since an earlier moment was one before, or has P.
pub record Elapses (before now : Meaning) (P : Names → Type 0) : Type 0 where
  pub later : before.clock ≤ now.clock
  pub nothing_else : (t : ℕ) (x : Names) → t ≤ before.clock → now.image_since t x → before.image_since t x ⊎ P x
  pub keeps : (t : ℕ) (x : Names) → t ≤ before.clock → before.image_since t x → now.image_since t x

-- Where the disk was told it is told still, and each image since was one before, or has P of that disk.
pub record LeavesOfDisk (before now : Meaning) (P : Disk → Names → Type 0) : Type 0 where
  pub tells : is_some now.disk ≡ is_some before.disk
  pub time : ForSome before.disk (λ d. Elapses before now (P d))

-- the same, with P of the names on that disk
abbrev pub Leaves : Meaning → Meaning → (Names → Names → Type 0) → Type 0
Leaves before now P = LeavesOfDisk before now (λ d. P (names_now d))

-- the disk is settled, and its names have P
abbrev pub IsSettledAt : Option Disk → (Names → Type 0) → Type 0
IsSettledAt disk P = (m : Names) × (disk ≡ Some (record { stable = m; changes = [] })) × P m

-- with Ok, a disk that was told is settled, and its names have P of the names before
abbrev pub Ends : {T E : Type 0} → Meaning → Meaning → Result T E → (Names → Names → Type 0) → Type 0
Ends before now result P = OnOk result (ForSome before.disk (λ d. IsSettledAt now.disk (P (names_now d))))

-- with Ok, a disk that was told is this one
abbrev pub Becomes : {T E : Type 0} → Meaning → Meaning → Result T E → (Disk → Disk) → Type 0
Becomes before now result f = OnOk result (ForSome before.disk (λ d. now.disk ≡ Some (f d)))

-- where the disk was told, the names now have P of the names before
abbrev pub NamesHave : Meaning → Meaning → (Names → Names → Type 0) → Type 0
NamesHave before now P = ForSome before.disk (λ d. ForSome now.disk (λ e. P (names_now d) (names_now e)))
