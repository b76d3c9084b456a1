-- The files of a store: what its names hold, but for scratch names.
use Rattle.std.specs.Prelude.{◌≡◌, ◌≢◌, List, ℕ, true, false, Some, is_some}
use Rattle.std.specs.Option.{ForSome}
use Rattle.std.specs.FinMap.{get}
use Rattle.kl_store.specs.Names.{Names, is_scratch}
use Rattle.kl_store.specs.Disk.{Disk, IsImage}
use Rattle.kl_store.specs.Meaning.{Meaning}

-- every name that isn't a scratch name holds what it held
abbrev pub SameNames : Names → Names → Type 0
SameNames before now = (q : List ℕ) → is_scratch q ≡ false → get now q ≡ get before q

-- where the store tells its names, each one that P is true of holds what it held; whether it tells them doesn't change
pub record KeepsNames (P : List ℕ → Type 0) (before now : Meaning) : Type 0 where
  pub tells : is_some now.names ≡ is_some before.names
  pub names : ForSome before.names (λ m. ForSome now.names (λ x. (n : List ℕ) → P n → get x n ≡ get m n))

-- where the store tells its names, its files are what they were
abbrev pub SameFiles : Meaning → Meaning → Type 0
SameFiles before now = KeepsNames (λ q. is_scratch q ≡ false) before now

-- the files of an image of the disk, scratch names aside
pub record HasFiles (d : Disk) (x : Names) : Type 0 where
  pub image : Names
  pub was : IsImage d image
  pub same : SameNames image x

-- the name holds the bytes, and each other name holds what it held
pub record IsWritten (name bytes : List ℕ) (m n : Names) : Type 0 where
  pub here : get n name ≡ Some bytes
  pub others : (q : List ℕ) → q ≢ name → get n q ≡ get m q
