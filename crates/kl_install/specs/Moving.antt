-- The states between the first call of a commit and the last. For the contracts inside this crate alone.
use Rattle.std.specs.Prelude.{◌≡◌, ◌≢◌, ◌⊎◌, ℕ, List, ◌++◌, Some, None, IsSome}
use Rattle.std.specs.FinMap.{get}
use Rattle.kl_store.specs.Names.{Names}
use Rattle.kl_store.specs.Disk.{Disk, names_now, IsNear, AreMoves}
use Rattle.kl_intent.specs.declared.intent.Entry.{Entry}
use Rattle.kl_install.specs.After.{temp_of}
use Rattle.kl_install.specs.Batch.{Each, IsAway}

-- the entry's file has its place, or waits as in m
abbrev pub IsPlaced : Names → Names → Entry → Type 0
IsPlaced m x e = (get x e.target ≡ get m (temp_of e)) × (get x (temp_of e) ≡ None)

abbrev pub IsWaiting : Names → Names → Entry → Type 0
IsWaiting m x e = (get x e.target ≡ get m e.target) × (get x (temp_of e) ≡ get m (temp_of e))

-- each file has its place or waits, and all other names are as in m
pub record IsMoving (es : List Entry) (m x : Names) : Type 0 where
  pub each : Each (λ e. IsPlaced m x e ⊎ IsWaiting m x e) es
  pub others : (n : List ℕ) → IsAway n es → get x n ≡ get m n

pub record AreMoved (es : List Entry) (m x : Names) : Type 0 where
  pub each : Each (IsPlaced m x) es
  pub others : (n : List ℕ) → IsAway n es → get x n ≡ get m n

-- the intent stands in the slot, and all other names are as in m
pub record HasIntent (slot temp text : List ℕ) (m x : Names) : Type 0 where
  pub stands : get x slot ≡ Some text
  pub no_temp : get x temp ≡ None
  pub others : (n : List ℕ) → n ≢ slot → n ≢ temp → get x n ≡ get m n

-- all of these files have their places, and all of those wait
pub record IsPartWay (placed waiting : List Entry) (m x : Names) : Type 0 where
  pub done : Each (IsPlaced m x) placed
  pub left : Each (IsWaiting m x) waiting
  pub others : (n : List ℕ) → IsAway n (placed ++ waiting) → get x n ≡ get m n

-- each temporary is there
abbrev pub AllWait : List Entry → Names → Type 0
AllWait es m = Each (λ e. IsSome (get m (temp_of e))) es

-- the files wait, and only renames and removals are pending
abbrev pub CanMove : List Entry → Disk → Type 0
CanMove es d = AreMoves d.changes × AllWait es (names_now d)

-- the file is there, and only renames and removals are pending
abbrev pub CanRemove : List ℕ → Disk → Type 0
CanRemove n d = AreMoves d.changes × IsSome (get (names_now d) n)

-- an image of the disk but for the temporary, or the intent stands
abbrev pub MayIntend : List ℕ → List ℕ → List ℕ → Disk → Names → Type 0
MayIntend slot temp text d x = IsNear temp d x ⊎ HasIntent slot temp text (names_now d) x
