-- A disk with changes that aren't settled, and the names that a crash may leave of it.
use Rattle.std.specs.Prelude.{◌≡◌, ◌≢◌, ◌≤◌, ◌⊎◌, ℕ, List, [], ◌∷◌, ◌++◌, length, take, Option, Some, None, is_some, if◌then◌else◌, ⊤}
use Rattle.std.specs.FinMap.{get, remove}
use Rattle.kl_store.specs.Names.{Names, Change, Create, Append, Rename, Remove, same_name, all_carried_out}

-- The stable names, each with the bytes of its file, as the last settle left them, and the changes since. A stable
-- file is numbered by its stable name: no two stable names are one file, since a rename moves.
pub record Disk : Type 0 where
  pub stable : Names
  pub changes : List Change

-- the names and their bytes now
abbrev pub names_now : Disk → Names
names_now d = all_carried_out d.changes d.stable

-- the disk with one change more
abbrev pub joined : Change → Disk → Disk
joined c d = record { stable = d.stable; changes = d.changes ++ c ∷ [] }

-- the disk after a settle
abbrev pub settled : Disk → Disk
settled d = record { stable = names_now d; changes = [] }

-- the disk with a new file of these bytes, not yet settled
abbrev pub with_file : List ℕ → List ℕ → Disk → Disk
with_file n bytes d = joined (Append n bytes) (joined (Create n) d)

-- the disk settled without the name
abbrev pub without : List ℕ → Disk → Disk
without n d = record { stable = remove (names_now d) n; changes = [] }

-- the number of the file that each name has, if it is a stable file; a newer file has none
abbrev pub Numbers : Type 0
Numbers = List ℕ → Option (List ℕ)

-- the numbers after the change: a file keeps being the same file when it is renamed
abbrev pub renumbered : Change → Numbers → Numbers
renumbered (Create m) f n = if same_name n m then None else f n
renumbered (Append m bytes) f n = f n
renumbered (Rename a b) f n = if same_name n b then f a else if same_name n a then None else f n
renumbered (Remove m) f n = if same_name n m then None else f n

-- the numbers after all of the changes
abbrev pub all_renumbered : List Change → Numbers → Numbers
all_renumbered [] f = f
all_renumbered (c ∷ cs) f = all_renumbered cs (renumbered c f)

-- some of the changes appends to the file of that number
abbrev pub IsAppendedTo : List ℕ → List Change → Numbers → Type 0
IsAppendedTo file [] f = ⊥
IsAppendedTo file (Create n ∷ cs) f = IsAppendedTo file cs (renumbered (Create n) f)
IsAppendedTo file (Append n bytes ∷ cs) f = (f n ≡ Some file) ⊎ IsAppendedTo file cs f
IsAppendedTo file (Rename a b ∷ cs) f = IsAppendedTo file cs (renumbered (Rename a b) f)
IsAppendedTo file (Remove n ∷ cs) f = IsAppendedTo file cs (renumbered (Remove n) f)

-- A crash carries out the first k changes on the names. A file holds its stable bytes if it was stable and no change of
-- the whole list appended to it. Any other file holds any bytes, of any length.
pub record IsImageAfter (d : Disk) (k : ℕ) (x : Names) : Type 0 where
  pub within : k ≤ length d.changes
  pub same_names : (n : List ℕ) → is_some (get x n) ≡ is_some (get (all_carried_out (take k d.changes) d.stable) n)
  pub kept : (n file : List ℕ) → all_renumbered (take k d.changes) Some n ≡ Some file → ¬ IsAppendedTo file d.changes Some → get x n ≡ get d.stable file

-- a crash may leave these names
pub record IsImage (d : Disk) (x : Names) : Type 0 where
  pub carried : ℕ
  pub image : IsImageAfter d carried x

-- they are an image of the disk, but for that name
pub record IsNear (name : List ℕ) (d : Disk) (x : Names) : Type 0 where
  pub near : Names
  pub image : IsImage d near
  pub others : (n : List ℕ) → n ≢ name → get x n ≡ get near n

-- the change is a rename or a removal
abbrev pub IsMove : Change → Type 0
IsMove (Create n) = ⊥
IsMove (Append n bytes) = ⊥
IsMove (Rename a b) = ⊤
IsMove (Remove n) = ⊤

-- each of the changes is
abbrev pub AreMoves : List Change → Type 0
AreMoves [] = ⊤
AreMoves (c ∷ cs) = IsMove c × AreMoves cs
