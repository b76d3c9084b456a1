-- The image that a pick names.
use Rattle.std.specs.Prelude.{◌≡◌, ℕ, zero, suc, ◌+◌, ◌-◌, ◌/◌, ◌%◌, List, [], length, take, map, Option, Some, option_map, is_some}
use Rattle.std.specs.FinMap.{get}
use Rattle.kl_store.specs.Names.{Names, Change, all_carried_out}
use Rattle.kl_store.specs.Disk.{Disk, all_renumbered, IsAppendedTo}

-- every bit of the byte turned
abbrev pub turned : ℕ → ℕ
turned byte = 255 - byte

-- what may become of bytes that a crash may lose: none of them, the first half, all, or all with every bit turned
abbrev pub twisted : ℕ → List ℕ → List ℕ
twisted zero bytes = []
twisted (suc zero) bytes = take (length bytes / 2) bytes
twisted (suc (suc zero)) bytes = bytes
twisted (suc (suc (suc n))) bytes = map turned bytes

-- of n pending changes a pick carries out the first pick mod (n + 1)
abbrev pub carried_by : ℕ → Disk → ℕ
carried_by pick d = pick % (length d.changes + 1)

-- and (pick / (n + 1)) mod 4 says what becomes of bytes that may be lost
abbrev pub twist_of : ℕ → Disk → ℕ
twist_of pick d = (pick / (length d.changes + 1)) % 4

-- The stable file of that number has the name after the first k of the changes, and none of them all appends to it.
pub record IsKept (changes : List Change) (k : ℕ) (name file : List ℕ) : Type 0 where
  pub number : all_renumbered (take k changes) Some name ≡ Some file
  pub untouched : ¬ IsAppendedTo file changes Some

-- After the picked changes, a file that is kept has its stable bytes, and any other is twisted.
pub record IsPicked (pick : ℕ) (d : Disk) (x : Names) : Type 0 where
  pub kept : (name file : List ℕ) → IsKept d.changes (carried_by pick d) name file → get x name ≡ get d.stable file
  pub others : (name : List ℕ) → ((file : List ℕ) → ¬ IsKept d.changes (carried_by pick d) name file)
      → get x name ≡ option_map (twisted (twist_of pick d)) (get (all_carried_out (take (carried_by pick d) d.changes) d.stable) name)

-- what a name holds, of what it held after the first k of the changes
pub record IsLeft (changes : List Change) (k twist : ℕ) (name : List ℕ) (before now : Option (List ℕ)) : Type 0 where
  pub there : is_some now ≡ is_some before
  pub kept : (file : List ℕ) → IsKept changes k name file → now ≡ before
  pub others : ((file : List ℕ) → ¬ IsKept changes k name file) → now ≡ option_map (twisted twist) before

-- each name does
abbrev pub AreLeft : List Change → ℕ → ℕ → Names → Names → Type 0
AreLeft changes k twist m x = (name : List ℕ) → IsLeft changes k twist name (get m name) (get x name)
