-- Files that take their places as one, and what a stop leaves of them.
use Rattle.std.specs.Prelude.{ℕ, ◌≡◌, ◌≢◌, ◌⊎◌, List, map, false, true, Result, Some}
use Rattle.std.specs.FinMap.{get}
use Rattle.std.specs.List.{AllByRecursion}
use Rattle.std.specs.Option.{ForSome}
use Rattle.kl_base.specs.declared.class.Slot.{Slot}
use Rattle.kl_store.specs.Disk.{names_now}
use Rattle.kl_store.specs.Files.{SameNames}
use Rattle.kl_store.specs.Images.{Ends, Leaves, NamesHave}
use Rattle.kl_store.specs.Meaning.{Meaning}
use Rattle.kl_store.specs.Names.{Names, is_scratch}
use Rattle.kl_intent.specs.IntentText.{is_target, slot_name}
use Rattle.kl_intent.specs.declared.intent.Entry.{Entry}
use Rattle.kl_install.specs.After.{after, temp_name}
use Rattle.kl_install.specs.Recovery.{is_clear, slot_end}

-- a file: its name and its bytes
pub record File : Type 0 where
  pub name : List ℕ
  pub bytes : List ℕ

abbrev pub file : List ℕ → List ℕ → File
file name bytes = record { name = name; bytes = bytes }

abbrev pub AreTargets : List File → Type 0
AreTargets files = AllByRecursion (λ f. is_target f.name ≡ true) files

-- the name is none of theirs
abbrev pub IsNone : List ℕ → List File → Type 0
IsNone n files = AllByRecursion (λ f. n ≢ f.name) files

-- each name holds its file's bytes
abbrev pub AllHold : Names → List File → Type 0
AllHold x files = AllByRecursion (λ f. get x f.name ≡ Some f.bytes) files

-- The files are in place, and each other name that isn't a scratch name is as in m.
pub record AreInPlace (files : List File) (m x : Names) : Type 0 where
  pub held : AllHold x files
  pub others : (n : List ℕ) → is_scratch n ≡ false → IsNone n files → get x n ≡ get m n

-- ALL OR NONE: after recovery of the slot the files are in place, or every name that isn't a scratch name is as in m. Before it each
-- of them is as in m or as recovery leaves it, the other files, the slot aside, are as in m, and the slot is free or its intent is sound.
pub record AreAllOrNone (slot : Slot) (files : List File) (m x : Names) : Type 0 where
  pub recovered : SameNames m (after slot x) ⊎ AreInPlace files m (after slot x)
  pub clear : is_clear (slot_end slot x) ≡ true
  pub each : AllByRecursion (λ f. (get x f.name ≡ get m f.name) ⊎ (get x f.name ≡ get (after slot x) f.name)) files
  pub elsewhere : (n : List ℕ) → is_scratch n ≡ false → n ≢ slot_name slot → IsNone n files → get x n ≡ get m n

-- the files wait under their temporaries, and no file has changed
pub record AreWaiting (files : List File) (m x : Names) : Type 0 where
  pub waits : AllByRecursion (λ f. get x (temp_name f.name) ≡ Some f.bytes) files
  pub same : SameNames m x

-- These files are staged since before, as these entries, and a crash leaves no file changed.
pub record AreStaged (files : List File) (entries : List Entry) (before now : Meaning) : Type 0 where
  pub names : map (λ e. e.target) entries ≡ map (λ f. f.name) files
  pub waiting : ForSome before.disk (λ d. ForSome now.disk (λ e. AreWaiting files (names_now d) (names_now e)))
  pub quiet : Leaves before now SameNames

-- AN INSTALLATION of files: with Ok they are in place, and nothing else is on the disk. During the call and after it each image, and
-- the names, have all of them or none.
pub record Installs {T E : Type 0} (slot : Slot) (files : List File) (before now : Meaning) (result : Result T E) : Type 0 where
  pub done : Ends before now result (AreInPlace files)
  pub images : Leaves before now (AreAllOrNone slot files)
  pub names : NamesHave before now (AreAllOrNone slot files)

-- the name is neither the slot nor one of the files, nor a temporary of these
abbrev pub IsElsewhere : Slot → List File → List ℕ → Type 0
IsElsewhere slot files n = (n ≢ slot_name slot) × (n ≢ temp_name (slot_name slot)) × AllByRecursion (λ f. (n ≢ f.name) × (n ≢ temp_name f.name)) files
