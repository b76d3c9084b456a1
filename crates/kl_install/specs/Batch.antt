-- A batch of files that are staged, and what a stop leaves of them.
use Rattle.std.specs.Prelude.{◌≡◌, ◌≢◌, ◌⊎◌, ℕ, false, List, [], ◌∷◌, Some, None, option_map, ⊤}
use Rattle.std.specs.FinMap.{get}
use Rattle.sha2.specs.Sha256.{sha256}
use Rattle.kl_base.specs.declared.class.Slot.{Slot}
use Rattle.kl_store.specs.Names.{Names, is_scratch}
use Rattle.kl_store.specs.Disk.{Disk, IsImage, names_now}
use Rattle.kl_intent.specs.declared.intent.Entry.{Entry}
use Rattle.kl_intent.specs.IntentText.{slot_name}
use Rattle.kl_install.specs.After.{after, temp_of, temp_name}
use Rattle.kl_install.specs.Standing.{Stands, IsSound}

-- the entries of a batch, and the slot in which its intent stands
pub record Batch : Type 0 where
  pub slot : Slot
  pub entries : List Entry

abbrev pub batch : Slot → List Entry → Batch
batch slot entries = record { slot = slot; entries = entries }

abbrev pub intent_name : Batch → List ℕ
intent_name b = slot_name b.slot

abbrev pub intent_temp : Batch → List ℕ
intent_temp b = temp_name (slot_name b.slot)

abbrev pub Each : (Entry → Type 0) → List Entry → Type 0
Each P [] = ⊤
Each P (e ∷ es) = P e × Each P es

-- the name is neither a target nor a temporary
abbrev pub IsAway : List ℕ → List Entry → Type 0
IsAway n es = Each (λ e. (n ≢ e.target) × (n ≢ temp_of e)) es

-- no two of their names are one
abbrev pub AreApart : List Entry → Type 0
AreApart [] = ⊤
AreApart (e ∷ es) = (e.target ≢ temp_of e) × IsAway e.target es × IsAway (temp_of e) es × AreApart es

-- the new bytes wait under the temporary, and the entry notes them and the target
pub record IsReady (m : Names) (e : Entry) : Type 0 where
  pub bytes : List ℕ
  pub waits : get m (temp_of e) ≡ Some bytes
  pub new : sha256 bytes ≡ e.new
  pub old : option_map sha256 (get m e.target) ≡ e.old

-- the names that aren't scratch names are as in m
abbrev pub IsQuiet : Names → Names → Type 0
IsQuiet m x = (n : List ℕ) → is_scratch n ≡ false → get x n ≡ get m n

-- The slot is free, the files wait, and a crash leaves no other change.
pub record IsStaged (b : Batch) (d : Disk) : Type 0 where
  pub free : get (names_now d) (intent_name b) ≡ None
  pub ready : Each (IsReady (names_now d)) b.entries
  pub quiet : (x : Names) → IsImage d x → IsQuiet (names_now d) x

-- After recovery all targets are as in m or all as staged there, and the other files are as in m. Before it each target
-- is as in m or as recovery leaves it, the other files, the slot aside, are as in m, and the slot is free or holds the
-- batch's own intent, of which each entry is sound.
pub record IsOldOrNew (b : Batch) (m x : Names) : Type 0 where
  pub targets : Each (λ e. get (after b.slot x) e.target ≡ get m e.target) b.entries ⊎ Each (λ e. get (after b.slot x) e.target ≡ get m (temp_of e)) b.entries
  pub others : (n : List ℕ) → is_scratch n ≡ false → Each (λ e. n ≢ e.target) b.entries → get (after b.slot x) n ≡ get m n
  pub whole : Each (λ e. (get x e.target ≡ get m e.target) ⊎ (get x e.target ≡ get (after b.slot x) e.target)) b.entries
  pub elsewhere : (n : List ℕ) → is_scratch n ≡ false → n ≢ intent_name b → Each (λ e. n ≢ e.target) b.entries → get x n ≡ get m n
  pub slot : (get x (intent_name b) ≡ None) ⊎ (Stands b.slot b.entries x × Each (IsSound x) b.entries)

-- all targets are as staged, the temporaries and the slot are gone, and the rest is as in m
pub record IsDone (b : Batch) (m x : Names) : Type 0 where
  pub targets : Each (λ e. get x e.target ≡ get m (temp_of e)) b.entries
  pub temps : Each (λ e. get x (temp_of e) ≡ None) b.entries
  pub slot : get x (intent_name b) ≡ None
  pub slot_temp : get x (intent_temp b) ≡ None
  pub others : (n : List ℕ) → n ≢ intent_name b → n ≢ intent_temp b → IsAway n b.entries → get x n ≡ get m n
