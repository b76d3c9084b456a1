-- What an adapter has noted of the host's disk.
use Rattle.std.specs.Prelude.{ℕ, ◌≡◌, Bool, true, false, ◌||◌, List, [], nat_eq, bytes_eq}
use Rattle.std.specs.List.{list_any}
use Rattle.std.specs.Cmp.Lexicographic.{pointwise}
use Rattle.kl_base.specs.declared.class.Slot.TheVariants.{Kernel, Libs}
use Rattle.kl_store.specs.Names.{is_scratch}
use Rattle.kl_intent.specs.IntentText.{slot_name}
use Rattle.kl_host.specs.Paths.{folder_of}
use Rattle.kl_host.specs.declared.notes.Notes.{Notes}

-- the name is one of these
abbrev pub is_among : List ℕ → List (List ℕ) → Bool
is_among name names = list_any (λ other. pointwise nat_eq other name) names

-- the names whose files are to be synced
abbrev pub files_to_sync : Notes → List (List ℕ)
files_to_sync n = n.written.items

-- the names whose folders are to be synced
abbrev pub folders_to_sync : Notes → List (List ℕ)
folders_to_sync n = n.changed.items

-- a sync has failed
abbrev pub is_broken : Notes → Bool
is_broken n = n.broken

-- the folder of the name was asked for: the adapter syncs it then, which no clause can say
abbrev pub is_known : List ℕ → Notes → Bool
is_known name n = list_any (λ other. bytes_eq (folder_of other) (folder_of name)) n.asked.items

-- the file of the name was asked for: the adapter syncs it then
abbrev pub is_checked : List ℕ → Notes → Bool
is_checked name n = is_among name n.checked.items

-- a file of such a name is relied on after a stop: a scratch name, and a slot of intents
abbrev pub is_relied_on : List ℕ → Bool
is_relied_on name = is_scratch name || (pointwise nat_eq name (slot_name Kernel) || pointwise nat_eq name (slot_name Libs))

-- The name was asked for: its folder is known, and the file is checked too where it is relied on.
pub record IsAsked (name : List ℕ) (n : Notes) : Type 0 where
  pub folder : is_known name n ≡ true
  pub file : is_relied_on name ≡ true → is_checked name n ≡ true

-- nothing is left to sync, and no sync has failed
pub record IsSettled (n : Notes) : Type 0 where
  pub files : files_to_sync n ≡ []
  pub folders : folders_to_sync n ≡ []
  pub whole : is_broken n ≡ false

-- What is to be synced still is, what was asked for stays known, and so does that a sync failed.
pub record Keeps (old new : Notes) : Type 0 where
  pub files : (name : List ℕ) → is_among name (files_to_sync old) ≡ true → is_among name (files_to_sync new) ≡ true
  pub folders : (name : List ℕ) → is_among name (folders_to_sync old) ≡ true → is_among name (folders_to_sync new) ≡ true
  pub known : (name : List ℕ) → is_known name old ≡ true → is_known name new ≡ true
  pub checked : (name : List ℕ) → is_checked name old ≡ true → is_checked name new ≡ true
  pub broken : is_broken old ≡ true → is_broken new ≡ true

-- the file of the name is to be synced, and the folder that it lies in
pub record IsNoted (name : List ℕ) (n : Notes) : Type 0 where
  pub file : is_among name (files_to_sync n) ≡ true
  pub folder : is_among name (folders_to_sync n) ≡ true
