-- The names after recovery.
use Rattle.std.specs.Prelude.{ℕ, Bool, true, false, ◌&&◌, ◌||◌, List, [], ◌∷◌, ◌++◌, codes, Option, Some, None, is_some, is_none, option_map, if◌then◌else◌, Result, Ok, Err}
use Rattle.std.specs.List.{list_all}
use Rattle.std.specs.Str.{bytes_eq}
use Rattle.std.specs.FinMap.{get, remove}
use Rattle.sha2.specs.Sha256.{sha256}
use Rattle.kl_base.specs.declared.class.Slot.{Slot}
use Rattle.kl_base.specs.declared.class.Slot.TheVariants.{Kernel, Libs}
use Rattle.kl_store.specs.Names.{Names, Rename, carried_out}
use Rattle.kl_intent.specs.declared.intent.Entry.{Entry}
use Rattle.kl_intent.specs.IntentText.{slot_name, intent_read}
use Rattle.kl_base.specs.declared.limits.TheConstants.{SCRATCH_SUFFIX}

-- the name under which a file waits to take the place of the one of this name
abbrev pub temp_name : List ℕ → List ℕ
temp_name name = name ++ SCRATCH_SUFFIX

abbrev pub temp_of : Entry → List ℕ
temp_of e = temp_name e.target

-- the SHA-256 digest of what the name holds, if it is there
abbrev pub digest_at : Names → List ℕ → Option (List ℕ)
digest_at x name = option_map sha256 (get x name)

abbrev pub same_digest : Option (List ℕ) → Option (List ℕ) → Bool
same_digest None None = true
same_digest None (Some b) = false
same_digest (Some a) None = false
same_digest (Some a) (Some b) = bytes_eq a b

-- An entry is sound in two cases: the target is new, and the temporary is absent or new too; or the target is as the
-- intent noted it, and the temporary is new.
abbrev pub is_sound_of : Entry → Option (List ℕ) → Option (List ℕ) → Bool
is_sound_of e target temp =
    (same_digest target (Some e.new) && (is_none temp || same_digest temp (Some e.new)))
    || (same_digest target e.old && same_digest temp (Some e.new))

abbrev pub is_sound : Names → Entry → Bool
is_sound x e = is_sound_of e (digest_at x e.target) (digest_at x (temp_of e))

-- the names with the entry's temporary, where it is there, in the target's place
abbrev pub moved : Entry → Names → Names
moved e x = if is_some (get x (temp_of e)) then carried_out (Rename (temp_of e) e.target) x else x

abbrev pub all_moved : List Entry → Names → Names
all_moved [] x = x
all_moved (e ∷ es) x = all_moved es (moved e x)

-- whether two slots are one
abbrev pub same_slot : Slot → Slot → Bool
same_slot Kernel Kernel = true
same_slot Kernel Libs = false
same_slot Libs Kernel = false
same_slot Libs Libs = true

-- the entries of a text that is an intent and names the slot
abbrev pub entries_for : Slot → Result (Slot × List Entry) ℕ → Option (List Entry)
entries_for slot (Ok read) = if same_slot read.0 slot then Some read.1 else None
entries_for slot (Err line) = None

unfoldable pub entries_in : Slot → List ℕ → Option (List Entry)
entries_in slot text = entries_for slot (intent_read text)

abbrev pub after_entries : Slot → Names → Option (List Entry) → Names
after_entries slot x None = x
after_entries slot x (Some es) = if list_all (is_sound x) es then remove (all_moved es x) (slot_name slot) else x

abbrev pub after_text : Slot → Names → Option (List ℕ) → Names
after_text slot x None = x
after_text slot x (Some text) = after_entries slot x (entries_in slot text)

-- The names after recovery of the slot: where its intent is sound, each target holds its temporary's bytes where the
-- temporary was there, and those temporaries and the slot's file are gone. Otherwise they are as they were.
abbrev pub after : Slot → Names → Names
after slot x = after_text slot x (get x (slot_name slot))
