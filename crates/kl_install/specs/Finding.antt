-- What is found in a slot. For the contracts inside this crate alone.
use Rattle.std.specs.Prelude.{◌≡◌, ◌≤◌, ℕ, List, [], Option, Some, None, Result, Ok, Err, if◌then◌else◌, ⊤}
use Rattle.std.specs.FinMap.{get}
use Rattle.kl_base.specs.declared.class.Slot.{Slot}
use Rattle.kl_store.specs.Disk.{Disk, names_now}
use Rattle.kl_intent.specs.declared.intent.Entry.{Entry}
use Rattle.kl_intent.specs.IntentText.{slot_name, intent_read, entries_of, AreEntries}
use Rattle.kl_install.specs.declared.recover.Found.{Found}
use Rattle.kl_install.specs.declared.recover.Found.TheVariants.{Nothing, Bad, Batch}
use Rattle.kl_install.specs.After.{same_slot}
use Rattle.kl_base.specs.declared.limits.TheConstants.{ENTRY_LIMIT}

-- the number of the first wrong line of a text, line 2 where it names another slot
abbrev pub wrong_line : Slot → Result (Slot × List Entry) ℕ → Option ℕ
wrong_line slot (Ok read) = if same_slot read.0 slot then None else Some 2
wrong_line slot (Err line) = Some line

-- what is found in the file that the slot's name holds
abbrev pub IsFound : Slot → Found → Option (List ℕ) → Type 0
IsFound slot Nothing file = file ≡ None
IsFound slot (Bad line) None = ⊥
IsFound slot (Bad line) (Some text) = wrong_line slot (intent_read text) ≡ Some line
IsFound slot (Batch i) None = ⊥
IsFound slot (Batch i) (Some text) = (intent_read text ≡ Ok (slot, entries_of i)) × (i.count ≤ ENTRY_LIMIT)

-- a batch that is found is one of an intent
abbrev pub FoundFits : Found → Type 0
FoundFits Nothing = ⊤
FoundFits (Bad line) = ⊤
FoundFits (Batch i) = (i.count ≤ ENTRY_LIMIT) × AreEntries (entries_of i)

-- the disk is settled, and an intent with these entries stands in the slot
pub record HasIntentOf (slot : Slot) (es : List Entry) (d : Disk) : Type 0 where
  pub settled : d.changes ≡ []
  pub text : List ℕ
  pub stands : get (names_now d) (slot_name slot) ≡ Some text
  pub read : intent_read text ≡ Ok (slot, es)
