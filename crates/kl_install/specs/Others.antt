-- The names that a call leaves alone, whatever it answers.
use Rattle.std.specs.Prelude.{◌≢◌, List, ℕ}
use Rattle.kl_base.specs.declared.class.Slot.{Slot}
use Rattle.kl_store.specs.Names.{Names}
use Rattle.kl_intent.specs.declared.intent.Entry.{Entry}
use Rattle.kl_intent.specs.IntentText.{slot_name}
use Rattle.kl_install.specs.Batch.{Batch, intent_name, intent_temp, IsAway}
use Rattle.kl_install.specs.Standing.{Stands}

-- the name is neither the batch's slot, nor the slot's temporary, nor a target or a temporary of the batch
abbrev pub IsOther : Batch → List ℕ → Type 0
IsOther b n = (n ≢ intent_name b) × (n ≢ intent_temp b) × IsAway n b.entries

-- the name is neither the slot, nor a target or a temporary of the intent that stands in it
abbrev pub IsNoneOf : Slot → Names → List ℕ → Type 0
IsNoneOf slot m n = (n ≢ slot_name slot) × ((entries : List Entry) → Stands slot entries m → IsAway n entries)
