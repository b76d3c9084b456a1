-- What the reader answers. For the contracts inside this crate alone.
use Rattle.std.specs.Prelude.{◌≡◌, ◌≤◌, ℕ, List, Result, Ok, Err}
use Rattle.kl_base.specs.declared.class.Slot.{Slot}
use Rattle.kl_intent.specs.declared.intent.Entry.{Entry}
use Rattle.kl_intent.specs.declared.intent.Intent.{Intent}
use Rattle.kl_intent.specs.declared.read.IntentFault.{IntentFault}
use Rattle.kl_intent.specs.IntentText.{entries_of}
use Rattle.kl_base.specs.declared.limits.TheConstants.{ENTRY_LIMIT}

-- it answers these entries, or that line
abbrev pub ReadsEntries : Slot → Result Intent IntentFault → Result (List Entry) ℕ → Type 0
ReadsEntries slot (Ok i) read = (read ≡ Ok (entries_of i)) × (i.slot ≡ slot) × (i.count ≤ ENTRY_LIMIT)
ReadsEntries slot (Err f) read = read ≡ Err f.line

-- it answers this slot with these entries, or that line
abbrev pub Reads : Result Intent IntentFault → Result (Slot × List Entry) ℕ → Type 0
Reads (Ok i) read = (read ≡ Ok (i.slot, entries_of i)) × (i.count ≤ ENTRY_LIMIT)
Reads (Err f) read = read ≡ Err f.line
