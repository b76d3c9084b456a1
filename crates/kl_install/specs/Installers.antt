-- What an installer knows.
use Rattle.std.specs.Prelude.{Bool, List}
use Rattle.kl_base.specs.declared.class.Slot.{Slot}
use Rattle.kl_intent.specs.declared.intent.Entry.{Entry}
use Rattle.kl_intent.specs.IntentText.{entries_of}
use Rattle.kl_install.specs.declared.installer.Installer.{Installer}
use Rattle.kl_install.specs.Batch.{Batch, batch}

-- the files that are staged, in order
abbrev pub staged : Installer → List Entry
staged i = entries_of i.intent

-- the slot in which its intents stand
abbrev pub slot_of : Installer → Slot
slot_of i = i.intent.slot

-- its batch
abbrev pub batch_of : Installer → Batch
batch_of i = batch (slot_of i) (staged i)

-- whether files may be staged and committed: no call has failed
abbrev pub is_ready : Installer → Bool
is_ready i = i.ready
