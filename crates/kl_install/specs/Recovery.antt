-- How recovery of a slot ends.
use Rattle.std.specs.Prelude.{◌≡◌, ◌+◌, ℕ, Bool, true, false, List, [], ◌∷◌, ◌++◌, length, Option, Some, None, Result, Ok, Err, if◌then◌else◌}
use Rattle.std.specs.FinMap.{get}
use Rattle.kl_base.specs.declared.class.Slot.{Slot}
use Rattle.kl_store.specs.Names.{Names}
use Rattle.kl_intent.specs.declared.intent.Entry.{Entry}
use Rattle.kl_intent.specs.IntentText.{slot_name, intent_read}
use Rattle.kl_install.specs.declared.recover.SlotEnd.{SlotEnd}
use Rattle.kl_install.specs.declared.recover.SlotEnd.TheVariants.{Nothing, Completed, Foreign, BadIntent}
use Rattle.kl_install.specs.declared.recover.Unsound.{Unsound}
use Rattle.kl_install.specs.After.{digest_at, temp_of, is_sound, same_slot, all_moved}

-- the first entry that isn't sound, counted from n, with the digests that are found
abbrev pub first_unsound : Names → List Entry → ℕ → Option Unsound
first_unsound m [] n = None
first_unsound m (e ∷ es) n = if is_sound m e then first_unsound m es (n + 1) else Some (record { entry = n; target = digest_at m e.target; temp = digest_at m (temp_of e) })

-- the end where the intent is in the grammar and names the slot: it is Foreign where an entry isn't sound, else Completed
abbrev pub checked_end : List Entry → Option Unsound → SlotEnd
checked_end es None = Completed (length es)
checked_end es (Some u) = Foreign u.entry u.target u.temp

abbrev pub entries_end : Names → List Entry → SlotEnd
entries_end m es = checked_end es (first_unsound m es 0)

-- the end by what the slot's text is read as: line 2 is wrong where it names the other slot
abbrev pub read_end : Slot → Names → Result (Slot × List Entry) ℕ → SlotEnd
read_end slot m (Ok read) = if same_slot read.0 slot then entries_end m read.1 else BadIntent 2
read_end slot m (Err line) = BadIntent line

abbrev pub text_end : Slot → Names → Option (List ℕ) → SlotEnd
text_end slot m None = Nothing
text_end slot m (Some text) = read_end slot m (intent_read text)

-- How recovery of the slot ends on these names. It is Nothing exactly where the slot is absent.
abbrev pub slot_end : Slot → Names → SlotEnd
slot_end slot m = text_end slot m (get m (slot_name slot))

-- whether nothing is left to recover
abbrev pub is_clear : SlotEnd → Bool
is_clear Nothing = true
is_clear (Completed files) = true
is_clear (Foreign entry target temp) = false
is_clear (BadIntent line) = false

-- some first ones of the entries have moved
pub record IsPartMoved (es : List Entry) (m x : Names) : Type 0 where
  pub first : List Entry
  pub rest : List Entry
  pub whole : es ≡ first ++ rest
  pub names : x ≡ all_moved first m
