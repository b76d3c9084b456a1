-- The intent that stands in a slot, and its entries that are sound.
use Rattle.std.specs.Prelude.{◌≡◌, ◌⊎◌, List, Some, None}
use Rattle.std.specs.FinMap.{get}
use Rattle.kl_base.specs.declared.class.Slot.{Slot}
use Rattle.kl_store.specs.Names.{Names}
use Rattle.kl_intent.specs.declared.intent.Entry.{Entry}
use Rattle.kl_intent.specs.IntentText.{slot_name, intent_text, AreEntries}
use Rattle.kl_install.specs.After.{digest_at, temp_of}

-- the intent of these entries stands in the slot
pub record Stands (slot : Slot) (entries : List Entry) (m : Names) : Type 0 where
  pub are : AreEntries entries
  pub text : get m (slot_name slot) ≡ Some (intent_text slot entries)

-- the target is new, and its temporary is gone or new too
pub record IsNew (m : Names) (e : Entry) : Type 0 where
  pub target : digest_at m e.target ≡ Some e.new
  pub temp : (get m (temp_of e) ≡ None) ⊎ (digest_at m (temp_of e) ≡ Some e.new)

-- the target is as it was noted, and its temporary is new
pub record IsAsNoted (m : Names) (e : Entry) : Type 0 where
  pub target : digest_at m e.target ≡ e.old
  pub temp : digest_at m (temp_of e) ≡ Some e.new

abbrev pub IsSound : Names → Entry → Type 0
IsSound m e = IsNew m e ⊎ IsAsNoted m e
