-- What recovery of a slot finds and leaves, for each of its ends.
use Rattle.std.specs.Prelude.{◌≡◌, ◌≢◌, ◌⊎◌, ◌<◌, ◌≤◌, ℕ, List, ◌∷◌, ◌++◌, length, Option, Some, None}
use Rattle.std.specs.FinMap.{get}
use Rattle.kl_base.specs.declared.class.Slot.{Slot}
use Rattle.kl_store.specs.Names.{Names}
use Rattle.kl_intent.specs.declared.intent.Entry.{Entry}
use Rattle.kl_intent.specs.IntentText.{slot_name, intent_text, AreEntries}
use Rattle.kl_intent.specs.Outside.{IsFirstOutside}
use Rattle.kl_install.specs.declared.recover.SlotEnd.{SlotEnd}
use Rattle.kl_install.specs.declared.recover.SlotEnd.TheVariants.{Nothing, Completed, Foreign, BadIntent}
use Rattle.kl_install.specs.After.{digest_at, temp_of}
use Rattle.kl_install.specs.Standing.{Stands, IsSound}
use Rattle.kl_install.specs.Batch.{Each, IsAway}
use Rattle.kl_base.specs.declared.limits.TheConstants.{INTENT_LIMIT}

-- Each entry of the slot's intent was sound. Now each target is new, the temporaries and the slot are gone, and all other
-- names are as in m.
pub record IsCompleted (slot : Slot) (files : ℕ) (m x : Names) : Type 0 where
  pub entries : List Entry
  pub stands : Stands slot entries m
  pub sound : Each (IsSound m) entries
  pub count : files ≡ length entries
  pub targets : Each (λ e. digest_at x e.target ≡ Some e.new) entries
  pub temps : Each (λ e. get x (temp_of e) ≡ None) entries
  pub free : get x (slot_name slot) ≡ None
  pub others : (n : List ℕ) → n ≢ slot_name slot → IsAway n entries → get x n ≡ get m n

-- the entry of that number is the first one that isn't sound, and its target and its temporary have these digests
pub record IsForeign (slot : Slot) (number : ℕ) (target temp : Option (List ℕ)) (m : Names) : Type 0 where
  pub before : List Entry
  pub entry : Entry
  pub behind : List Entry
  pub stands : Stands slot (before ++ entry ∷ behind) m
  pub count : number ≡ length before
  pub sound : Each (IsSound m) before
  pub unsound : ¬ IsSound m entry
  pub target_is : target ≡ digest_at m entry.target
  pub temp_is : temp ≡ digest_at m (temp_of entry)

-- the text is that of no intent, and this is its first line outside the grammar, 0 where it is too long
pub record IsNoIntent (text : List ℕ) (line : ℕ) : Type 0 where
  pub none : (slot : Slot) (entries : List Entry) → AreEntries entries → text ≢ intent_text slot entries
  pub long : INTENT_LIMIT < length text → line ≡ 0
  pub outside : length text ≤ INTENT_LIMIT → IsFirstOutside text line

-- the text is that of an intent of the other slot, which its second line names
pub record IsOfOther (slot : Slot) (text : List ℕ) (line : ℕ) : Type 0 where
  pub other : Slot
  pub entries : List Entry
  pub differs : other ≢ slot
  pub are : AreEntries entries
  pub text_is : text ≡ intent_text other entries
  pub second : line ≡ 2

-- the slot's file is no intent of the slot
pub record IsBad (slot : Slot) (line : ℕ) (m : Names) : Type 0 where
  pub text : List ℕ
  pub stands : get m (slot_name slot) ≡ Some text
  pub bad : IsNoIntent text line ⊎ IsOfOther slot text line

-- Recovery that ends so found these names as m, and leaves them as x.
abbrev pub Recovers : Slot → SlotEnd → Names → Names → Type 0
Recovers slot Nothing m x = (get m (slot_name slot) ≡ None) × (x ≡ m)
Recovers slot (Completed files) m x = IsCompleted slot files m x
Recovers slot (Foreign entry target temp) m x = IsForeign slot entry target temp m × (x ≡ m)
Recovers slot (BadIntent line) m x = IsBad slot line m × (x ≡ m)
