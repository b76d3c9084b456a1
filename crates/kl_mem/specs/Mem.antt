-- What a store in memory knows, and how its calls end.
use Rattle.std.specs.Prelude.{◌≡◌, ◌≢◌, ◌⊎◌, ◌+◌, ℕ, List, [], length, Bool, true, false, if◌then◌else◌, Option, Some, None, is_some, Result, OnOk, OnErr, is_err}
use Rattle.std.specs.Ordering.{nat_cmp}
use Rattle.std.specs.BTreeMap.{get}
use Rattle.kl_mem.specs.declared.mem.MemStore.{MemStore}
use Rattle.kl_mem.specs.Record.{disk_of, with_stable}
use Rattle.kl_mem.specs.Told.{told_by}
use Rattle.kl_store.specs.Names.{Names, Change, Applies}
use Rattle.kl_store.specs.Disk.{Disk, joined, settled, names_now}
use Rattle.kl_store.specs.Meaning.{Meaning}
use Rattle.kl_store.specs.Counts.{raised}

-- what a store in memory knows
pub record Mem : Type 0 where
  -- the stable names with their bytes, and the changes since
  pub disk : Disk
  -- the length of its record
  pub clock : ℕ
  -- whether the call of that number is to fail, and then whether its change is made
  pub planned : ℕ → Option Bool
  -- how many calls it has had, how many of them failed, and how many for want of memory
  pub calls : ℕ
  pub faults : ℕ
  pub starved : ℕ

-- what the store knows
abbrev pub mem : MemStore → Mem
mem s = record { disk = disk_of s.disk.steps.items; clock = length s.disk.steps.items; planned = get nat_cmp s.planned; calls = s.calls; faults = s.faults; starved = s.starved }

-- what it tells of that
abbrev pub meaning_of : MemStore → Meaning
meaning_of s = told_by s.disk.steps.items

-- the names and their bytes now
abbrev pub names_of : Mem → Names
names_of m = names_now m.disk

-- the failure that is planned for the next call
abbrev pub next_fault : Mem → Option Bool
next_fault m = m.planned m.calls

-- a fresh store with this disk
pub record IsFresh (m : Mem) : Type 0 where
  pub settled : m.disk.changes ≡ []
  pub planned : (call : ℕ) → m.planned call ≡ None
  pub calls : m.calls ≡ 0
  pub faults : m.faults ≡ 0
  pub starved : m.starved ≡ 0

-- the plan with that failure for the call of that number, in place of one that was planned for it
pub record Plans (call : ℕ) (happened : Bool) (before now : Mem) : Type 0 where
  pub planned : now.planned call ≡ Some happened
  pub others : (n : ℕ) → n ≢ call → now.planned n ≡ before.planned n
  pub rest : now ≡ record before { planned = now.planned }

-- the disk becomes this one, in one entry of the record
pub record Turns (into : Disk → Disk) (before now : Mem) : Type 0 where
  pub disk : now.disk ≡ into before.disk
  pub clock : now.clock ≡ before.clock + 1

-- the disk and the record stay
pub record Rests (before now : Mem) : Type 0 where
  pub disk : now.disk ≡ before.disk
  pub clock : now.clock ≡ before.clock

-- a stable file is put there, and nothing else is touched
pub record Puts (name bytes : List ℕ) (before now : Mem) : Type 0 where
  pub turns : Turns (with_stable name bytes) before now
  pub rest : now ≡ record before { disk = now.disk; clock = now.clock }

-- The call is counted, a failed one as a fault too, and the plan stays.
pub record Counts {T E : Type 0} (before now : Mem) (result : Result T E) : Type 0 where
  pub calls : now.calls ≡ raised before.calls
  pub faults : now.faults ≡ (if is_err result then raised before.faults else before.faults)
  pub planned : now.planned ≡ before.planned

-- a call that needs no memory: it fails exactly where that is planned, and leaves the disk
pub record EndsStill {T E : Type 0} (before now : Mem) (result : Result T E) : Type 0 where
  pub counts : Counts before now result
  pub fails : is_err result ≡ is_some (next_fault before)
  pub starved : now.starved ≡ before.starved
  pub rests : Rests before now

-- the change is made where there is such a file
abbrev pub MadeIfThere : Change → Mem → Mem → Type 0
MadeIfThere c before now = (Applies c (names_of before) × Turns (joined c) before now) ⊎ ((Applies c (names_of before) → ⊥) × Rests before now)

-- a call with enough memory: it fails exactly where that is planned, and makes its change but where that isn't to be
pub record EndsAsPlanned {T E : Type 0} (c : Change) (before now : Mem) (result : Result T E) : Type 0 where
  pub fails : is_err result ≡ is_some (next_fault before)
  pub starved : now.starved ≡ before.starved
  pub kept : next_fault before ≡ Some false → Rests before now
  pub made : next_fault before ≢ Some false → MadeIfThere c before now

-- a call that fails for want of memory: it would have made its change, and leaves the disk
pub record EndsStarved {T E : Type 0} (before now : Mem) (result : Result T E) : Type 0 where
  pub fails : is_err result ≡ true
  pub starved : now.starved ≡ raised before.starved
  pub rests : Rests before now
  pub wanted : next_fault before ≢ Some false

-- how a call that makes the change ends
pub record Ends {T E : Type 0} (c : Change) (before now : Mem) (result : Result T E) : Type 0 where
  pub counts : Counts before now result
  pub ends : EndsAsPlanned c before now result ⊎ EndsStarved before now result

-- a settle with enough memory: it fails exactly where that is planned, and settles where it doesn't fail
pub record SettlesAsPlanned {T E : Type 0} (before now : Mem) (result : Result T E) : Type 0 where
  pub fails : is_err result ≡ is_some (next_fault before)
  pub starved : now.starved ≡ before.starved
  pub done : OnOk result (Turns settled before now)
  pub kept : OnErr result (Rests before now)

-- a settle that isn't planned to fail, and finds no memory for its entry
pub record SettlesStarved {T E : Type 0} (before now : Mem) (result : Result T E) : Type 0 where
  pub fails : is_err result ≡ true
  pub starved : now.starved ≡ raised before.starved
  pub rests : Rests before now
  pub wanted : next_fault before ≡ None

-- how a settle ends
pub record SettleEnds {T E : Type 0} (before now : Mem) (result : Result T E) : Type 0 where
  pub counts : Counts before now result
  pub ends : SettlesAsPlanned before now result ⊎ SettlesStarved before now result
