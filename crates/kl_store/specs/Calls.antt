-- What the calls of a store do to its meaning.
use Rattle.std.specs.Prelude.{◌≡◌, ℕ, ◌-◌, ◌≤◌, ◌⊎◌, min, List, [], ◌++◌, length, take, drop, Bool, MatchBool, Result, OnOk, OnErr, IfOk, Option, Some, option_map, unwrap_or}
use Rattle.std.specs.FinMap.{get}
use Rattle.std.specs.Option.{ForSome}
use Rattle.kl_store.specs.Names.{Change, Applies, carried_out, cut}
use Rattle.kl_store.specs.Disk.{joined, settled}
use Rattle.kl_store.specs.Counts.{raised}
use Rattle.kl_store.specs.Meaning.{Meaning}
use Rattle.kl_store.specs.Images.{LeavesOfDisk, MayLeave, Nothing}

-- a count of 64 bits rose, or stands at its end
abbrev pub Rose : ℕ → ℕ → Type 0
Rose before now = raised before ≤ now

-- a count never falls, and an error comes only where it rose
pub record HasCause {T E : Type 0} (before now : ℕ) (result : Result T E) : Type 0 where
  pub later : before ≤ now
  pub failed : OnErr result (Rose before now)

-- a failed call that has changed nothing
pub record Keeps (before now : Meaning) : Type 0 where
  pub names : now.names ≡ before.names
  pub disk : now.disk ≡ before.disk

-- a call that never changes anything, and of which a crash leaves nothing new
pub record Stays (before now : Meaning) : Type 0 where
  pub names : now.names ≡ before.names
  pub disk : now.disk ≡ before.disk
  pub images : LeavesOfDisk before now Nothing

-- the change is made and no other, which it can be, and joins the changes of the disk
pub record Makes (c : Change) (before now : Meaning) : Type 0 where
  pub names : now.names ≡ option_map (carried_out c) before.names
  pub disk : now.disk ≡ option_map (joined c) before.disk
  pub applies : ForSome before.names (Applies c)

-- the change can't be made, since there is no such file, and nothing is changed
pub record Misses (c : Change) (before now : Meaning) : Type 0 where
  pub names : now.names ≡ before.names
  pub disk : now.disk ≡ before.disk
  pub absent : ForSome before.names (λ m. ¬ Applies c m)

-- the answer says whether the change is made
abbrev pub MakesIf : Change → Meaning → Meaning → Bool → Type 0
MakesIf c before now was = MatchBool was (Makes c before now) (Misses c before now)

-- A call that makes the change. If it fails, nothing is changed or a part of the change is made. A crash in it or after
-- it leaves what one before might, or what one after the change may.
pub record Does {T E : Type 0} (c : Change) (before now : Meaning) (result : Result T E) : Type 0 where
  pub made : OnOk result (Makes c before now)
  pub failed : OnErr result (Keeps before now ⊎ ((k : ℕ) × Makes (cut k c) before now))
  pub images : LeavesOfDisk before now (MayLeave c)

-- a call that makes the change where there is such a file, and answers whether it did
pub record DoesIf {E : Type 0} (c : Change) (before now : Meaning) (result : Result Bool E) : Type 0 where
  pub made : IfOk result (MakesIf c before now)
  pub failed : OnErr result (Keeps before now ⊎ ((k : ℕ) × Makes (cut k c) before now))
  pub images : LeavesOfDisk before now (MayLeave c)

-- all changes so far are stable
pub record IsSettled (before now : Meaning) : Type 0 where
  pub names : now.names ≡ before.names
  pub disk : now.disk ≡ option_map settled before.disk

-- a call that makes all changes so far stable, or fails and changes nothing; a crash leaves nothing new of it
pub record Settles {T E : Type 0} (before now : Meaning) (result : Result T E) : Type 0 where
  pub done : OnOk result (IsSettled before now)
  pub failed : OnErr result (Keeps before now)
  pub images : LeavesOfDisk before now Nothing

-- where the names are told, P holds of what the name holds: its bytes, or nothing
abbrev pub Holds : Meaning → List ℕ → (Option (List ℕ) → Type 0) → Type 0
Holds before name P = ForSome before.names (λ m. P (get m name))

-- the file is there, with n bytes
abbrev pub HasLength : ℕ → Option (List ℕ) → Type 0
HasLength n file = option_map length file ≡ Some n

-- the file is there, with at most that many bytes
abbrev pub FitsIn : ℕ → Option (List ℕ) → Type 0
FitsIn limit file = (n : ℕ) × HasLength n file × (n ≤ limit)

-- the buffer's first n bytes are the file's from the place on, as many as fit, and its others stay
pub record Reads (at n : ℕ) (old new : List ℕ) (file : Option (List ℕ)) : Type 0 where
  pub count : n ≡ min (length old) (length (unwrap_or file []) - at)
  pub bytes : new ≡ take n (drop at (unwrap_or file [])) ++ drop n old
