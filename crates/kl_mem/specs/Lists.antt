-- A source of blocks and a sink in memory.
use Rattle.std.specs.Prelude.{◌≡◌, ◌⊎◌, ℕ, Bool, true, false, nat_le, if◌then◌else◌, List, drop, Option, Some, None, Result, is_err, OnErr}
use Rattle.kl_mem.specs.declared.lists.ListEntropy.{ListEntropy}
use Rattle.kl_mem.specs.declared.lists.VecSink.{VecSink}
use Rattle.kl_store.specs.Outside.{Blocks, Taken}
use Rattle.kl_store.specs.Counts.{raised}

-- the blocks that the source will still give, the next one first
abbrev pub blocks_left : ListEntropy → List (List ℕ)
blocks_left s = drop s.next s.blocks.items

-- how many of its calls have failed
abbrev pub blocks_failed : ListEntropy → ℕ
blocks_failed s = s.faults

-- what it tells
abbrev pub blocks_told : ListEntropy → Blocks
blocks_told s = record { left = Some (blocks_left s) }

-- everything that a sink in memory knows
pub record Kept : Type 0 where
  -- the bytes that it has taken
  pub bytes : List ℕ
  -- the number of the first call that is to fail, if any is
  pub fails_from : Option ℕ
  -- how many calls it has had, how many of them failed, and how many for want of memory
  pub calls : ℕ
  pub faults : ℕ
  pub starved : ℕ

-- what the sink knows
abbrev pub kept : VecSink → Kept
kept s = record { bytes = s.bytes.items; fails_from = s.fails_from; calls = s.calls; faults = s.faults; starved = s.starved }

-- what it tells of that
abbrev pub taken_told : VecSink → Taken
taken_told s = record { bytes = Some s.bytes.items }

-- whether the call of that number is to fail
abbrev pub is_to_fail : Option ℕ → ℕ → Bool
is_to_fail None call = false
is_to_fail (Some first) call = nat_le first call

-- whether the next call is to fail
abbrev pub is_next_to_fail : Kept → Bool
is_next_to_fail k = is_to_fail k.fails_from k.calls

-- a write fails exactly where it is to fail, or, where it isn't, for want of memory
abbrev pub FailsFor : {T E : Type 0} → Kept → Kept → Result T E → Type 0
FailsFor before now result = ((is_err result ≡ is_next_to_fail before) × (now.starved ≡ before.starved))
    ⊎ ((is_err result ≡ true) × (is_next_to_fail before ≡ false) × (now.starved ≡ raised before.starved))

-- how a write to a sink in memory ends; a failed one takes no byte
pub record WriteEnds {T E : Type 0} (before now : Kept) (result : Result T E) : Type 0 where
  pub calls : now.calls ≡ raised before.calls
  pub faults : now.faults ≡ (if is_err result then raised before.faults else before.faults)
  pub fails_from : now.fails_from ≡ before.fails_from
  pub fails : FailsFor before now result
  pub bytes : OnErr result (now.bytes ≡ before.bytes)
