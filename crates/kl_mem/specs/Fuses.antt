-- A store that passes some calls on, and then fails.
use Rattle.std.specs.Prelude.{◌≡◌, ◌-◌, ◌<◌, ℕ, if◌then◌else◌, Result, OnErr, IsErr, is_err}
use Rattle.kl_mem.specs.declared.fuse.Fuse.{Fuse}
use Rattle.kl_store.specs.Calls.{Rose}
use Rattle.kl_store.specs.Counts.{raised}

-- how many calls it still passes on, the store that gets them, and how many of its calls have failed
abbrev pub passes : {S : Type 0} → Fuse S → ℕ
passes f = f.left

abbrev pub inner_of : {S : Type 0} → Fuse S → S
inner_of f = f.inner

abbrev pub failed : {S : Type 0} → Fuse S → ℕ
failed f = f.faults

-- A call that is passed on fails only where the inner store's count of faults rose. Past the last such call each one
-- fails and leaves the inner store. Each failure is counted, and nothing else.
pub record Burns {S T E : Type 0} (faults : S → ℕ) (before now : Fuse S) (result : Result T E) : Type 0 where
  pub left : passes now ≡ passes before - 1
  pub failures : failed now ≡ (if is_err result then raised (failed before) else failed before)
  pub passed : 0 < passes before → OnErr result (Rose (faults (inner_of before)) (faults (inner_of now)))
  pub spent : passes before ≡ 0 → IsErr result
  pub still : passes before ≡ 0 → inner_of now ≡ inner_of before
