-- Recovery of both slots.
use Rattle.std.specs.Prelude.{ℕ, ◌≡◌, ◌⊎◌, List, [], ◌∷◌, Option, Some, None}
use Rattle.std.specs.Option.{option_or}
use Rattle.kl_base.specs.declared.class.Slot.{Slot}
use Rattle.kl_base.specs.declared.class.Slot.TheVariants.{Kernel, Libs}
use Rattle.kl_store.specs.Names.{Names}
use Rattle.kl_install.specs.After.{after}
use Rattle.kl_install.specs.Others.{IsNoneOf}
use Rattle.kl_install.specs.Recovery.{slot_end}
use Rattle.kl_install.specs.declared.recover.SlotEnd.{SlotEnd}
use Rattle.kl_install.specs.declared.recover.SlotEnd.TheVariants.{Nothing, Completed, Foreign, BadIntent}
use Rattle.kl_jobs.specs.declared.cause.Cause.{Cause}
use Rattle.kl_jobs.specs.declared.cause.Cause.TheVariants as cause

-- THE NAMES AFTER RECOVERY of the kernel's slot, and then of the libraries'
abbrev pub both_after : Names → Names
both_after m = after Libs (after Kernel m)

-- HOW EACH OF THEM ENDS, that of the libraries on the names that recovery of the kernel's left
abbrev pub both_ends : Names → List SlotEnd
both_ends m = slot_end Kernel m ∷ slot_end Libs (after Kernel m) ∷ []

-- how many slots were completed, one or none
abbrev pub completed : SlotEnd → ℕ
completed Nothing = 0
completed (Completed files) = 1
completed (Foreign entry target temp) = 0
completed (BadIntent line) = 0

-- WHY A SLOT ISN'T RECOVERED: an entry of its intent isn't sound, or its file is no intent of the slot
abbrev pub slot_cause : Slot → SlotEnd → Option Cause
slot_cause slot Nothing = None
slot_cause slot (Completed files) = None
slot_cause slot (Foreign entry target temp) = Some (cause.Foreign slot entry target temp)
slot_cause slot (BadIntent line) = Some (cause.Intent slot line)

-- THE FIRST REFUSAL of a recovery: the kernel's before the libraries'
abbrev pub ends_refusal : SlotEnd → SlotEnd → Option Cause
ends_refusal kernel libs = option_or (slot_cause Kernel kernel) (slot_cause Libs libs)

abbrev pub recovery_refusal : Names → Option Cause
recovery_refusal m = ends_refusal (slot_end Kernel m) (slot_end Libs (after Kernel m))

-- WHAT A STOP LEAVES OF A RECOVERY: it goes on to the same names, by the kernel's slot and then by the libraries'
abbrev pub RecoveryMayLeave : Names → Names → Type 0
RecoveryMayLeave m x = (after Kernel x ≡ after Kernel m) ⊎ (after Libs x ≡ both_after m)

-- the name is none of either intent's
abbrev pub IsNoneOfBoth : Names → List ℕ → Type 0
IsNoneOfBoth m n = IsNoneOf Kernel m n × IsNoneOf Libs (after Kernel m) n
