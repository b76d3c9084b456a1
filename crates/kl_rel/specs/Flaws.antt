-- Flaws, and the first of several.
use Rattle.std.specs.Prelude.{ℕ, ◌≡◌, Bool, if◌then◌else◌, List, [], ◌∷◌, Option, Some, None}
use Rattle.std.specs.Option.{option_or}
use Rattle.kl_rel.specs.declared.fault.ReadKind.{ReadKind}
use Rattle.kl_rel.specs.declared.fault.ReadFault.{ReadFault}
use Rattle.kl_rel.specs.declared.fault.ReadError.{ReadError}
use Rattle.kl_rel.specs.declared.fault.ReadError.TheVariants.{Flaw, NoMemory}

-- a flaw of this kind at this place of the file, where the condition holds
abbrev pub flaw_if : Bool → ReadKind → ℕ → Option ReadFault
flaw_if stands kind at = if stands then Some (record { kind = kind; at = at }) else None

-- the first flaw that stands
abbrev pub first_of : List (Option ReadFault) → Option ReadFault
first_of [] = None
first_of (x ∷ xs) = option_or x (first_of xs)

-- a refusal is this flaw, or want of memory
abbrev pub IsAnswer : Option ReadFault → ReadError → Type 0
IsAnswer found (Flaw fault) = found ≡ Some fault
IsAnswer found NoMemory = Unit {0}
