-- The stubs of a library, by number. For the contracts inside this crate alone.
use Rattle.std.specs.Prelude.{ℕ, ◌+◌, ◌*◌, ◌<◌, ◌≡◌, List, length, unwrap_or, Some}
use Rattle.std.specs.List.{position_from}
use Rattle.kl_model.specs.Slots.{same_target}
use Rattle.kl_model.specs.Tables.{stub_code}
use Rattle.kl_model.specs.declared.graph.Target.{Target}
use Rattle.kl_model.specs.declared.graph.Target.TheVariants.{Name}

-- a dynamic name has a slot, and its address in a table from a place on
abbrev pub HasSlot : List Target → ℕ → Type 0
HasSlot slots n = (k : ℕ) × (k < length slots) × (position_from (same_target (Name n)) 0 slots ≡ Some k)

abbrev pub slot_from : ℕ → List Target → ℕ → ℕ
slot_from start slots n = start + 8 * unwrap_or (position_from (same_target (Name n)) 0 slots) 0

-- the stub of a name by its number, in an area from a place on
abbrev pub nth_stub : ℕ → ℕ → List Target → ℕ → ℕ → List ℕ
nth_stub stubs got slots k n = stub_code (stubs + 16 * k) (slot_from got slots n)
