-- Where targets, slots and stubs stand in a placement, and what a field's value leads to.
use Rattle.std.specs.Prelude.{ℕ, ◌+◌, ◌*◌, ◌%◌, ◌^◌, Bool, true, false, cond, if◌then◌else◌, not, ◌&&◌, ◌||◌, nat_eq, List, slice_index_or, unwrap_or}
use Rattle.std.specs.List.{position_from}
use Rattle.kl_model.specs.Kits.{is_kernel}
use Rattle.kl_model.specs.Laid.{area_at, no_area, place_of}
use Rattle.kl_model.specs.Reaches.{value}
use Rattle.kl_model.specs.Slots.{Way, Directly, BySlot, ByStub, Nowhere, is_loaded, name_of, same_target, slots, stubs, way_of}
use Rattle.kl_model.specs.declared.area.TheConstants as area
use Rattle.kl_model.specs.declared.place.Body.TheVariants as body
use Rattle.kl_model.specs.declared.place.Placement.{Placement}
use Rattle.kl_model.specs.declared.graph.Field.{Field}
use Rattle.kl_model.specs.declared.graph.Graph.{Graph}
use Rattle.kl_model.specs.declared.graph.Target.{Target}
use Rattle.kl_model.specs.declared.graph.Target.TheVariants.{Place, Abs, Edge, Name, Zero, Gone}
use Rattle.kl_model.specs.declared.kit.Kit.{Kit}

-- the address of a target (psABI, S), modulo 2^64; a number is its own, and a name that the loader looks for has none yet
abbrev pub address_of : Placement → Graph → Target → ℕ
address_of p g (Place n k) = (place_of p g (body.Piece n) + k) % 2 ^ 64
address_of p g (Abs n) = n
address_of p g (Edge n false) = (slice_index_or p.areas n no_area).start
address_of p g (Edge n true) = (slice_index_or p.areas n no_area).end
address_of p g (Name n) = 0
address_of p g Zero = 0
address_of p g Gone = 0

-- slot k of the global offset table, and that of a target
abbrev pub slot_place : Placement → ℕ → ℕ
slot_place p k = (area_at p area.GOT).start + 8 * k

abbrev pub target_slot : Placement → Graph → Target → ℕ
target_slot p g t = slot_place p (unwrap_or (position_from (same_target t) 0 (slots g)) 0)

-- the stub of a name
abbrev pub target_stub : Placement → Graph → Target → ℕ
target_stub p g t = (area_at p area.STUBS).start + 16 * unwrap_or (position_from (nat_eq (name_of t)) 0 (stubs g)) 0

-- what a field's value leads to by its way: its target (psABI, S), the target's slot, or its stub (L)
abbrev pub led_to : Placement → Graph → Target → Way → ℕ
led_to p g t Directly = address_of p g t
led_to p g t BySlot = target_slot p g t % 2 ^ 64
led_to p g t ByStub = target_stub p g t % 2 ^ 64
led_to p g t Nowhere = 0

abbrev pub value_target : Placement → Graph → Field → ℕ
value_target p g f = led_to p g f.target (way_of f)

-- the field's own address (psABI, P), and its value
abbrev pub field_address : Placement → Graph → Field → ℕ
field_address p g f = (place_of p g (body.Piece f.piece) + f.offset) % 2 ^ 64

abbrev pub field_value : Placement → Graph → Field → ℕ
field_value p g f = value f.kind (value_target p g f) f.addend (field_address p g f)

-- a field that the loader writes, or that leads nowhere, holds zero in the file
abbrev pub is_blank : Kit → Field → Bool
is_blank kit f = same_target f.target Gone || (not (is_kernel kit.kind) && is_loaded f.kind f.target)

abbrev pub filed_value : Kit → Placement → Graph → Field → ℕ
filed_value kit p g f = if is_blank kit f then 0 else field_value p g f
