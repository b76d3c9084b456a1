-- Fields whose values are known, and what those are. For the contracts inside this crate alone.
use Rattle.std.specs.Prelude.{ℕ, ◌<◌, ◌+◌, ◌*◌, ◌%◌, ◌^◌, length, unwrap_or, not, IsTrue, List}
use Rattle.std.specs.List.{position_from}
use Rattle.kl_model.specs.Faults.{does_fit}
use Rattle.kl_model.specs.Leads.{field_address, slot_place, value_target}
use Rattle.kl_model.specs.Laid.{area_at}
use Rattle.kl_model.specs.Lists.{only_if}
use Rattle.kl_model.specs.Relocations.{is_kind}
use Rattle.kl_model.specs.Slots.{same_target}
use Rattle.kl_model.specs.declared.area.TheConstants as area
use Rattle.kl_model.specs.declared.graph.Field.{Field}
use Rattle.kl_model.specs.declared.graph.Graph.{Graph}
use Rattle.kl_model.specs.declared.graph.Target.{Target}
use Rattle.kl_model.specs.declared.link.LinkFault.{LinkFault}
use Rattle.kl_model.specs.declared.link.LinkFault.TheVariants as fault
use Rattle.kl_model.specs.declared.place.Placement.{Placement}
use Rattle.kl_write.specs.Targets.{IsPlacedTarget}

-- a field of a type that is linked, whose piece and whose target have a place
pub record IsPlacedField (g : Graph) (p : Placement) (f : Field) : Type 0 where
  pub piece : f.piece < length p.pieces
  pub kind : IsTrue (is_kind f.kind)
  pub target : IsPlacedTarget g p f.target
  pub got : area.GOT < length p.areas
  pub stubs : area.STUBS < length p.areas

-- the address of a target's slot, by its number among the slots
abbrev pub slot_address : Placement → List Target → Target → ℕ
slot_address p slots t = slot_place p (unwrap_or (position_from (same_target t) 0 slots) 0) % 2 ^ 64

-- the address of a target's stub, by its number among the targets of stubs
abbrev pub stub_address : Placement → List Target → Target → ℕ
stub_address p stubs t = ((area_at p area.STUBS).start + 16 * unwrap_or (position_from (same_target t) 0 stubs) 0) % 2 ^ 64

-- the fault of a field whose value is out of range
abbrev pub range_fault : Placement → Graph → Field → LinkFault
range_fault p g f = fault.Range f.from (value_target p g f) f.addend (field_address p g f)

abbrev pub range_faults_of : Placement → Graph → Field → List LinkFault
range_faults_of p g f = only_if (not (does_fit p g f)) (range_fault p g f)
