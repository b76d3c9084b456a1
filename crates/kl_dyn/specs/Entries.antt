-- The entries of fields and of slots. For the contracts inside this crate alone.
use Rattle.std.specs.Prelude.{ℕ, ◌<◌, ◌≡◌, Bool, false, not, List, filter, length, map, option_to_list, slice_index_or}
use Rattle.kl_elf.specs.declared.records.Rela.{Rela}
use Rattle.kl_model.specs.Lists.{each, number_in, only_if}
use Rattle.kl_model.specs.Slots.{Entry, field_entry, is_jump, is_loaded, slot_entry, stubs}
use Rattle.kl_model.specs.Tables.{rela_of}
use Rattle.kl_model.specs.declared.graph.Field.{Field}
use Rattle.kl_model.specs.declared.graph.Graph.{Graph}
use Rattle.kl_model.specs.declared.graph.Target.{Target}
use Rattle.kl_model.specs.declared.graph.Target.TheVariants.{Name}
use Rattle.kl_model.specs.declared.place.Placement.{Placement}
use Rattle.kl_write.specs.Targets.{IsPlacedTarget}

abbrev pub field_entries : List Field → List Entry
field_entries fs = each fs (λ k f. only_if (is_loaded f.kind f.target) (field_entry f f.target))

abbrev pub slot_entries : Graph → List Target → List Entry
slot_entries g ts = each ts (λ k t. option_to_list (slot_entry g k t))

-- the rows of fields in the first table
abbrev pub field_relas : Placement → Graph → List Field → List Rela
field_relas p g fs = map (rela_of p g) (field_entries fs)

-- the row of a slot in the first table, and in that of stubs
abbrev pub slot_relas : Placement → Graph → ℕ → Target → List Rela
slot_relas p g k t = map (rela_of p g) (filter (λ e. not (is_jump e)) (option_to_list (slot_entry g k t)))

abbrev pub slot_jumps : Placement → Graph → ℕ → Target → List Rela
slot_jumps p g k t = map (rela_of p g) (filter is_jump (option_to_list (slot_entry g k t)))

-- a target that has a place, or a name that has a symbol
abbrev pub IsKnownTarget : Graph → Placement → Target → Type 0
IsKnownTarget g p (Name n) = n < length g.names
IsKnownTarget g p t = IsPlacedTarget g p t

-- a field whose piece has a place, and whose target is known
pub record IsKnownField (g : Graph) (p : Placement) (f : Field) : Type 0 where
  pub piece : f.piece < length p.pieces
  pub target : IsKnownTarget g p f.target

-- whether each name has a stub, by its number
pub record AreStubbed (g : Graph) (bs : List Bool) : Type 0 where
  pub count : length bs ≡ length g.names
  pub stubs : (n : ℕ) → n < length bs → slice_index_or bs n false ≡ number_in (stubs g) n
