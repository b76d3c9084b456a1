-- What a linker makes for fields: slots of the global offset table, stubs, and entries for the loader.
use Rattle.std.specs.Prelude.{ℕ, suc, ℤ, pos, Bool, true, false, cond, if◌then◌else◌, not, ◌&&◌, ◌||◌, ◌==◌, nat_eq, List, [], ◌∷◌, ◌++◌, map, filter, Option, Some, None, option_to_list}
use Rattle.kl_base.specs.declared.class.Class.{Class}
use Rattle.kl_base.specs.declared.class.Class.TheVariants.{Rwdata}
use Rattle.kl_elf.specs.declared.abi.TheConstants.{R_X86_64_64, R_X86_64_GLOB_DAT, R_X86_64_JUMP_SLOT, R_X86_64_PLT32, R_X86_64_RELATIVE}
use Rattle.kl_model.specs.Areas.{same_class}
use Rattle.kl_model.specs.Lists.{each, number_in, once, only_if}
use Rattle.kl_model.specs.Relocations.{is_kind, is_relative, is_slot_kind, width}
use Rattle.kl_model.specs.declared.graph.Field.{Field}
use Rattle.kl_model.specs.declared.graph.Graph.{Graph}
use Rattle.kl_model.specs.declared.graph.Target.{Target}
use Rattle.kl_model.specs.declared.graph.Target.TheVariants.{Place, Abs, Edge, Name, Zero, Gone}

abbrev pub same_flag : Bool → Bool → Bool
same_flag true b = b
same_flag false b = not b

abbrev pub same_target : Target → Target → Bool
same_target (Place n k) (Place m j) = (n == m) && (k == j)
same_target (Abs n) (Abs m) = n == m
same_target (Edge n e) (Edge m d) = (n == m) && same_flag e d
same_target (Name n) (Name m) = n == m
same_target Zero Zero = true
same_target Gone Gone = true
same_target _ _ = false

-- a target that moves with the base; a dynamic name; a number
abbrev pub is_moving : Target → Bool
is_moving (Place n k) = true
is_moving (Edge n e) = true
is_moving _ = false

abbrev pub is_name : Target → Bool
is_name (Name n) = true
is_name _ = false

abbrev pub is_number : Target → Bool
is_number (Abs n) = true
is_number Zero = true
is_number _ = false

-- how a field leads to its target: by itself, by the target's slot of the global offset table, by a stub that jumps through that
-- slot, or not at all
pub data Way : Type 0 where
  Directly : Way
  BySlot : Way
  ByStub : Way
  Nowhere : Way

-- the way of a relocation type to a target: a call by PLT32 to a dynamic name takes a stub
abbrev pub way : ℕ → Target → Way
way kind Gone = Nowhere
way kind (Name n) = if is_slot_kind kind then BySlot else if kind == R_X86_64_PLT32 then ByStub else Directly
way kind t = if is_slot_kind kind then BySlot else Directly

abbrev pub way_of : Field → Way
way_of f = way f.kind f.target

abbrev pub takes_stub : Way → Bool
takes_stub ByStub = true
takes_stub _ = false

abbrev pub takes_slot : Way → Bool
takes_slot BySlot = true
takes_slot w = takes_stub w

-- The slots of the global offset table, by number: each target that a field leads to by one, once, in the order of fields.
abbrev pub slots : Graph → List Target
slots g = once same_target (map (λ f. f.target) (filter (λ f. takes_slot (way_of f)) g.fields))

abbrev pub name_of : Target → ℕ
name_of (Name n) = n
name_of _ = 0

-- The stubs, by number: each dynamic name that a field leads to by one, likewise.
abbrev pub stubs : Graph → List ℕ
stubs g = once nat_eq (map (λ f. name_of f.target) (filter (λ f. takes_stub (way_of f)) g.fields))

-- the loader writes a field of the type 64 that leads to a name, or to what moves with the base
abbrev pub is_loaded : ℕ → Target → Bool
is_loaded kind t = (kind == R_X86_64_64) && (is_moving t || is_name t)

-- The value of a field isn't the same at every base, and no entry for the loader fits it: a relative one to a number, or but for
-- a call to a name; another one of fewer than 8 bytes to a name or to what moves.
abbrev pub is_not_fixed : ℕ → Target → Bool
is_not_fixed kind t =
    is_kind kind && (not (is_slot_kind kind)
    && (if is_relative kind then is_number t || (is_name t && not (kind == R_X86_64_PLT32)) else not (width kind == 8) && (not (width kind == 0) && (is_moving t || is_name t))))

-- The loader would have to write outside data.
abbrev pub is_read_only : Class → ℕ → Target → Bool
is_read_only c kind t = is_loaded kind t && not (same_class c Rwdata)

-- where the loader writes: in a piece at an offset, or in a slot
pub data Spot : Type 0 where
  InPiece : ℕ → ℕ → Spot
  InSlot : ℕ → Spot

-- an entry for the loader: its place, its type, the number of its symbol, where it leads and what is added
pub record Entry : Type 0 where
  pub spot : Spot
  pub kind : ℕ
  pub symbol : ℕ
  pub target : Target
  pub addend : ℤ

-- the entry of a field: of the type 64 with the name's symbol, which has the name's number and one, or RELATIVE
abbrev pub field_entry : Field → Target → Entry
field_entry f (Name n) =
    record { spot = InPiece f.piece f.offset; kind = R_X86_64_64; symbol = suc n; target = Name n; addend = f.addend }
field_entry f t = record { spot = InPiece f.piece f.offset; kind = R_X86_64_RELATIVE; symbol = 0; target = t; addend = f.addend }

-- the type of the entry of a name's slot: JUMP_SLOT where the name has a stub
abbrev pub slot_kind : Graph → ℕ → ℕ
slot_kind g n = if number_in (stubs g) n then R_X86_64_JUMP_SLOT else R_X86_64_GLOB_DAT

-- the entry of a slot: of a name, or RELATIVE; a number needs none
abbrev pub slot_entry : Graph → ℕ → Target → Option Entry
slot_entry g k (Name n) = Some (record { spot = InSlot k; kind = slot_kind g n; symbol = suc n; target = Name n; addend = pos 0 })
slot_entry g k t =
    if is_moving t then Some (record { spot = InSlot k; kind = R_X86_64_RELATIVE; symbol = 0; target = t; addend = pos 0 }) else None

-- The entries of a library, in the order of fields and slots; those of the first table, and those of the table of stubs.
abbrev pub entries : Graph → List Entry
entries g =
    each g.fields (λ k f. only_if (is_loaded f.kind f.target) (field_entry f f.target))
    ++ each (slots g) (λ k t. option_to_list (slot_entry g k t))

abbrev pub is_jump : Entry → Bool
is_jump e = e.kind == R_X86_64_JUMP_SLOT

abbrev pub rela_entries : Graph → List Entry
rela_entries g = filter (λ e. not (is_jump e)) (entries g)

abbrev pub jump_entries : Graph → List Entry
jump_entries g = filter is_jump (entries g)
