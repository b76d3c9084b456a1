-- Kits whose addresses fit under every order: neither the span nor a value is ever refused.
use Rattle.std.specs.Prelude.{ℕ, ◌+◌, ◌-◌, ◌*◌, ◌^◌, ◌≡◌, ◌≤◌, ◌⊎◌, ⊤, ℤ, pos, negsuc, ◌+ℤ◌, ◌-ℤ◌, ◌≤ℤ◌, Bool, true, List, ◌∷◌, [], length, sum_by, All}
use Rattle.kl_model.specs.Slots.{slots, stubs}
use Rattle.kl_model.specs.Sizes.{made_of}
use Rattle.kl_model.specs.Relocations.{in_range, is_slot_kind}
use Rattle.kl_model.specs.Reaches.{value}
use Rattle.kl_model.specs.declared.graph.Field.{Field}
use Rattle.kl_model.specs.declared.graph.Graph.{Graph}
use Rattle.kl_model.specs.declared.graph.Target.{Target}
use Rattle.kl_model.specs.declared.graph.Target.TheVariants.{Place, Abs, Edge, Name, Zero, Gone}
use Rattle.kl_model.specs.declared.kit.Kit.{Kit}
use Rattle.kl_elf.specs.declared.abi.TheConstants.{R_X86_64_16, R_X86_64_32, R_X86_64_32S, R_X86_64_64, R_X86_64_8, R_X86_64_PC32, R_X86_64_PC64, R_X86_64_PLT32}
use Rattle.kl_base.specs.declared.limits.TheConstants.{GAP_ROOM, NEAR_LIMIT, PAGE_ROOM, SPAN_LIMIT}

-- a sum of an offset and an addend lies between two numbers
abbrev pub LiesBetween : ℤ → ℕ → ℤ → ℤ → Type 0
LiesBetween low offset a high = (low ≤ℤ (pos offset +ℤ a)) × ((pos offset +ℤ a) ≤ℤ high)

abbrev pub IsNear : ℕ → ℤ → Type 0
IsNear offset a = LiesBetween (negsuc (NEAR_LIMIT - 1)) offset a (pos NEAR_LIMIT)

-- a field of eight bytes has any value
abbrev pub IsWide : Field → Type 0
IsWide f = (f.kind ≡ R_X86_64_64) ⊎ (f.kind ≡ R_X86_64_PC64)

-- a slot kind with a near addend
abbrev pub SlotIsNear : Field → Type 0
SlotIsNear f = (is_slot_kind f.kind ≡ true) × IsNear 0 f.addend

-- PC32 or PLT32 near its target
abbrev pub CallIsNear : Field → ℕ → Type 0
CallIsNear f k = ((f.kind ≡ R_X86_64_PC32) ⊎ (f.kind ≡ R_X86_64_PLT32)) × IsNear k f.addend

-- 32S in a kernel near the top of memory, from where addresses are numbers with a sign
abbrev pub high_memory : ℕ
high_memory = 2 ^ 64 - 2 ^ 31

abbrev pub IsHigh : Kit → Field → ℕ → Type 0
IsHigh kit f k =
    (f.kind ≡ R_X86_64_32S) × (high_memory ≤ kit.base) × LiesBetween (pos high_memory -ℤ pos kit.base) k f.addend (pos NEAR_LIMIT)

-- an absolute type with a number in range
abbrev pub NumberFits : Field → ℕ → Type 0
NumberFits f n =
    ((f.kind ≡ R_X86_64_32) ⊎ ((f.kind ≡ R_X86_64_32S) ⊎ ((f.kind ≡ R_X86_64_16) ⊎ (f.kind ≡ R_X86_64_8))))
    × (in_range f.kind (value f.kind n f.addend 0) ≡ true)

-- a field of a roomy kit, by its type and its target
abbrev pub IsRoomyField : Kit → Field → Target → Type 0
IsRoomyField kit f (Place n k) = IsWide f ⊎ (SlotIsNear f ⊎ (CallIsNear f k ⊎ IsHigh kit f k))
IsRoomyField kit f (Edge n e) = IsWide f ⊎ (SlotIsNear f ⊎ (CallIsNear f 0 ⊎ IsHigh kit f 0))
IsRoomyField kit f (Name n) = IsWide f ⊎ (SlotIsNear f ⊎ CallIsNear f 0)
IsRoomyField kit f (Abs n) = IsWide f ⊎ (SlotIsNear f ⊎ NumberFits f n)
IsRoomyField kit f Zero = IsWide f ⊎ (SlotIsNear f ⊎ NumberFits f 0)
IsRoomyField kit f Gone = ⊤

-- how many bytes a kit may take at most, under any order
abbrev pub room_taken : Kit → Graph → ℕ
room_taken kit g =
    sum_by (λ x. x.size + x.align) g.pieces
    + (16 * length (stubs g) + (8 * length (slots g) + ((made_of kit g).tables + ((made_of kit g).dynamic + (GAP_ROOM + PAGE_ROOM)))))

-- A roomy kit.
pub record IsRoomy (kit : Kit) (g : Graph) : Type 0 where
  pub small : room_taken kit g ≤ SPAN_LIMIT
  pub near : All (λ f. IsRoomyField kit f f.target) g.fields
