-- An image at a base, and bytes that are written over a memory. For the contracts inside this crate alone.
use Rattle.std.specs.Prelude.{ℕ, ◌≡◌, ◌+◌, ◌-◌, true, ◌&&◌, nat_le, nat_lt, if◌then◌else◌, List, [], ◌++◌, Option, Some, option_map, unwrap_or}
use Rattle.std.specs.List.{list_all}
use Rattle.std.specs.Ordering.{nat_cmp}
use Rattle.std.specs.BTreeMap.{BTreeMap, get}
use Rattle.kl_elf.specs.declared.records.Rela.{Rela}
use Rattle.kl_elf.specs.declared.abi.TheConstants.{DT_JMPREL, DT_PLTRELSZ, DT_RELA, DT_RELASZ}
use Rattle.kl_model.specs.Memory.{Cell, segments}
use Rattle.kl_model.specs.Loaded.{relas_in}
use Rattle.kl_model.specs.Written.{byte_of}
use Rattle.kl_image.specs.Headers.{segment_flaws}
use Rattle.kl_image.specs.Bases.{can_move}
use Rattle.kl_image.specs.Covers.{IsCoverOf}
use Rattle.kl_image.specs.declared.placed.Placed.{Placed}

-- its program headers have no flaw, are kept by their addresses, and can be moved by the base
pub record IsPlaced (p : Placed) : Type 0 where
  pub sound : segment_flaws p.bytes.now ≡ []
  pub cover : IsCoverOf p.cover.starts (segments p.bytes.now)
  pub room : list_all (can_move p.base) (segments p.bytes.now) ≡ true

-- a memory with written bytes over it
abbrev pub over : BTreeMap ℕ ℕ → (ℕ → Option Cell) → ℕ → Option Cell
over written m a = option_map (λ c. record { byte = unwrap_or (get nat_cmp written a) c.byte; flags = c.flags }) (m a)

-- new has n low bytes of a number from an address on, and elsewhere what old has
abbrev pub HasWritten : BTreeMap ℕ ℕ → BTreeMap ℕ ℕ → ℕ → ℕ → ℕ → Type 0
HasWritten old new at number n =
    (a : ℕ) → get nat_cmp new a ≡ (if nat_le at a && nat_lt a (at + n) then Some (byte_of number (a - at)) else get nat_cmp old a)

-- the written bytes over one memory make the other
abbrev pub IsOver : BTreeMap ℕ ℕ → (ℕ → Option Cell) → (ℕ → Option Cell) → Type 0
IsOver written m n = (a : ℕ) → over written m a ≡ n a

-- the relocation entries of a shared object
abbrev pub table_entries : List ℕ → List Rela
table_entries b = relas_in b DT_RELA DT_RELASZ ++ relas_in b DT_JMPREL DT_PLTRELSZ
