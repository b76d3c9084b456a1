-- The bases at which an image can be loaded (gABI, "Program Loading").
use Rattle.std.specs.Prelude.{ℕ, ◌+◌, ◌%◌, ◌^◌, Bool, not, ◌&&◌, ◌||◌, ◌==◌, nat_le, List}
use Rattle.std.specs.List.{list_all}
use Rattle.kl_elf.specs.declared.records.Ehdr.{Ehdr}
use Rattle.kl_elf.specs.declared.records.Phdr.{Phdr}
use Rattle.kl_elf.specs.declared.abi.TheConstants.{ET_EXEC}
use Rattle.kl_image.specs.Headers.{is_load}

-- the memory of a PT_LOAD header can be moved by a base: by a multiple of its alignment, and not past the end of the addresses
abbrev pub can_move : ℕ → Phdr → Bool
can_move base s = not (is_load s) || ((base % s.align == 0) && nat_le (base + (s.vaddr + s.memsz)) (2 ^ 64))

-- an image can be loaded at a base; an executable stays at its addresses
abbrev pub is_base : Ehdr → List Phdr → ℕ → Bool
is_base head headers base = (not (head.kind == ET_EXEC) || (base == 0)) && list_all (can_move base) headers
