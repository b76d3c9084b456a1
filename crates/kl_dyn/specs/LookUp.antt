-- A step of a look-up through a hash table. For the contracts inside this crate alone.
use Rattle.std.specs.Prelude.{ℕ, ◌+◌, ◌*◌, if◌then◌else◌, not, ◌&&◌, ◌==◌, List, Option, Some, None}
use Rattle.std.specs.Str.{bytes_eq}
use Rattle.kl_le.specs.Bytes.{text}
use Rattle.kl_elf.specs.Records.{sym_at}
use Rattle.kl_elf.specs.declared.abi.TheConstants.{SHN_UNDEF}
use Rattle.kl_elf.specs.declared.records.TheConstants.Sym as sym

-- the value of symbol y, where it is defined and has the name
abbrev pub defined_value : List ℕ → ℕ → ℕ → List ℕ → ℕ → Option ℕ
defined_value b symbols strings name y =
    let here = sym_at b (symbols + sym.SIZE * y) in
    if not (here.shndx == SHN_UNDEF) && bytes_eq (text b (strings + here.name)) name then Some here.value else None
