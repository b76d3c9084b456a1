-- A name's symbol, found through the hash table (gABI, "Hash Table").
use Rattle.std.specs.Prelude.{ℕ, zero, suc, ◌+◌, ◌*◌, ◌%◌, cond, if◌then◌else◌, not, ◌&&◌, ◌==◌, List, Option, Some, None, option_and_then}
use Rattle.std.specs.Str.{bytes_eq}
use Rattle.std.specs.Option.{option_map_or}
use Rattle.kl_le.specs.Bytes.{num, text}
use Rattle.kl_elf.specs.Records.{sym_at}
use Rattle.kl_model.specs.Tables.{symbol_hash}
use Rattle.kl_model.specs.Loaded.{table_at, chain_count, dyn_value}
use Rattle.kl_elf.specs.declared.abi.TheConstants.{DT_HASH, DT_STRSZ, DT_STRTAB, DT_SYMTAB, SHN_UNDEF}
use Rattle.kl_elf.specs.declared.records.TheConstants.Sym as sym

-- The walk of at most n steps from symbol y on, in bytes with a hash table, symbols and strings at places: the first symbol that
-- is defined (its section isn't SHN_UNDEF) and has the name. The chain stands behind the buckets; symbol 0 ends it.
abbrev pub walk : List ℕ → ℕ → ℕ → ℕ → List ℕ → ℕ → ℕ → Option ℕ
walk b hash symbols strings name zero y = None
walk b hash symbols strings name (suc n) y =
    let here = sym_at b (symbols + sym.SIZE * y) in
    if y == 0 then None
    else if not (here.shndx == SHN_UNDEF) && bytes_eq (text b (strings + here.name)) name then Some here.value
    else walk b hash symbols strings name n (num b (hash + (8 + 4 * (num b hash 4 + y))) 4)

-- from the bucket of the name on
abbrev pub found_at : List ℕ → ℕ → ℕ → ℕ → List ℕ → Option ℕ
found_at b hash symbols strings name =
    walk b hash symbols strings name (num b (hash + 4) 4) (num b (hash + (8 + 4 * (symbol_hash name % num b hash 4))) 4)

-- The value of the symbol that an image has for a name, by the tables that its dynamic section names.
abbrev pub found : List ℕ → List ℕ → Option ℕ
found b name =
    option_and_then (λ hash. option_and_then (λ symbols. option_and_then (λ strings. found_at b hash symbols strings name)
    (table_at b DT_STRTAB (dyn_value b DT_STRSZ))) (table_at b DT_SYMTAB (sym.SIZE * chain_count b))) (table_at b DT_HASH 8)
