-- The sizes of the areas that a linker makes, the page, and where text is laid from.
use Rattle.std.specs.Prelude.{ℕ, suc, ◌+◌, ◌*◌, ◌/◌, Bool, cond, if◌then◌else◌, not, ◌&&◌, ◌==◌, List, [], ◌∷◌, ◌++◌, fold, length, max, sum_by, is_some, option_to_list}
use Rattle.std.specs.List.{list_any}
use Rattle.kl_base.specs.declared.limits.TheConstants.{PAGE}
use Rattle.kl_elf.specs.declared.abi.TheConstants.{DT_FINI, DT_FINI_ARRAY, DT_FINI_ARRAYSZ, DT_FLAGS, DT_HASH, DT_INIT, DT_INIT_ARRAY, DT_INIT_ARRAYSZ, DT_JMPREL, DT_NULL, DT_PLTGOT, DT_PLTREL, DT_PLTRELSZ, DT_RELA, DT_RELAENT, DT_RELASZ, DT_SONAME, DT_STRSZ, DT_STRTAB, DT_SYMENT, DT_SYMTAB}
use Rattle.kl_elf.specs.declared.records.TheConstants.Sym as sym
use Rattle.kl_elf.specs.declared.records.TheConstants.Rela as rela
use Rattle.kl_elf.specs.declared.records.TheConstants.Dyn as dyn
use Rattle.kl_model.specs.declared.area.TheConstants as area
use Rattle.kl_model.specs.Lists.{only_if, up}
use Rattle.kl_model.specs.Slots.{jump_entries, rela_entries, slots, stubs}
use Rattle.kl_model.specs.declared.graph.Graph.{Graph}
use Rattle.kl_model.specs.declared.kit.Kit.{Kit}
use Rattle.kl_model.specs.declared.kit.KitKind.{KitKind}
use Rattle.kl_model.specs.declared.kit.KitKind.TheVariants.{Kernel, Library}
use Rattle.kl_model.specs.declared.place.Made.{Made}

-- how many symbols the dynamic symbol table has, symbol 0 among them, and how many buckets its hash table (gABI, "Hash Table"; how
-- many: this project's own)
abbrev pub symbol_count : Graph → ℕ
symbol_count g = suc (length g.names)

abbrev pub bucket_count : Graph → ℕ
bucket_count g = symbol_count g / 2 + 1

-- a text with a zero byte behind it
abbrev pub ended_size : List ℕ → ℕ
ended_size t = suc (length t)

-- how many bytes the strings take: a zero byte and the names; then the soname; then the needed names
abbrev pub names_size : Graph → ℕ
names_size g = suc (sum_by (λ d. suc d.name.len) g.names)

abbrev pub soname_size : Kit → ℕ
soname_size kit = sum_by ended_size (option_to_list kit.soname)

abbrev pub strings_size : Kit → Graph → ℕ
strings_size kit g = names_size g + (soname_size kit + sum_by ended_size kit.needed)

-- Where the parts of the area `tables` stand in it, each aligned to 8 bytes: the hash table, which is first, symbols, strings, the
-- entries RELATIVE, 64 and GLOB_DAT, and the entries JUMP_SLOT; and where they end.
pub record TableParts : Type 0 where
  pub symbols : ℕ
  pub strings : ℕ
  pub relas : ℕ
  pub jumps : ℕ
  pub stop : ℕ

abbrev pub tables_of : Kit → Graph → TableParts
tables_of kit g =
    let symbols = up (8 + 4 * (bucket_count g + symbol_count g)) 8 in
    let strings = symbols + sym.SIZE * symbol_count g in
    let relas = up (strings + strings_size kit g) 8 in
    let jumps = relas + rela.SIZE * length (rela_entries g) in
    record { symbols = symbols; strings = strings; relas = relas; jumps = jumps; stop = jumps + rela.SIZE * length (jump_entries g) }

-- a piece of an area has a byte
abbrev pub has_bytes : Graph → ℕ → Bool
has_bytes g n = list_any (λ x. (x.area == n) && not (x.size == 0)) g.pieces

-- The tags of the dynamic section behind its DT_NEEDED entries (gABI, "Dynamic Section").
abbrev pub tags : Kit → Graph → List ℕ
tags kit g =
    only_if (is_some kit.soname) DT_SONAME
    ++ (only_if (has_bytes g area.INIT) DT_INIT ++ (only_if (has_bytes g area.FINI) DT_FINI
    ++ ((if has_bytes g area.INIT_ARRAY then DT_INIT_ARRAY ∷ DT_INIT_ARRAYSZ ∷ [] else [])
    ++ ((if has_bytes g area.FINI_ARRAY then DT_FINI_ARRAY ∷ DT_FINI_ARRAYSZ ∷ [] else [])
    ++ (DT_HASH ∷ DT_STRTAB ∷ DT_SYMTAB ∷ DT_STRSZ ∷ DT_SYMENT ∷ []
    ++ ((if length (rela_entries g) == 0 then [] else DT_RELA ∷ DT_RELASZ ∷ DT_RELAENT ∷ [])
    ++ ((if length (jump_entries g) == 0 then [] else DT_JMPREL ∷ DT_PLTRELSZ ∷ DT_PLTREL ∷ DT_PLTGOT ∷ []) ++ DT_FLAGS ∷ DT_NULL ∷ [])))))))

-- The sizes of the made areas: a slot has eight bytes, a stub sixteen. In a kernel only `got` has bytes.
abbrev pub made_for : KitKind → Kit → Graph → Made
made_for Kernel kit g = record { stubs = 0; tables = 0; got = 8 * length (slots g); dynamic = 0 }
made_for Library kit g = record {
  stubs = 16 * length (stubs g);
  tables = (tables_of kit g).stop;
  got = 8 * length (slots g);
  dynamic = dyn.SIZE * (length kit.needed + length (tags kit g));
}

abbrev pub made_of : Kit → Graph → Made
made_of kit g = made_for kit.kind kit g

-- The page, in bytes: in a library the greatest alignment of a piece, where that is more.
abbrev pub page_for : KitKind → Graph → ℕ
page_for Kernel g = PAGE
page_for Library g = fold (λ n x. max n x.align) PAGE g.pieces

abbrev pub page_of : Kit → Graph → ℕ
page_of kit g = page_for kit.kind g

-- Where text is laid from: the base of a kernel; in a library one page behind it, since its headers stand there.
abbrev pub text_from_for : KitKind → ℕ → Graph → ℕ
text_from_for Kernel base g = base
text_from_for Library base g = base + page_for Library g

abbrev pub text_from : Kit → Graph → ℕ
text_from kit g = text_from_for kit.kind kit.base g
