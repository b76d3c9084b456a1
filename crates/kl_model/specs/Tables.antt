-- The bytes of the areas that a linker makes: slots, stubs, dynamic tables and the dynamic section.
use Rattle.std.specs.Prelude.{ℕ, zero, suc, ◌+◌, ◌-◌, ◌*◌, ◌/◌, ◌%◌, ◌^◌, Bool, true, false, cond, if◌then◌else◌, not, ◌&&◌, ◌||◌, ◌==◌, nat_lt, List, [], ◌∷◌, ◌++◌, map, flat_map, fold, length, replicate, slice_get, unwrap_or, option_to_list, bit_and, bit_xor, sum_by, Option, Some, None}
use Rattle.std.specs.Option.{option_map_or}
use Rattle.std.specs.List.{range_with_len}
use Rattle.std.specs.Int.{cast_signed, cast_unsigned, w64}
use Rattle.kl_base.specs.declared.class.Class.{Class}
use Rattle.kl_base.specs.declared.class.Class.TheVariants.{Text, Rodata, Rwdata, Bss}
use Rattle.kl_elf.specs.declared.records.Sym.{Sym}
use Rattle.kl_elf.specs.declared.records.Rela.{Rela}
use Rattle.kl_elf.specs.declared.records.Dyn.{Dyn}
use Rattle.kl_model.specs.Texts.{text_at}
use Rattle.kl_model.specs.Lists.{in_order}
use Rattle.kl_model.specs.Kits.{is_kernel}
use Rattle.kl_model.specs.Areas.{class_number}
use Rattle.kl_model.specs.Kept.{input_at}
use Rattle.kl_model.specs.Slots.{Spot, InPiece, InSlot, Entry, slots, stubs, is_moving, rela_entries, jump_entries}
use Rattle.kl_model.specs.Sizes.{bucket_count, names_size, soname_size, strings_size, symbol_count, tables_of, tags}
use Rattle.kl_model.specs.Laid.{place_of, area_at}
use Rattle.kl_model.specs.Reaches.{plus, less}
use Rattle.kl_model.specs.Leads.{address_of, slot_place, target_slot, target_stub}
use Rattle.kl_model.specs.Written.{bytes_of, sym_bytes, rela_bytes, dyn_bytes}
use Rattle.kl_model.specs.declared.place.Body.TheVariants as body
use Rattle.kl_model.specs.declared.place.Placement.{Placement}
use Rattle.kl_model.specs.declared.graph.DynName.{DynName}
use Rattle.kl_model.specs.declared.graph.Graph.{Graph}
use Rattle.kl_model.specs.declared.graph.Piece.{Piece}
use Rattle.kl_model.specs.declared.graph.PieceId.TheVariants as id
use Rattle.kl_model.specs.declared.graph.Target.{Target}
use Rattle.kl_model.specs.declared.graph.Target.TheVariants.{Place, Abs, Edge, Name, Zero, Gone}
use Rattle.kl_model.specs.declared.object.Input.{Input}
use Rattle.kl_model.specs.declared.kit.Kit.{Kit}
use Rattle.kl_elf.specs.declared.abi.TheConstants.{DF_BIND_NOW, DT_FINI, DT_FINI_ARRAY, DT_FINI_ARRAYSZ, DT_FLAGS, DT_HASH, DT_INIT, DT_INIT_ARRAY, DT_INIT_ARRAYSZ, DT_JMPREL, DT_NEEDED, DT_PLTGOT, DT_PLTREL, DT_PLTRELSZ, DT_RELA, DT_RELAENT, DT_RELASZ, DT_SONAME, DT_STRSZ, DT_STRTAB, DT_SYMENT, DT_SYMTAB, SHN_ABS, SHN_UNDEF, STB_GLOBAL, STB_WEAK}
use Rattle.kl_elf.specs.declared.records.TheConstants.Sym as sym
use Rattle.kl_elf.specs.declared.records.TheConstants.Rela as rela
use Rattle.kl_model.specs.declared.area.TheConstants as area

-- one step of the hash function (gABI, "Hash Table"), and the hash of a name
abbrev pub hash_step : ℕ → ℕ → ℕ
hash_step h c =
    let sum = (h * 16 + c) % 2 ^ 32 in
    let high = bit_and sum 0xf0000000 in
    bit_xor sum (high / 256 ^ 3) - high

abbrev pub symbol_hash : List ℕ → ℕ
symbol_hash name = fold hash_step 0 name

-- the bytes of a dynamic name
abbrev pub dyn_text : List Input → DynName → List ℕ
dyn_text inputs d = text_at (input_at inputs d.input).bytes d.name

abbrev pub no_dyn : DynName
no_dyn = record { input = 0; name = record { at = 0; len = 0 }; exported = None; weak = false; visibility = 0; kind = 0; size = 0 }

-- the bucket of each symbol from number 1 on
abbrev pub buckets_of : List Input → Graph → List ℕ
buckets_of inputs g = map (λ d. symbol_hash (dyn_text inputs d) % bucket_count g) g.names

-- the first symbol of a bucket among those from number n on, and 0 where there is none
abbrev pub first_in : ℕ → ℕ → List ℕ → ℕ
first_in b n [] = 0
first_in b n (x ∷ xs) = if x == b then n else first_in b (suc n) xs

-- the next symbol of the bucket of each
abbrev pub chains_from : ℕ → List ℕ → List ℕ
chains_from n [] = []
chains_from n (x ∷ xs) = first_in x (suc n) xs ∷ chains_from (suc n) xs

-- the words of the hash table: how many buckets and symbols, the first symbol of each bucket, the next symbol of each symbol
abbrev pub hash_words : List Input → Graph → List ℕ
hash_words inputs g =
    let symbols = buckets_of inputs g in
    bucket_count g ∷ symbol_count g ∷ (map (λ b. first_in b 1 symbols) (range_with_len 0 (bucket_count g)) ++ 0 ∷ chains_from 1 symbols)

-- the section number of an exported name: that of its class, from 1 to 4, or SHN_ABS
abbrev pub class_at : Graph → ℕ → ℕ
class_at g n = option_map_or (λ x. class_number x.class) (slice_get g.pieces n) 0

abbrev pub section_number : Graph → Option Target → ℕ
section_number g (Some (Place n k)) = suc (class_at g n)
section_number g (Some (Abs n)) = SHN_ABS
section_number g _ = SHN_UNDEF

-- the symbol of a dynamic name whose text stands at a place of the strings
abbrev pub sym_of : Placement → Graph → ℕ → DynName → Sym
sym_of p g at d = record {
  name = at;
  info = 16 * (if d.weak then STB_WEAK else STB_GLOBAL) + d.kind;
  other = d.visibility;
  shndx = section_number g d.exported;
  value = option_map_or (address_of p g) d.exported 0;
  size = d.size;
}

abbrev pub no_sym : Sym
no_sym = record { name = 0; info = 0; other = 0; shndx = 0; value = 0; size = 0 }

abbrev pub syms_from : Placement → Graph → ℕ → List DynName → List Sym
syms_from p g at [] = []
syms_from p g at (d ∷ ds) = sym_of p g at d ∷ syms_from p g (suc (at + d.name.len)) ds

abbrev pub symbols_of : Placement → Graph → List Sym
symbols_of p g = no_sym ∷ syms_from p g 1 g.names

-- texts, each with a zero byte behind it
abbrev pub ended : List ℕ → List ℕ
ended t = t ++ 0 ∷ []

abbrev pub strings_of : Kit → List Input → Graph → List ℕ
strings_of kit inputs g = 0 ∷ (flat_map (λ d. ended (dyn_text inputs d)) g.names ++ (flat_map ended (option_to_list kit.soname) ++ flat_map ended kit.needed))

-- an entry in the tables: the address where the loader writes, its symbol and type, and what is added
abbrev pub spot_at : Placement → Graph → Spot → ℕ
spot_at p g (InPiece n k) = (place_of p g (body.Piece n) + k) % 2 ^ 64
spot_at p g (InSlot k) = slot_place p k % 2 ^ 64

abbrev pub added : Placement → Graph → Entry → ℕ
added p g e = if is_moving e.target then plus (address_of p g e.target) (cast_unsigned w64 e.addend) else cast_unsigned w64 e.addend

abbrev pub rela_of : Placement → Graph → Entry → Rela
rela_of p g e = record { offset = spot_at p g e.spot; info = e.symbol * 2 ^ 32 + e.kind; addend = cast_signed w64 (added p g e) }

-- entries as they stand in a table: by ascending address
abbrev pub relas_of : Placement → Graph → List Entry → List Rela
relas_of p g es = in_order (λ r x. nat_lt r.offset x.offset) (map (rela_of p g) es)

-- bytes, and zero bytes up to a place
abbrev pub padded_to : ℕ → List ℕ → List ℕ
padded_to n b = b ++ replicate (n - length b) 0

-- The area `tables`: hash table, symbols, strings, entries RELATIVE, 64 and GLOB_DAT, entries JUMP_SLOT.
abbrev pub tables_bytes : Kit → List Input → Graph → Placement → List ℕ
tables_bytes kit inputs g p =
    let t = tables_of kit g in
    padded_to t.symbols (flat_map (bytes_of 4) (hash_words inputs g))
    ++ (padded_to (t.relas - t.symbols) (flat_map sym_bytes (symbols_of p g) ++ strings_of kit inputs g)
    ++ (flat_map rela_bytes (relas_of p g (rela_entries g)) ++ flat_map rela_bytes (relas_of p g (jump_entries g))))

-- the DT_NEEDED entries of names that stand in the strings from a place on
abbrev pub needed_from : ℕ → List (List ℕ) → List Dyn
needed_from at [] = []
needed_from at (t ∷ ts) = record { tag = DT_NEEDED; value = at } ∷ needed_from (suc (at + length t)) ts

-- the value of each tag behind NEEDED: an address, a size in bytes, or a place in the strings
abbrev pub area_size : Placement → ℕ → ℕ
area_size p n = (area_at p n).end - (area_at p n).start

abbrev pub tag_value : Kit → Graph → Placement → ℕ → ℕ
tag_value kit g p tag =
    let t = tables_of kit g in
    let start = (area_at p area.TABLES).start in
    if tag == DT_SONAME then names_size g
    else if tag == DT_INIT then (area_at p area.INIT).start else if tag == DT_FINI then (area_at p area.FINI).start
    else if tag == DT_INIT_ARRAY then (area_at p area.INIT_ARRAY).start else if tag == DT_INIT_ARRAYSZ then area_size p area.INIT_ARRAY
    else if tag == DT_FINI_ARRAY then (area_at p area.FINI_ARRAY).start else if tag == DT_FINI_ARRAYSZ then area_size p area.FINI_ARRAY
    else if tag == DT_HASH then start else if tag == DT_STRTAB then start + t.strings else if tag == DT_SYMTAB then start + t.symbols
    else if tag == DT_STRSZ then strings_size kit g else if tag == DT_SYMENT then sym.SIZE
    else if tag == DT_RELA then start + t.relas else if tag == DT_RELASZ then t.jumps - t.relas else if tag == DT_RELAENT then rela.SIZE
    else if tag == DT_JMPREL then start + t.jumps else if tag == DT_PLTRELSZ then t.stop - t.jumps else if tag == DT_PLTREL then DT_RELA
    else if tag == DT_PLTGOT then (area_at p area.GOT).start else if tag == DT_FLAGS then DF_BIND_NOW else 0

-- The dynamic section.
abbrev pub dynamic_of : Kit → Graph → Placement → List Dyn
dynamic_of kit g p =
    needed_from (names_size g + soname_size kit) kit.needed
    ++ map (λ tag. record { tag = tag; value = tag_value kit g p tag }) (tags kit g)

-- the slots: in a library those that the loader writes hold zero
abbrev pub slot_value : Kit → Placement → Graph → Target → ℕ
slot_value kit p g t = if not (is_kernel kit.kind) && is_moving t then 0 else address_of p g t

abbrev pub got_bytes : Kit → Graph → Placement → List ℕ
got_bytes kit g p = flat_map (λ t. bytes_of 8 (slot_value kit p g t)) (slots g)

-- a stub (psABI, "Procedure Linkage Table"): a jump of six bytes through its name's slot, with the distance from behind the jump,
-- and ten bytes of padding
abbrev pub stub_code : ℕ → ℕ → List ℕ
stub_code stub slot = bytes_of 2 area.JUMP ++ (bytes_of 4 (less (less slot stub) 6 % 2 ^ 32) ++ replicate 10 area.INT3)

abbrev pub stubs_bytes : Graph → Placement → List ℕ
stubs_bytes g p = flat_map (λ n. stub_code (target_stub p g (Name n)) (target_slot p g (Name n))) (stubs g)

-- The bytes of a made area. In a kernel only `got` has some.
abbrev pub made_bytes : Kit → List Input → Graph → Placement → ℕ → List ℕ
made_bytes kit inputs g p n =
    if n == area.GOT then got_bytes kit g p
    else if is_kernel kit.kind then []
    else if n == area.STUBS then stubs_bytes g p
    else if n == area.TABLES then tables_bytes kit inputs g p
    else if n == area.DYNAMIC then flat_map dyn_bytes (dynamic_of kit g p) else []
