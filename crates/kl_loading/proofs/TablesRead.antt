-- The dynamic section and the tables of a library's file read as what was written.
use Rattle.std.proofs.Common.{ℕ, zero, suc, ◌≡◌, ◌+◌, ◌-◌, ◌*◌, ◌/◌, ◌<◌, ◌≤◌, ◌∙◌, List, [], ◌∷◌, ◌++◌, length, get_or, take, drop, map, refl, ap, sym, subst, arith, Bool, true, false, not, ◌&&◌}
use Rattle.std.specs.Prelude.{Option, Some, None, ◌==◌, nat_lt, cond, All, find, flat_map, if◌then◌else◌, option_and_then, option_to_list}
use Rattle.std.specs.Option.{option_map_or}
use Rattle.std.specs.List.{before_first, list_all, range_with_len}
use Rattle.std.proofs.lemmas.Bool.{eqb-true, lt-ltb}
use Rattle.std.proofs.lemmas.List.{get_or-drop}
use Rattle.std.proofs.lemmas.List.{length-drop}
use Rattle.kl_base.specs.declared.class.Class.TheVariants.{Rodata, Rwdata}
use Rattle.kl_le.specs.Bytes.{num}
use Rattle.kl_elf.specs.Records.{ehdr_at}
use Rattle.kl_elf.specs.declared.records.Dyn.{Dyn}
use Rattle.kl_elf.specs.declared.records.Rela.{Rela}
use Rattle.kl_model.specs.Carries.{AreaHolds, File, LibraryMade, ends_at, head_for, library_segments, segments_for}
use Rattle.kl_model.specs.Kits.{is_kernel}
use Rattle.kl_model.specs.Laid.{area_at}
use Rattle.kl_model.specs.Loaded.{chain_count, dyn_entry, dyn_value, dynamics, dyns_from, file_at, name_in, relas, relas_from, relas_in, strings_in, table_at, text_in}
use Rattle.kl_model.specs.Memory.{segments}
use Rattle.kl_model.specs.Sizes.{bucket_count, made_of, names_size, page_of, soname_size, strings_size, symbol_count, tables_of, tags}
use Rattle.kl_model.specs.Slots.{jump_entries, rela_entries}
use Rattle.kl_model.specs.Tables.{buckets_of, chains_from, dyn_text, dynamic_of, ended, first_in, no_dyn, no_sym, relas_of, strings_of, symbols_of, tables_bytes, tag_value}
use Rattle.kl_model.specs.Written.{bytes_of, dyn_bytes, rela_bytes}
use Rattle.kl_model.specs.declared.place.Gaps.{Gaps}
use Rattle.kl_model.specs.declared.place.Placement.{Placement}
use Rattle.kl_model.specs.declared.graph.Graph.{Graph}
use Rattle.kl_model.specs.declared.kit.Kit.{Kit}
use Rattle.kl_model.specs.declared.kit.KitKind.TheVariants.{Library}
use Rattle.kl_model.specs.declared.object.Input.{Input}
use Rattle.kl_model.proofs.ClassMemory.{InOrder}
use Rattle.kl_write.specs.LaidKits.{HasAreaAddresses, IsLaidKit}
use Rattle.kl_write.proofs.ReadHeaders.{HasAt, has_left, has_num, has_right, take_is}
use Rattle.kl_loading.specs.TablesReadBack.{HasTexts, TablesAre}
use Rattle.kl_loading.proofs.Library.{base, dynamic_end, dynamic_inside, dynamic_size, dynamic_small, front, has_tables, in_order_too, length-dynamic, some_tags, tables_inside, tables_low, tables_size}
use Rattle.kl_loading.proofs.Located.{area_bytes, dynamic_found, rodata_at, rodata_inside}
use Rattle.kl_loading.proofs.Rows.{IsSmallRela, length-dyn, length-rows, read_dyns, read_name, read_relas}
use Rattle.kl_loading.proofs.Small.{first_small, second_small}
use Rattle.kl_loading.proofs.Strings.{length-strings, name_place, place_inside, text_place, text_there, length-syms}
use Rattle.kl_loading.proofs.TableParts.{jumps_there, length-relas, length-tables, relas_there, sizes_fit, strings_there, symbols_there, words_there}
use Rattle.kl_loading.proofs.Tags.{behind, first_with, found, is_other, jump_tags, last_tags, none_left, pass_all, pass_if, pass_needed, rows}

nil_of : {X : Type 0} (xs : List X) → length xs ≡ 0 → xs ≡ []
nil_of [] e = refl
nil_of (x ∷ xs) e = absurd (omega (arith, e))

some_length : (n : ℕ) → (n == 0) ≡ false → 0 < n
some_length zero e = cc
some_length (suc n) e = omega arith

module _ (img : List ℕ) (p : Placement) (kit : Kit) (inputs : List Input) (g : Graph) (gaps : Option Gaps) (order : List ℕ) (library : kit.kind ≡ Library) (laid : IsLaidKit kit g gaps order p)
    (numbers : HasAreaAddresses p) (file : File img (head_for kit.kind (segments_for kit.kind (page_of kit g) p) p g) (segments_for kit.kind (page_of kit g) p)) (made : LibraryMade img p kit inputs g)
    (texts : HasTexts inputs g) where
  abbrev page : ℕ
  page = page_of kit g

  abbrev pub start : ℕ
  start = (area_at p 8).start

  pub headers : segments img ≡ library_segments page p
  headers = file.segments ∙ ap (λ k. segments_for k page p) library

  pub len : length img ≡ ends_at (64 + 56 * length (library_segments page p)) (library_segments page p)
  len = file.len ∙ ap (λ k. ends_at (64 + 56 * length (segments_for k page p)) (segments_for k page p)) library

  pub type : (ehdr_at img 0).kind ≡ 3
  type = ap (λ h. h.kind) file.head ∙ ap (λ k. (head_for k (segments_for k page p) p g).kind) library

  pub ordered : InOrder p
  ordered = in_order_too kit inputs g gaps order p library laid numbers

  -- the tables and the dynamic section stand in the file
  tables_held : AreaHolds img p 8 Rodata (tables_bytes kit inputs g p)
  tables_held = subst (AreaHolds img p 8 Rodata) (ap (λ k. if is_kernel k then [] else tables_bytes kit inputs g p) library) made.tables

  dynamic_held : AreaHolds img p 14 Rwdata (flat_map dyn_bytes (dynamic_of kit g p))
  dynamic_held = subst (AreaHolds img p 14 Rwdata) (ap (λ k. if is_kernel k then [] else flat_map dyn_bytes (dynamic_of kit g p)) library) made.dynamic

  pub tables_there : HasAt img start (tables_bytes kit inputs g p)
  tables_there =
      area_bytes img p page (base kit inputs g gaps order p library laid numbers) ordered (front kit inputs g gaps order p library laid numbers) headers len Rodata 8 (tables_bytes kit inputs g p) refl tables_held
      (λ j l.
      let w = tables_inside kit inputs g gaps order p library laid numbers 0 (has_tables kit inputs g gaps order p library laid numbers) in
      let size = tables_size kit inputs g gaps order p library laid numbers in
      (omega (arith, w.0), omega (arith, w.1, l, size, length-tables kit inputs g p texts)))

  length-dyns : length (flat_map dyn_bytes (dynamic_of kit g p)) ≡ 16 * length (dynamic_of kit g p)
  length-dyns = length-rows dyn_bytes 16 (dynamic_of kit g p) length-dyn

  pub dynamic_is : (made_of kit g).dynamic ≡ 16 * length (dynamic_of kit g p)
  dynamic_is = dynamic_size kit inputs g gaps order p library laid numbers ∙ ap (λ n. 16 * n) (sym (length-dynamic kit g p))

  pub has_dynamic : 0 < (made_of kit g).dynamic
  has_dynamic = omega (arith, dynamic_is, length-dynamic kit g p, some_tags kit g)

  dynamic_there : HasAt img (area_at p 14).start (flat_map dyn_bytes (dynamic_of kit g p))
  dynamic_there =
      area_bytes img p page (base kit inputs g gaps order p library laid numbers) ordered (front kit inputs g gaps order p library laid numbers) headers len Rwdata 14 (flat_map dyn_bytes (dynamic_of kit g p)) refl dynamic_held
      (λ j l.
      let w = dynamic_inside kit inputs g gaps order p library laid numbers 0 has_dynamic in
      (omega (arith, w.0), omega (arith, w.1, l, dynamic_is, length-dyns)))

  -- THE DYNAMIC SECTION
  pub dynamics_are : dynamics img ≡ before_first (λ d. d.tag == 0) (dynamic_of kit g p)
  dynamics_are =
      let s = dynamic_found img p page (base kit inputs g gaps order p library laid numbers) ordered (front kit inputs g gaps order p library laid numbers) headers len in
      let end = dynamic_end kit inputs g gaps order p library laid numbers has_dynamic in
      let count : ((area_at p 14).end - (area_at p 14).start) / 16 ≡ length (dynamic_of kit g p) = omega (arith, end, dynamic_is) in
      ap (λ o. option_map_or (λ x. dyns_from img x.offset (x.filesz / 16)) o []) s
      ∙ (ap (dyns_from img (area_at p 14).start) count
      ∙ read_dyns img (area_at p 14).start (dynamic_of kit g p) (dynamic_small kit inputs g gaps order p library laid numbers) dynamic_there)

  abbrev pub value : ℕ → ℕ
  value = tag_value kit g p

  pub entry_first : (t : ℕ) → not (1 == 0) && not (1 == t) ≡ true → dyn_entry img t ≡ first_with t (rows t value (tags kit g))
  entry_first t h = ap (find (λ d. d.tag == t)) dynamics_are ∙ pass_needed t (names_size g + soname_size kit) kit.needed (rows t value (tags kit g)) h

  abbrev pub entry : ℕ → Dyn
  entry t = record { tag = t; value = value t }

  pub hash_entry : dyn_entry img 4 ≡ Some (entry 4)
  hash_entry = entry_first 4 refl ∙ (behind 4 value kit g refl refl refl refl refl refl refl ∙ found 4 value kit g [] (5 ∷ 6 ∷ 10 ∷ 11 ∷ last_tags g) refl refl)

  pub string_entry : dyn_entry img 5 ≡ Some (entry 5)
  string_entry = entry_first 5 refl ∙ (behind 5 value kit g refl refl refl refl refl refl refl ∙ found 5 value kit g (4 ∷ []) (6 ∷ 10 ∷ 11 ∷ last_tags g) refl refl)

  pub symbol_entry : dyn_entry img 6 ≡ Some (entry 6)
  symbol_entry = entry_first 6 refl ∙ (behind 6 value kit g refl refl refl refl refl refl refl ∙ found 6 value kit g (4 ∷ 5 ∷ []) (10 ∷ 11 ∷ last_tags g) refl refl)

  size_entry : dyn_entry img 10 ≡ Some (entry 10)
  size_entry = entry_first 10 refl ∙ (behind 10 value kit g refl refl refl refl refl refl refl ∙ found 10 value kit g (4 ∷ 5 ∷ 6 ∷ []) (11 ∷ last_tags g) refl refl)

  abbrev five : List ℕ
  five = 4 ∷ 5 ∷ 6 ∷ 10 ∷ 11 ∷ []

  -- bytes of the tables are in the file, at their addresses
  pub inside_is : (a n : ℕ) → 0 < n → start ≤ a → a + n ≤ start + (tables_of kit g).stop → file_at img a n ≡ Some a
  inside_is a n some from to =
      let w = tables_inside kit inputs g gaps order p library laid numbers 0 (has_tables kit inputs g gaps order p library laid numbers) in
      let size = tables_size kit inputs g gaps order p library laid numbers in
      rodata_at img p page (base kit inputs g gaps order p library laid numbers) ordered (front kit inputs g gaps order p library laid numbers) headers len a n some (omega (arith, w.0, from)) (omega (arith, w.1, to, size))

  -- a table in rodata
  pub place_is : (tag n : ℕ) (d : Dyn) → dyn_entry img tag ≡ Some d → 0 < n → start ≤ d.value → d.value + n ≤ start + (tables_of kit g).stop → table_at img tag n ≡ Some d.value
  place_is tag n d e some from to = ap (λ o. option_and_then (λ d. file_at img d.value n) o) e ∙ inside_is d.value n some from to

  pub parts_fit : (8 ≤ (tables_of kit g).symbols) × ((tables_of kit g).symbols + (24 * symbol_count g + strings_size kit g) ≤ (tables_of kit g).relas)
  parts_fit = sizes_fit kit inputs g p texts

  -- HOW MANY SYMBOLS
  pub count_is : chain_count img ≡ symbol_count g
  count_is =
      let at = place_is 4 8 (entry 4) hash_entry (omega arith) (omega arith) (omega (arith, parts_fit.0, parts_fit.1)) in
      let symbols = buckets_of inputs g in
      let more = flat_map (bytes_of 4) (map (λ b. first_in b 1 symbols) (range_with_len 0 (bucket_count g)) ++ 0 ∷ chains_from 1 symbols) in
      let words = words_there kit inputs g p texts img start tables_there in
      let second : HasAt img (start + 4) (bytes_of 4 (symbol_count g)) =
      has_left img (start + 4) (bytes_of 4 (symbol_count g)) more (has_right img start (start + 4) (bytes_of 4 (bucket_count g)) (bytes_of 4 (symbol_count g) ++ more) refl words) in
      let limit = laid.sound.name_count in
      ap (λ o. option_map_or (λ at. num img (at + 4) 4) o 0) at ∙ has_num img (start + 4) 4 (symbol_count g) second (omega (arith, limit))

  -- STRINGS
  pub size_is : dyn_value img 10 ≡ strings_size kit g
  size_is = ap (λ o. option_map_or (λ d. d.value) o 0) size_entry

  pub some_strings : 0 < strings_size kit g
  some_strings = omega arith

  strings_are : strings_in img ≡ strings_of kit inputs g
  strings_are =
      let at = start + (tables_of kit g).strings in
      let where_is = place_is 5 (strings_size kit g) (entry 5) string_entry some_strings (omega arith) (omega (arith, parts_fit.1)) in
      let there_are = strings_there kit inputs g p texts img start tables_there in
      let all = length-strings kit inputs g texts in
      let w = tables_inside kit inputs g gaps order p library laid numbers 0 (has_tables kit inputs g gaps order p library laid numbers) in
      let size = tables_size kit inputs g gaps order p library laid numbers in
      let long = rodata_inside img p page (base kit inputs g gaps order p library laid numbers) ordered (front kit inputs g gaps order p library laid numbers) headers len start (omega (arith, w.0), omega (arith, w.1, has_tables kit inputs g gaps order p library laid numbers)) in
      let fits : length (strings_of kit inputs g) ≤ length (drop at img) = omega (arith, length-drop at img, all, long, w.1, size, parts_fit.1) in
      let read : take (length (strings_of kit inputs g)) (drop at img) ≡ strings_of kit inputs g = take_is (strings_of kit inputs g) (drop at img) fits (λ j l. get_or-drop at img j 0 ∙ there_are j l) in
      ap (λ n. option_map_or (λ at. take n (drop at img)) (table_at img 5 n) []) size_is
      ∙ (ap (λ o. option_map_or (λ at. take (strings_size kit g) (drop at img)) o []) where_is ∙ (ap (λ n. take n (drop at img)) (sym all) ∙ read))

  -- NAMES
  name_is : (n : ℕ) → n < length g.names → name_in img (suc n) ≡ Some (dyn_text inputs (get_or g.names n no_dyn))
  name_is n l =
      let at = start + (tables_of kit g).symbols in
      let below : nat_lt (suc n) (symbol_count g) ≡ true = lt-ltb (suc n) (symbol_count g) (omega (arith, l)) in
      let where_is = place_is 6 (24 * symbol_count g) (entry 6) symbol_entry (omega arith) (omega arith) (omega (arith, parts_fit.1)) in
      let symbols = symbols_there kit inputs g p texts img start tables_there in
      let name : (get_or (symbols_of p g) (suc n) no_sym).name ≡ text_place 1 n g.names = name_place p g 1 n g.names no_sym l in
      let inside = place_inside 1 n g.names l in
      let low = tables_low kit inputs g gaps order p library laid numbers in
      let read : num img (at + 24 * suc n) 4 ≡ text_place 1 n g.names =
      read_name img at (suc n) no_sym (symbols_of p g) (omega (arith, l, length-syms p g 1 g.names)) symbols (omega (arith, name, inside, low, parts_fit.1)) ∙ name in
      let text = text_there inputs (0 ∷ []) n g.names (flat_map ended (option_to_list kit.soname) ++ flat_map ended kit.needed) no_dyn texts l in
      let cut : ℕ → Option ℕ → Option (List ℕ) = λ c o. if nat_lt (suc n) c then option_and_then (λ at. text_in (strings_in img) (num img (at + 24 * suc n) 4)) o else None in
      ap (λ c. cut c (table_at img 6 (24 * c))) count_is
      ∙ (ap (λ b. if b then option_and_then (λ at. text_in (strings_in img) (num img (at + 24 * suc n) 4)) (table_at img 6 (24 * symbol_count g)) else None) below
      ∙ (ap (λ o. option_and_then (λ at. text_in (strings_in img) (num img (at + 24 * suc n) 4)) o) where_is
      ∙ (ap (text_in (strings_in img)) read ∙ (ap (λ s. text_in s (text_place 1 n g.names)) strings_are ∙ text))))

  -- RELOCATION ENTRIES
  table_read : (tag size : ℕ) (rs : List Rela) → dyn_entry img tag ≡ Some (entry tag) → dyn_entry img size ≡ Some (entry size) → value size ≡ 24 * length rs → 0 < length rs
      → start ≤ value tag → value tag + 24 * length rs ≤ start + (tables_of kit g).stop → All IsSmallRela rs → HasAt img (value tag) (flat_map rela_bytes rs) → relas_in img tag size ≡ rs
  table_read tag size rs e f many some from to small h =
      let bytes : dyn_value img size ≡ 24 * length rs = ap (λ o. option_map_or (λ d. d.value) o 0) f ∙ many in
      let where_is = place_is tag (24 * length rs) (entry tag) e (omega (arith, some)) from to in
      let count : 24 * length rs / 24 ≡ length rs = omega arith in
      ap (λ n. option_map_or (λ at. relas_from img at (n / 24)) (table_at img tag n) []) bytes
      ∙ (ap (λ o. option_map_or (λ at. relas_from img at (24 * length rs / 24)) o []) where_is ∙ (ap (relas_from img (value tag)) count ∙ read_relas img (value tag) rs small h))

  no_table : (tag size : ℕ) → dyn_entry img tag ≡ None → relas_in img tag size ≡ []
  no_table tag size e = ap (λ o. option_map_or (λ at. relas_from img at (dyn_value img size / 24)) (option_and_then (λ d. file_at img d.value (dyn_value img size)) o) []) e

  abbrev first : List Rela
  first = relas_of p g (rela_entries g)

  abbrev second : List Rela
  second = relas_of p g (jump_entries g)

  sizes : ((tables_of kit g).jumps ≡ (tables_of kit g).relas + 24 * length first) × ((tables_of kit g).stop ≡ (tables_of kit g).jumps + 24 * length second)
  sizes = (ap (λ n. (tables_of kit g).relas + 24 * n) (sym (length-relas p g (rela_entries g))), ap (λ n. (tables_of kit g).jumps + 24 * n) (sym (length-relas p g (jump_entries g))))

  behind_five : (t : ℕ) → not (1 == 0) && not (1 == t) ≡ true → is_other t 14 ≡ true → is_other t 12 ≡ true → is_other t 13 ≡ true → is_other t 25 ≡ true → is_other t 27 ≡ true
      → is_other t 26 ≡ true → is_other t 28 ≡ true → list_all (is_other t) five ≡ true → dyn_entry img t ≡ first_with t (rows t value (last_tags g))
  behind_five t h a b c d e f i j = entry_first t h ∙ (behind t value kit g a b c d e f i ∙ pass_all t value kit g five (last_tags g) j)

  -- the entries RELATIVE, 64 and GLOB_DAT
  first_read : relas_in img 7 8 ≡ first
  first_read = go (length (rela_entries g) == 0) refl
    where
      seven : dyn_entry img 7 ≡ first_with 7 (rows 7 value (last_tags g))
      seven = behind_five 7 refl refl refl refl refl refl refl refl refl

      eight : dyn_entry img 8 ≡ first_with 8 (rows 8 value (last_tags g))
      eight = behind_five 8 refl refl refl refl refl refl refl refl refl

      go : (b : Bool) → (length (rela_entries g) == 0) ≡ b → relas_in img 7 8 ≡ first
      go true e =
          let tags_are : last_tags g ≡ jump_tags g ++ 30 ∷ 0 ∷ [] = ap (λ b. cond b [] (7 ∷ 8 ∷ 9 ∷ []) ++ (jump_tags g ++ 30 ∷ 0 ∷ [])) e in
          let none : dyn_entry img 7 ≡ None =
          seven ∙ (ap (λ ts. first_with 7 (rows 7 value ts)) tags_are ∙ (pass_if 7 value kit g (length (jump_entries g) == 0) (23 ∷ 2 ∷ 20 ∷ 3 ∷ []) (30 ∷ 0 ∷ []) refl ∙ none_left 7 value kit g refl)) in
          no_table 7 8 none ∙ sym (nil_of first (length-relas p g (rela_entries g) ∙ eqb-true (length (rela_entries g)) 0 e))
      go false e =
          let tags_are : last_tags g ≡ 7 ∷ 8 ∷ 9 ∷ (jump_tags g ++ 30 ∷ 0 ∷ []) = ap (λ b. cond b [] (7 ∷ 8 ∷ 9 ∷ []) ++ (jump_tags g ++ 30 ∷ 0 ∷ [])) e in
          let place : dyn_entry img 7 ≡ Some (entry 7) = seven ∙ (ap (λ ts. first_with 7 (rows 7 value ts)) tags_are ∙ found 7 value kit g [] (8 ∷ 9 ∷ (jump_tags g ++ 30 ∷ 0 ∷ [])) refl refl) in
          let size : dyn_entry img 8 ≡ Some (entry 8) = eight ∙ (ap (λ ts. first_with 8 (rows 8 value ts)) tags_are ∙ found 8 value kit g (7 ∷ []) (9 ∷ (jump_tags g ++ 30 ∷ 0 ∷ [])) refl refl) in
          let some : 0 < length (rela_entries g) = some_length (length (rela_entries g)) e in
          let n = sizes in
          table_read 7 8 first place size (omega (arith, n.0)) (omega (arith, some, length-relas p g (rela_entries g))) (omega arith) (omega (arith, n.0, n.1)) (first_small kit g laid.sound p)
          (relas_there kit inputs g p texts img start tables_there)

  -- the entries JUMP_SLOT
  second_read : relas_in img 23 2 ≡ second
  second_read = go (length (jump_entries g) == 0) refl
    where
      by_place : dyn_entry img 23 ≡ first_with 23 (rows 23 value (jump_tags g ++ 30 ∷ 0 ∷ []))
      by_place = behind_five 23 refl refl refl refl refl refl refl refl refl ∙ pass_if 23 value kit g (length (rela_entries g) == 0) (7 ∷ 8 ∷ 9 ∷ []) (jump_tags g ++ 30 ∷ 0 ∷ []) refl

      by_size : dyn_entry img 2 ≡ first_with 2 (rows 2 value (jump_tags g ++ 30 ∷ 0 ∷ []))
      by_size = behind_five 2 refl refl refl refl refl refl refl refl refl ∙ pass_if 2 value kit g (length (rela_entries g) == 0) (7 ∷ 8 ∷ 9 ∷ []) (jump_tags g ++ 30 ∷ 0 ∷ []) refl

      go : (b : Bool) → (length (jump_entries g) == 0) ≡ b → relas_in img 23 2 ≡ second
      go true e =
          let tags_are : jump_tags g ++ 30 ∷ 0 ∷ [] ≡ 30 ∷ 0 ∷ [] = ap (λ b. cond b [] (23 ∷ 2 ∷ 20 ∷ 3 ∷ []) ++ 30 ∷ 0 ∷ []) e in
          let none : dyn_entry img 23 ≡ None = by_place ∙ (ap (λ ts. first_with 23 (rows 23 value ts)) tags_are ∙ none_left 23 value kit g refl) in
          no_table 23 2 none ∙ sym (nil_of second (length-relas p g (jump_entries g) ∙ eqb-true (length (jump_entries g)) 0 e))
      go false e =
          let tags_are : jump_tags g ++ 30 ∷ 0 ∷ [] ≡ 23 ∷ 2 ∷ 20 ∷ 3 ∷ 30 ∷ 0 ∷ [] = ap (λ b. cond b [] (23 ∷ 2 ∷ 20 ∷ 3 ∷ []) ++ 30 ∷ 0 ∷ []) e in
          let place : dyn_entry img 23 ≡ Some (entry 23) = by_place ∙ (ap (λ ts. first_with 23 (rows 23 value ts)) tags_are ∙ found 23 value kit g [] (2 ∷ 20 ∷ 3 ∷ 30 ∷ 0 ∷ []) refl refl) in
          let size : dyn_entry img 2 ≡ Some (entry 2) = by_size ∙ (ap (λ ts. first_with 2 (rows 2 value ts)) tags_are ∙ found 2 value kit g (23 ∷ []) (20 ∷ 3 ∷ 30 ∷ 0 ∷ []) refl refl) in
          let some : 0 < length (jump_entries g) = some_length (length (jump_entries g)) e in
          let n = sizes in
          table_read 23 2 second place size (omega (arith, n.1)) (omega (arith, some, length-relas p g (jump_entries g))) (omega arith) (omega (arith, n.1)) (second_small kit g laid.sound p)
          (jumps_there kit inputs g p texts img start tables_there)

  relas_are : relas img ≡ first ++ second
  relas_are =
      let is : ((ehdr_at img 0).kind == 3) ≡ true = ap (λ k. k == 3) type in
      ap (λ b. if b then relas_in img 7 8 ++ relas_in img 23 2 else []) is ∙ (ap (λ rs. rs ++ relas_in img 23 2) first_read ∙ ap (λ rs. first ++ rs) second_read)

  -- THE LAW
  pub tables_are : TablesAre img p kit inputs g
  tables_are = record { dynamic = dynamics_are; count = count_is; strings = strings_are; names = name_is; relas = relas_are }
