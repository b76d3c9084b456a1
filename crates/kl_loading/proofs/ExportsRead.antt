-- Each exported name of a library is found through its hash table, and no other text is.
use Rattle.std.proofs.Common.{ℕ, suc, ◌≡◌, ◌+◌, ◌*◌, ◌%◌, ◌^◌, ◌<◌, ◌≤◌, ◌∙◌, List, [], ◌∷◌, ◌++◌, length, get_or, refl, ap, arith, Bool, true, false, ◌&&◌, bytes_eq}
use Rattle.std.specs.Prelude.{◌≢◌, IfSome, Option, Some, None, cond, find, flat_map, option_and_then, option_map, option_to_list}
use Rattle.std.specs.Option.{option_map_or}
use Rattle.std.proofs.Math.Nat.{mod-lt}
use Rattle.std.proofs.lemmas.Slice.Eq.{bytes_eq-Decides}
use Rattle.kl_le.specs.Bytes.{num}
use Rattle.kl_elf.specs.Records.{sym_at}
use Rattle.kl_model.specs.Found.{found, found_at, walk}
use Rattle.kl_model.specs.Laid.{area_at}
use Rattle.kl_model.specs.Leads.{address_of}
use Rattle.kl_model.specs.Loaded.{chain_count, dyn_value, table_at}
use Rattle.kl_model.specs.Sizes.{bucket_count, strings_size, symbol_count, tables_of}
use Rattle.kl_model.specs.Sound.{IsSoundTarget}
use Rattle.kl_model.specs.Tables.{buckets_of, dyn_text, ended, first_in, no_dyn, no_sym, sym_of, symbol_hash, symbols_of, syms_from, tables_bytes}
use Rattle.kl_model.specs.declared.graph.Graph.{Graph}
use Rattle.kl_model.specs.declared.graph.Target.{Target}
use Rattle.kl_model.specs.declared.kit.Kit.{Kit}
use Rattle.kl_model.specs.declared.kit.KitKind.TheVariants.{Library}
use Rattle.kl_model.specs.declared.object.Input.{Input}
use Rattle.kl_model.specs.declared.place.Gaps.{Gaps}
use Rattle.kl_model.specs.declared.place.Placement.{Placement}
use Rattle.kl_model.proofs.ImageBytes.{find_only}
use Rattle.kl_write.specs.LaidKits.{HasAreaAddresses, IsLaidKit, LibraryHolds}
use Rattle.kl_write.proofs.LawFields.{address_small}
use Rattle.kl_write.proofs.ReadHeaders.{HasAt, has_left, has_right}
use Rattle.kl_loading.specs.ExportsFound.{AreExports, export_value, is_defined, is_export}
use Rattle.kl_loading.specs.TablesReadBack.{HasTexts}
use Rattle.kl_loading.proofs.HashWords.{chain_word, counted, first_word, symbols_counted}
use Rattle.kl_loading.proofs.Library.{tables_low, whole}
use Rattle.kl_loading.proofs.Strings.{length-syms, place_inside, text_place}
use Rattle.kl_loading.proofs.SymbolsRead.{IsSmallSym, read_sym_at, read_text, section_small, sym_there, text_stands}
use Rattle.kl_loading.proofs.TableParts.{strings_there, symbols_there, words_there}
use Rattle.kl_loading.proofs.TablesRead.{count_is, entry, hash_entry, parts_fit, place_is, size_is, some_strings, string_entry, symbol_entry, tables_there}
use Rattle.kl_loading.proofs.Walked.{Reads, walked}

both : (b c : Bool) → (b && c) ≡ true → (b ≡ true) × (c ≡ true)
both true c e = (refl, e)
both false c e = cc

neither : (b c : Bool) → (b ≡ true → c ≡ false) → (b && c) ≡ false
neither true c h = h refl
neither false c h = refl

find_nothing : {X : Type 0} (t : X → Bool) (xs : List X) → ((k : ℕ) (d : X) → k < length xs → t (get_or xs k d) ≡ false) → find t xs ≡ None
find_nothing t [] none = refl
find_nothing t (x ∷ xs) none = rw (none 0 x (omega arith)) (find_nothing t xs (λ k d l. none (suc k) d (omega (arith, l))))

other_text : (s t : List ℕ) → s ≢ t → bytes_eq s t ≡ false
other_text s t h = go (bytes_eq s t) refl
  where
    go : (b : Bool) → bytes_eq s t ≡ b → b ≡ false
    go true e = absurd (h ((bytes_eq-Decides s t).0 e))
    go false e = refl

module _ (img : List ℕ) (p : Placement) (kit : Kit) (inputs : List Input) (g : Graph) (gaps : Option Gaps) (order : List ℕ) (library : kit.kind ≡ Library) (laid : IsLaidKit kit g gaps order p)
    (numbers : HasAreaAddresses p) (holds : LibraryHolds img p kit inputs g gaps order) (texts : HasTexts inputs g) where
  abbrev start : ℕ
  start = (area_at p 8).start

  abbrev symbols : ℕ
  symbols = start + (tables_of kit g).symbols

  abbrev strings : ℕ
  strings = start + (tables_of kit g).strings

  all_there : HasAt img start (tables_bytes kit inputs g p)
  all_there = tables_there img p kit inputs g gaps order library laid numbers holds.file holds.made texts

  fit : (8 ≤ (tables_of kit g).symbols) × ((tables_of kit g).symbols + (24 * symbol_count g + strings_size kit g) ≤ (tables_of kit g).relas)
  fit = parts_fit img p kit inputs g gaps order library laid numbers holds.file holds.made texts

  few : length g.names < 2 ^ 31
  few = let limit = laid.sound.name_count in omega (arith, limit)

  -- the three tables
  hash_at : table_at img 4 8 ≡ Some start
  hash_at =
      place_is img p kit inputs g gaps order library laid numbers holds.file holds.made texts 4 8 (entry img p kit inputs g gaps order library laid numbers holds.file holds.made texts 4)
      (hash_entry img p kit inputs g gaps order library laid numbers holds.file holds.made texts) (omega arith) (omega arith) (omega (arith, fit.0, fit.1))

  symbols_at : table_at img 6 (24 * chain_count img) ≡ Some symbols
  symbols_at =
      ap (λ c. table_at img 6 (24 * c)) (count_is img p kit inputs g gaps order library laid numbers holds.file holds.made texts)
      ∙ place_is img p kit inputs g gaps order library laid numbers holds.file holds.made texts 6 (24 * symbol_count g) (entry img p kit inputs g gaps order library laid numbers holds.file holds.made texts 6)
      (symbol_entry img p kit inputs g gaps order library laid numbers holds.file holds.made texts) (omega arith) (omega arith) (omega (arith, fit.1))

  strings_at : table_at img 5 (dyn_value img 10) ≡ Some strings
  strings_at =
      ap (table_at img 5) (size_is img p kit inputs g gaps order library laid numbers holds.file holds.made texts)
      ∙ place_is img p kit inputs g gaps order library laid numbers holds.file holds.made texts 5 (strings_size kit g) (entry img p kit inputs g gaps order library laid numbers holds.file holds.made texts 5)
      (string_entry img p kit inputs g gaps order library laid numbers holds.file holds.made texts) (some_strings img p kit inputs g gaps order library laid numbers holds.file holds.made texts) (omega arith) (omega (arith, fit.1))

  -- a symbol's numbers
  sym_small : (n : ℕ) → n < length g.names → IsSmallSym (sym_of p g (text_place 1 n g.names) (get_or g.names n no_dyn))
  sym_small n l =
      let d = get_or g.names n no_dyn in
      let s = laid.sound.names n no_dyn l in
      let low = tables_low kit inputs g gaps order p library laid numbers in
      record {
        name = omega (arith, place_inside 1 n g.names l, low, fit.1);
        info = info_small d.weak d.kind s.kind;
        other = (let v = s.visibility in omega (arith, v));
        shndx = section_small g d.exported;
        value = value_small d.exported s.exported;
        size = s.size;
      }
    where
      info_small : (w : Bool) (k : ℕ) → k < 2 ^ 4 → 16 * cond w 2 1 + k < 256 ^ 1
      info_small true k h = omega (arith, h)
      info_small false k h = omega (arith, h)

      value_small : (t : Option Target) → IfSome t (IsSoundTarget kit g) → option_map_or (address_of p g) t 0 < 256 ^ 8
      value_small None h = omega arith
      value_small (Some t) h =
          address_small kit inputs g gaps order p laid.origin laid.laid laid.small laid.base laid.sound (whole kit inputs g gaps order p library laid numbers) numbers t h

  -- what a symbol and its name read as
  reads : (j : ℕ) → j < length g.names → Reads inputs p g img start symbols strings (1 + j) (text_place 1 j g.names) (get_or g.names j no_dyn)
  reads j l =
      let is : get_or (syms_from p g 1 g.names) j no_sym ≡ sym_of p g (text_place 1 j g.names) (get_or g.names j no_dyn) = sym_there p g 1 j g.names no_sym l in
      let more = flat_map (λ d. ended (dyn_text inputs d)) g.names in
      let behind = flat_map ended (option_to_list kit.soname) ++ flat_map ended kit.needed in
      let names_there : HasAt img (strings + 1) more =
      has_left img (strings + 1) more behind (has_right img strings (strings + 1) (0 ∷ []) (more ++ behind) refl (strings_there kit inputs g p texts img start all_there)) in
      record {
        symbol = (
            let z : symbols + 24 * (1 + j) ≡ symbols + 24 * suc j = omega arith in
            ap (sym_at img) z
            ∙ (read_sym_at img symbols (suc j) no_sym (symbols_of p g) (omega (arith, l, length-syms p g 1 g.names)) (symbols_there kit inputs g p texts img start all_there)
            (rw is (sym_small j l)) ∙ is)
            );
        text_is = read_text img (strings + text_place 1 j g.names) (dyn_text inputs (get_or g.names j no_dyn)) (texts j no_dyn l).no_zero
            (text_stands inputs img strings 1 j g.names (λ k d m. (texts k d m).len) l names_there);
      }

  -- the value of the first exported name with the text
  each_text : (name : List ℕ) → found img name ≡ option_map (export_value p g) (find (is_export inputs g name) g.names)
  each_text name =
      let k = symbol_hash name % bucket_count g in
      let words = words_there kit inputs g p texts img start all_there in
      let low : k < bucket_count g = mod-lt (symbol_hash name) {m = bucket_count g} (omega arith) in
      let by_hash : found img name ≡ found_at img start symbols strings name =
      ap (λ o. option_and_then (λ h. option_and_then (λ y. option_and_then (λ s. found_at img h y s name) (table_at img 5 (dyn_value img 10))) (table_at img 6 (24 * chain_count img))) o) hash_at
      ∙ (ap (λ o. option_and_then (λ y. option_and_then (λ s. found_at img start y s name) (table_at img 5 (dyn_value img 10))) o) symbols_at
      ∙ ap (λ o. option_and_then (λ s. found_at img start symbols s name) o) strings_at) in
      let steps = symbols_counted inputs g img start few words in
      let first = ap (λ c. num img (start + (8 + 4 * (symbol_hash name % c))) 4) (counted inputs g img start few words) ∙ first_word inputs g img start few words k low in
      let at_bucket : found_at img start symbols strings name ≡ walk img start symbols strings name (symbol_count g) (first_in k 1 (buckets_of inputs g)) =
      ap (λ n. walk img start symbols strings name n (num img (start + (8 + 4 * (symbol_hash name % num img start 4))) 4)) steps
      ∙ ap (walk img start symbols strings name (symbol_count g)) first in
      by_hash ∙ (at_bucket ∙ walked inputs p g img start symbols strings (λ d. symbol_hash (dyn_text inputs d) % bucket_count g) name k
      (λ d e. ap (λ t. symbol_hash t % bucket_count g) ((bytes_eq-Decides (dyn_text inputs d) name).0 (both (is_defined g d) (bytes_eq (dyn_text inputs d) name) e).1))
      1 1 (symbol_count g) g.names (omega arith) (omega arith) reads (chain_word inputs g img start few words))

  its_address : (t : Option Target) (v : Option ℕ) → v ≡ Some (option_map_or (address_of p g) t 0) → IfSome t (λ t. v ≡ Some (address_of p g t))
  its_address None v e = tt
  its_address (Some t) v e = e

  -- THE LAW
  pub exports_are : AreExports img p inputs g
  exports_are = record {
    each_text = each_text;
    exported = λ apart k d l defined.
        let x = get_or g.names k d in
        let same : bytes_eq (dyn_text inputs x) (dyn_text inputs x) ≡ true = (bytes_eq-Decides (dyn_text inputs x) (dyn_text inputs x)).1 refl in
        let here : is_export inputs g (dyn_text inputs x) x ≡ true = rw (defined, same) refl in
        its_address x.exported (found img (dyn_text inputs x)) (each_text (dyn_text inputs x)
        ∙ ap (option_map (export_value p g)) (find_only (is_export inputs g (dyn_text inputs x)) g.names k d l here
        (λ j m. let y = get_or g.names j d in neither (is_defined g y) (bytes_eq (dyn_text inputs y) (dyn_text inputs x)) (λ e. other_text (dyn_text inputs y) (dyn_text inputs x) (apart j k d m l)))));
    others = λ name none.
        each_text name
        ∙ ap (option_map (export_value p g)) (find_nothing (is_export inputs g name) g.names
        (λ k d l. let y = get_or g.names k d in neither (is_defined g y) (bytes_eq (dyn_text inputs y) name) (λ e. other_text (dyn_text inputs y) name (none k d l e))));
  }
