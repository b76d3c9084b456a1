-- Where the parts of the tables stand.
use Rattle.std.proofs.Common.{ℕ, suc, ◌≡◌, ◌+◌, ◌-◌, ◌*◌, ◌≤◌, ◌∙◌, List, [], ◌∷◌, ◌++◌, length, map, refl, ap, arith, length-append}
use Rattle.std.specs.Prelude.{flat_map, replicate, nat_lt}
use Rattle.std.specs.List.{range_with_len}
use Rattle.std.proofs.lemmas.List.{length-map, length-replicate}
use Rattle.std.proofs.lemmas.List.FromFn.{length-range_with_len}
use Rattle.std.proofs.lemmas.List.Sorted.{length_permutation}
use Rattle.kl_model.specs.Sizes.{bucket_count, strings_size, symbol_count, tables_of}
use Rattle.kl_model.specs.Slots.{Entry, jump_entries, rela_entries}
use Rattle.kl_model.specs.Tables.{buckets_of, chains_from, first_in, hash_words, padded_to, rela_of, relas_of, strings_of, symbols_of, tables_bytes}
use Rattle.kl_model.specs.Written.{bytes_of, rela_bytes, sym_bytes}
use Rattle.kl_model.specs.declared.graph.Graph.{Graph}
use Rattle.kl_model.specs.declared.kit.Kit.{Kit}
use Rattle.kl_model.specs.declared.object.Input.{Input}
use Rattle.kl_model.specs.declared.place.Placement.{Placement}
use Rattle.kl_model.proofs.ImageBytes.{length-bytes_of}
use Rattle.kl_model.proofs.InOrder.{le-up}
use Rattle.kl_model.proofs.ListWords.{in_order-permutes}
use Rattle.kl_write.proofs.ReadHeaders.{HasAt, has_left, has_right}
use Rattle.kl_loading.specs.TablesReadBack.{HasTexts}
use Rattle.kl_loading.proofs.Rows.{length-rela, length-rows, length-sym}
use Rattle.kl_loading.proofs.Strings.{length-strings, length-syms}

pub length-chains : (n : ℕ) (xs : List ℕ) → length (chains_from n xs) ≡ length xs
length-chains n [] = refl
length-chains n (x ∷ xs) = ap suc (length-chains (suc n) xs)

pub length-relas : (p : Placement) (g : Graph) (es : List Entry) → length (relas_of p g es) ≡ length es
length-relas p g es =
    length_permutation (map (rela_of p g) es) (relas_of p g es) (in_order-permutes (λ r x. nat_lt r.offset x.offset) (map (rela_of p g) es)) ∙ length-map es (rela_of p g)

pub length-words : (inputs : List Input) (g : Graph) → length (hash_words inputs g) ≡ 2 + (bucket_count g + suc (length g.names))
length-words inputs g =
    let symbols = buckets_of inputs g in
    let first = map (λ b. first_in b 1 symbols) (range_with_len 0 (bucket_count g)) in
    let one : length first ≡ bucket_count g = length-map (range_with_len 0 (bucket_count g)) (λ b. first_in b 1 symbols) ∙ length-range_with_len 0 (bucket_count g) in
    let all : length symbols ≡ length g.names = length-map g.names _ in
    omega (arith, length-append first (0 ∷ chains_from 1 symbols), one, length-chains 1 symbols, all)

pub length-padded : (n : ℕ) (b : List ℕ) → length b ≤ n → length (padded_to n b) ≡ n
length-padded n b h = omega (arith, h, length-append b (replicate (n - length b) 0), length-replicate {A = ℕ} (n - length b) 0)

module _ (kit : Kit) (inputs : List Input) (g : Graph) (p : Placement) (texts : HasTexts inputs g) where
  abbrev words : List ℕ
  words = flat_map (bytes_of 4) (hash_words inputs g)

  abbrev syms : List ℕ
  syms = flat_map sym_bytes (symbols_of p g)

  abbrev strings : List ℕ
  strings = strings_of kit inputs g

  abbrev relas : List ℕ
  relas = flat_map rela_bytes (relas_of p g (rela_entries g))

  abbrev jumps : List ℕ
  jumps = flat_map rela_bytes (relas_of p g (jump_entries g))

  abbrev symbols_at : ℕ
  symbols_at = (tables_of kit g).symbols

  abbrev relas_at : ℕ
  relas_at = (tables_of kit g).relas

  words_fit : length words ≤ symbols_at
  words_fit =
      let count = length-rows (bytes_of 4) 4 (hash_words inputs g) (length-bytes_of 4) in
      let many = length-words inputs g in
      let past : 8 + 4 * (bucket_count g + symbol_count g) ≤ symbols_at = le-up (8 + 4 * (bucket_count g + symbol_count g)) 8 (omega arith) in
      omega (arith, count, many, past)

  length-symbols : length syms ≡ 24 * symbol_count g
  length-symbols = length-rows sym_bytes 24 (symbols_of p g) length-sym ∙ ap (λ n. 24 * suc n) (length-syms p g 1 g.names)

  strings_fit : symbols_at + (24 * symbol_count g + strings_size kit g) ≤ relas_at
  strings_fit =
      let past : symbols_at + 24 * symbol_count g + strings_size kit g ≤ relas_at = le-up (symbols_at + 24 * symbol_count g + strings_size kit g) 8 (omega arith) in
      omega (arith, past)

  length-named : length (syms ++ strings) ≡ 24 * symbol_count g + strings_size kit g
  length-named = omega (arith, length-append syms strings, length-symbols, length-strings kit inputs g texts)

  named_fit : length (syms ++ strings) ≤ relas_at - symbols_at
  named_fit = omega (arith, length-named, strings_fit)

  front : length (padded_to symbols_at words) ≡ symbols_at
  front = length-padded symbols_at words words_fit

  middle : length (padded_to (relas_at - symbols_at) (syms ++ strings)) ≡ relas_at - symbols_at
  middle = length-padded (relas_at - symbols_at) (syms ++ strings) named_fit

  length-first : length relas ≡ 24 * length (rela_entries g)
  length-first = length-rows rela_bytes 24 (relas_of p g (rela_entries g)) length-rela ∙ ap (λ n. 24 * n) (length-relas p g (rela_entries g))

  length-second : length jumps ≡ 24 * length (jump_entries g)
  length-second = length-rows rela_bytes 24 (relas_of p g (jump_entries g)) length-rela ∙ ap (λ n. 24 * n) (length-relas p g (jump_entries g))

  -- as many bytes as they are laid out with
  pub length-tables : length (tables_bytes kit inputs g p) ≡ (tables_of kit g).stop
  length-tables =
      let a = padded_to symbols_at words in
      let b = padded_to (relas_at - symbols_at) (syms ++ strings) in
      omega (arith, front, middle, length-first, length-second, strings_fit, length-append a (b ++ (relas ++ jumps)), length-append b (relas ++ jumps), length-append relas jumps)

  pub sizes_fit : (8 ≤ symbols_at) × (symbols_at + (24 * symbol_count g + strings_size kit g) ≤ relas_at)
  sizes_fit =
      let past : 8 + 4 * (bucket_count g + symbol_count g) ≤ symbols_at = le-up (8 + 4 * (bucket_count g + symbol_count g)) 8 (omega arith) in
      (omega (arith, past), strings_fit)

  module _ (b : List ℕ) (at : ℕ) (h : HasAt b at (tables_bytes kit inputs g p)) where
    pub words_there : HasAt b at words
    words_there = has_left b at words _ (has_left b at (padded_to symbols_at words) _ h)

    behind_words : HasAt b (at + symbols_at) (padded_to (relas_at - symbols_at) (syms ++ strings) ++ (relas ++ jumps))
    behind_words = has_right b at (at + symbols_at) (padded_to symbols_at words) _ (omega (arith, front)) h

    named_there : HasAt b (at + symbols_at) (syms ++ strings)
    named_there = has_left b (at + symbols_at) (syms ++ strings) _ (has_left b (at + symbols_at) (padded_to (relas_at - symbols_at) (syms ++ strings)) _ behind_words)

    pub symbols_there : HasAt b (at + symbols_at) syms
    symbols_there = has_left b (at + symbols_at) syms strings named_there

    pub strings_there : HasAt b (at + (tables_of kit g).strings) strings
    strings_there = has_right b (at + symbols_at) (at + (tables_of kit g).strings) syms strings (omega (arith, length-symbols)) named_there

    entries_there : HasAt b (at + relas_at) (relas ++ jumps)
    entries_there =
        has_right b (at + symbols_at) (at + relas_at) (padded_to (relas_at - symbols_at) (syms ++ strings)) _ (omega (arith, middle, strings_fit)) behind_words

    pub relas_there : HasAt b (at + relas_at) relas
    relas_there = has_left b (at + relas_at) relas jumps entries_there

    pub jumps_there : HasAt b (at + (tables_of kit g).jumps) jumps
    jumps_there = has_right b (at + relas_at) (at + (tables_of kit g).jumps) relas jumps (omega (arith, length-first)) entries_there
