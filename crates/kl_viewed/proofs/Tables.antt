-- The tables of a library's file have no flaw.
use Rattle.std.proofs.Common.{ℕ, zero, suc, ◌≡◌, ◌+◌, ◌-◌, ◌*◌, ◌/◌, ◌%◌, ◌^◌, ◌<◌, ◌≤◌, ◌∙◌, ◌&&◌, ◌||◌, ◌⊎◌, inl, inr, Bool, true, false, not, List, [], ◌∷◌, ◌++◌, length, map, refl, ap, sym, subst, arith}
use Rattle.std.specs.Prelude.{All, Option, Some, None, ◌==◌, cond, find, is_none, is_some, nat_lt, flat_map}
use Rattle.std.specs.Option.{option_map_or}
use Rattle.std.specs.List.{before_first, list_any}
use Rattle.std.proofs.lemmas.Bool.{eq-eqb, eqb-true, lt-ltb}
use Rattle.kl_le.specs.Bytes.{num}
use Rattle.kl_elf.specs.declared.records.Dyn.{Dyn}
use Rattle.kl_model.specs.Carries.{File, LibraryMade, dynamic_segment, head_for, segments_for}
use Rattle.kl_model.specs.Laid.{area_at}
use Rattle.kl_model.specs.Lists.{only_if}
use Rattle.kl_model.specs.Loaded.{chain_count, dyn_entry, dyn_value, dynamics, table_at}
use Rattle.kl_model.specs.Sizes.{bucket_count, has_bytes, made_of, names_size, page_of, soname_size, strings_size, symbol_count, tables_of, tags}
use Rattle.kl_model.specs.Slots.{jump_entries, rela_entries}
use Rattle.kl_model.specs.Tables.{dynamic_of, needed_from, tag_value}
use Rattle.kl_model.specs.declared.graph.Graph.{Graph}
use Rattle.kl_model.specs.declared.kit.Kit.{Kit}
use Rattle.kl_model.specs.declared.kit.KitKind.TheVariants.{Library}
use Rattle.kl_model.specs.declared.object.Input.{Input}
use Rattle.kl_model.specs.declared.place.Gaps.{Gaps}
use Rattle.kl_model.specs.declared.place.Placement.{Placement}
use Rattle.kl_model.proofs.InOrder.{le-up}
use Rattle.kl_write.specs.LaidKits.{HasAreaAddresses, IsLaidKit}
use Rattle.kl_loading.specs.TablesReadBack.{HasTexts}
use Rattle.kl_loading.proofs.BeforeFirst.{before_pass, before_stop}
use Rattle.kl_loading.proofs.HashWords.{counted}
use Rattle.kl_loading.proofs.Library.{base, dynamic_end, front}
use Rattle.kl_loading.proofs.Located.{dynamic_found}
use Rattle.kl_loading.proofs.TableParts.{words_there}
use Rattle.kl_loading.proofs.Tags.{first_with, jump_tags, rela_tags, rows}
use Rattle.kl_loading.proofs.TablesRead.{count_is, dynamic_is, dynamics_are, entry, entry_first, has_dynamic, hash_entry, headers, inside_is, len, ordered, parts_fit, place_is, size_is, tables_there}
use Rattle.kl_image.specs.Dynamic as image
use Rattle.kl_image.specs.Dynamic.{hash_size, is_relocations, is_wrong_entry, is_wrong_table, table_flaws, table_size}
use Rattle.kl_image.proofs.Whole.{tables_right}
use Rattle.kl_viewed.proofs.Entries.{NoneWrong, any_right, entries_right, fewer_before, none_wrong-append, none_wrong-before}

not_zero : (n : ℕ) → (n == 0) ≡ false → 0 < n
not_zero zero e = cc
not_zero (suc n) e = omega arith

abbrev row_of : (ℕ → ℕ) → ℕ → Dyn
row_of f t = record { tag = t; value = f t }

-- the first entry of a tag among rows of tags, if there is one, has the tag's value
first_or_none : (t : ℕ) (f : ℕ → ℕ) (ts : List ℕ) → (first_with t (rows t f ts) ≡ None) ⊎ (first_with t (rows t f ts) ≡ Some (record { tag = t; value = f t }))
first_or_none t f [] = inl refl
first_or_none t f (x ∷ xs) = go (x == 0) (x == t) refl refl (first_or_none t f xs)
  where
    go : (a b : Bool) → (x == 0) ≡ a → (x == t) ≡ b → (first_with t (rows t f xs) ≡ None) ⊎ (first_with t (rows t f xs) ≡ Some (record { tag = t; value = f t }))
        → (first_with t (rows t f (x ∷ xs)) ≡ None) ⊎ (first_with t (rows t f (x ∷ xs)) ≡ Some (record { tag = t; value = f t }))
    go true b e h more = inl (ap (find (λ d. d.tag == t)) (before_stop (λ d. d.tag == 0) (row_of f x) (rows t f xs) e))
    go false true e h more =
        let same : x ≡ t = eqb-true x t h in
        let first : first_with t (rows t f (x ∷ xs)) ≡ Some (row_of f x) = ap (find (λ d. d.tag == t)) (before_pass (λ d. d.tag == 0) (row_of f x) (rows t f xs) e) ∙ rw h refl in
        inr (first ∙ ap (λ y. Some (record { tag = y; value = f y })) same)
    go false false e h more =
        let rest : first_with t (rows t f (x ∷ xs)) ≡ first_with t (rows t f xs) = ap (find (λ d. d.tag == t)) (before_pass (λ d. d.tag == 0) (row_of f x) (rows t f xs) e) ∙ rw h refl in
        elim more [ inl n ↦ inl (rest ∙ n) | inr s ↦ inr (rest ∙ s) ]

-- a row of a tag among rows
any_row : (f : ℕ → ℕ) (t : ℕ) (ts : List ℕ) → list_any (λ (x : ℕ). x == t) ts ≡ true → list_any (λ (d : Dyn). d.tag == t) (rows t f ts) ≡ true
any_row f t [] h = cc
any_row f t (x ∷ xs) h = go (x == t) h (any_row f t xs)
  where
    go : (b : Bool) → (b || list_any (λ (x : ℕ). x == t) xs) ≡ true → (list_any (λ (x : ℕ). x == t) xs ≡ true → list_any (λ (d : Dyn). d.tag == t) (rows t f xs) ≡ true)
        → (b || list_any (λ (d : Dyn). d.tag == t) (rows t f xs)) ≡ true
    go true h more = refl
    go false h more = more h

-- the last tag is that of DT_NULL
abbrev is_null : ℕ → Bool
is_null t = t == 0

has_null : (kit : Kit) (g : Graph) → list_any is_null (tags kit g) ≡ true
has_null kit g =
    any_right is_null (only_if (is_some kit.soname) 14) _
    (any_right is_null (only_if (has_bytes g 4) 12) _
    (any_right is_null (only_if (has_bytes g 5) 13) _
    (any_right is_null (cond (has_bytes g 11) (25 ∷ 27 ∷ []) []) _
    (any_right is_null (cond (has_bytes g 12) (26 ∷ 28 ∷ []) []) _
    (any_right is_null (4 ∷ 5 ∷ 6 ∷ 10 ∷ 11 ∷ []) (rela_tags g ++ (jump_tags g ++ 30 ∷ 0 ∷ []))
    (any_right is_null (rela_tags g) (jump_tags g ++ 30 ∷ 0 ∷ []) (any_right is_null (jump_tags g) (30 ∷ 0 ∷ []) refl)))))))

module _ (img : List ℕ) (p : Placement) (kit : Kit) (inputs : List Input) (g : Graph) (gaps : Option Gaps) (order : List ℕ) (library : kit.kind ≡ Library) (laid : IsLaidKit kit g gaps order p)
    (numbers : HasAreaAddresses p) (file : File img (head_for kit.kind (segments_for kit.kind (page_of kit g) p) p g) (segments_for kit.kind (page_of kit g) p)) (made : LibraryMade img p kit inputs g)
    (texts : HasTexts inputs g) where
  abbrev start : ℕ
  start = (area_at p 8).start

  abbrev stop : ℕ
  stop = start + (tables_of kit g).stop

  abbrev value : ℕ → ℕ
  value = tag_value kit g p

  abbrev row : ℕ → Dyn
  row t = record { tag = t; value = value t }

  fit : (8 ≤ (tables_of kit g).symbols) × ((tables_of kit g).symbols + (24 * symbol_count g + strings_size kit g) ≤ (tables_of kit g).relas)
  fit = parts_fit img p kit inputs g gaps order library laid numbers file made texts

  -- how many buckets and symbols are read
  few : length g.names < 2 ^ 31
  few = let l = laid.sound.name_count in omega (arith, l)

  hash_at : table_at img 4 8 ≡ Some start
  hash_at = place_is img p kit inputs g gaps order library laid numbers file made texts 4 8 (row 4) (hash_entry img p kit inputs g gaps order library laid numbers file made texts) (omega arith) (omega arith) (omega (arith, fit.0, fit.1))

  buckets_are : image.bucket_count img ≡ bucket_count g
  buckets_are =
      ap (λ o. option_map_or (λ at. num img at 4) o 0) hash_at
      ∙ counted inputs g img start few (words_there kit inputs g p texts img start (tables_there img p kit inputs g gaps order library laid numbers file made texts))

  symbols_are : chain_count img ≡ symbol_count g
  symbols_are = count_is img p kit inputs g gaps order library laid numbers file made texts

  strings_are : dyn_value img 10 ≡ strings_size kit g
  strings_are = size_is img p kit inputs g gaps order library laid numbers file made texts

  -- a table in the area isn't wrong
  not_wrong : (d : Dyn) (n : ℕ) → start ≤ d.value → d.value + n ≤ stop → (is_relocations d.tag && not (n % 24 == 0)) ≡ false → is_wrong_table img d n ≡ false
  not_wrong d n from to whole = go (n == 0) refl
    where
      go : (t : Bool) → (n == 0) ≡ t → is_wrong_table img d n ≡ false
      go true e = rw (e, whole) refl
      go false e = rw (e, inside_is img p kit inputs g gaps order library laid numbers file made texts d.value n (not_zero n e) from to, whole) refl

  by_size : (d : Dyn) (n : ℕ) → table_size img d.tag ≡ Some n → is_wrong_table img d n ≡ false → is_wrong_entry img d ≡ false
  by_size d n is right = rw (is, right) refl

  hash_fit : 8 + 4 * (bucket_count g + symbol_count g) ≤ (tables_of kit g).symbols
  hash_fit = le-up (8 + 4 * (bucket_count g + symbol_count g)) 8 (omega arith)

  hash_right : is_wrong_entry img (row 4) ≡ false
  unfolding table_size
  hash_right =
      by_size (row 4) (hash_size img) refl (not_wrong (row 4) (hash_size img) (omega arith) (omega (arith, buckets_are, symbols_are, hash_fit, fit.1)) refl)

  strings_right : is_wrong_entry img (row 5) ≡ false
  unfolding table_size
  strings_right = by_size (row 5) (dyn_value img 10) refl (not_wrong (row 5) (dyn_value img 10) (omega arith) (omega (arith, strings_are, fit.1)) refl)

  symbols_right : is_wrong_entry img (row 6) ≡ false
  unfolding table_size
  symbols_right = by_size (row 6) (24 * chain_count img) refl (not_wrong (row 6) (24 * chain_count img) (omega arith) (omega (arith, symbols_are, fit.1)) refl)

  -- the size of a table of relocation entries is 0 where its entry is missing
  size_or_none : (t : ℕ) → not (1 == 0) && not (1 == t) ≡ true → (dyn_value img t ≡ 0) ⊎ (dyn_value img t ≡ value t)
  size_or_none t h =
      let is = entry_first img p kit inputs g gaps order library laid numbers file made texts t h in
      elim (first_or_none t value (tags kit g)) [
        | inl n ↦ inl (ap (λ o. option_map_or (λ (d : Dyn). d.value) o 0) (is ∙ n))
        | inr s ↦ inr (ap (λ o. option_map_or (λ (d : Dyn). d.value) o 0) (is ∙ s))
      ]

  whole_entries : (t n k : ℕ) → (n ≡ 0) ⊎ (n ≡ 24 * k) → (is_relocations t && not (n % 24 == 0)) ≡ false
  whole_entries t n k h =
      let rest : n % 24 ≡ 0 = elim h [ inl z ↦ rw z refl | inr m ↦ omega (arith, m) ] in
      let is : (n % 24 == 0) ≡ true = eq-eqb (n % 24) 0 rest in
      rw is (go (is_relocations t))
    where
      go : (b : Bool) → (b && false) ≡ false
      go true = refl
      go false = refl

  relas_right : is_wrong_entry img (row 7) ≡ false
  unfolding table_size
  relas_right =
      let size : (dyn_value img 8 ≡ 0) ⊎ (dyn_value img 8 ≡ 24 * length (rela_entries g)) = elim (size_or_none 8 refl) [ inl z ↦ inl z | inr v ↦ inr (omega (arith, v)) ] in
      let to : value 7 + dyn_value img 8 ≤ stop = elim size [ inl z ↦ omega (arith, z) | inr v ↦ omega (arith, v) ] in
      by_size (row 7) (dyn_value img 8) refl (not_wrong (row 7) (dyn_value img 8) (omega arith) to (whole_entries 7 (dyn_value img 8) (length (rela_entries g)) size))

  jumps_right : is_wrong_entry img (row 23) ≡ false
  unfolding table_size
  jumps_right =
      let size : (dyn_value img 2 ≡ 0) ⊎ (dyn_value img 2 ≡ 24 * length (jump_entries g)) = elim (size_or_none 2 refl) [ inl z ↦ inl z | inr v ↦ inr (omega (arith, v)) ] in
      let to : value 23 + dyn_value img 2 ≤ stop = elim size [ inl z ↦ omega (arith, z) | inr v ↦ omega (arith, v) ] in
      by_size (row 23) (dyn_value img 2) refl (not_wrong (row 23) (dyn_value img 2) (omega arith) to (whole_entries 23 (dyn_value img 2) (length (jump_entries g)) size))

  -- an entry of another tag names no table
  other_right : (d : Dyn) → (d.tag == 4) ≡ false → (d.tag == 6) ≡ false → (d.tag == 5) ≡ false → (d.tag == 7) ≡ false → (d.tag == 23) ≡ false → is_wrong_entry img d ≡ false
  unfolding table_size
  other_right d a b c e f = rw (a, b, c, e, f) refl

  at_tag : (t n : ℕ) → (t == n) ≡ true → is_wrong_entry img (row n) ≡ false → is_wrong_entry img (row t) ≡ false
  at_tag t n e h = subst (λ m. is_wrong_entry img (row m) ≡ false) (sym (eqb-true t n e)) h

  row_right : (t : ℕ) → is_wrong_entry img (row t) ≡ false
  row_right t = go (t == 4) (t == 6) (t == 5) (t == 7) (t == 23) refl refl refl refl refl
    where
      go : (a b c d e : Bool) → (t == 4) ≡ a → (t == 6) ≡ b → (t == 5) ≡ c → (t == 7) ≡ d → (t == 23) ≡ e → is_wrong_entry img (row t) ≡ false
      go true b c d e f h i j k = at_tag t 4 f hash_right
      go false true c d e f h i j k = at_tag t 6 h symbols_right
      go false false true d e f h i j k = at_tag t 5 i strings_right
      go false false false true e f h i j k = at_tag t 7 j relas_right
      go false false false false true f h i j k = at_tag t 23 k jumps_right
      go false false false false false f h i j k = other_right (row t) f h i j k

  rows_right : (ts : List ℕ) → NoneWrong img (map row ts)
  rows_right [] = tt
  rows_right (t ∷ ts) = (row_right t, rows_right ts)

  needed_right : (at : ℕ) (ts : List (List ℕ)) → NoneWrong img (needed_from at ts)
  needed_right at [] = tt
  needed_right at (t ∷ ts) = (other_right (record { tag = 1; value = at }) refl refl refl refl refl, needed_right (suc (at + length t)) ts)

  all_right : NoneWrong img (dynamic_of kit g p)
  all_right = none_wrong-append img (needed_from (names_size g + soname_size kit) kit.needed) (map row (tags kit g)) (needed_right (names_size g + soname_size kit) kit.needed) (rows_right (tags kit g))

  null_there : list_any (λ (d : Dyn). d.tag == 0) (dynamic_of kit g p) ≡ true
  null_there = any_right (λ (d : Dyn). d.tag == 0) (needed_from (names_size g + soname_size kit) kit.needed) (map row (tags kit g)) (any_row value 0 (tags kit g) (has_null kit g))

  -- THE TABLES
  pub no_table_flaw : table_flaws img ≡ []
  no_table_flaw =
      let ds = before_first (λ (d : Dyn). d.tag == 0) (dynamic_of kit g p) in
      let read = dynamics_are img p kit inputs g gaps order library laid numbers file made texts in
      let zero_base = base kit inputs g gaps order p library laid numbers in
      let found = dynamic_found img p (page_of kit g) zero_base (ordered img p kit inputs g gaps order library laid numbers file made texts) (front kit inputs g gaps order p library laid numbers)
      (headers img p kit inputs g gaps order library laid numbers file made texts) (len img p kit inputs g gaps order library laid numbers file made texts) in
      let end = dynamic_end kit inputs g gaps order p library laid numbers (has_dynamic img p kit inputs g gaps order library laid numbers file made texts) in
      let size = dynamic_is img p kit inputs g gaps order library laid numbers file made texts in
      let count : (dynamic_segment p).filesz / 16 ≡ length (dynamic_of kit g p) = omega (arith, end, size) in
      let fewer : length ds < length (dynamic_of kit g p) = fewer_before (λ (d : Dyn). d.tag == 0) (dynamic_of kit g p) null_there in
      let read_len : length (dynamics img) ≡ length ds = ap length read in
      tables_right img (dynamic_segment p) found (entries_right img (dynamic_segment p).offset ds read (none_wrong-before img (λ (d : Dyn). d.tag == 0) (dynamic_of kit g p) all_right))
      (lt-ltb (length (dynamics img)) ((dynamic_segment p).filesz / 16) (omega (arith, read_len, count, fewer)))
