-- A made object reads as the input of its kit.
use Rattle.std.proofs.Common.{ℕ, ◌≡◌, ◌+◌, ◌-◌, ◌*◌, ◌^◌, ◌<◌, ◌≤◌, ◌∙◌, true, false, ◌&&◌, List, [], ◌∷◌, ◌++◌, length, take, drop, replicate, refl, ap, sym, arith, append_assoc, codes, decimal}
use Rattle.std.specs.Prelude.{Some, None, flat_map, position, ◌==◌}
use Rattle.std.specs.Int.RustNames.{count_ones}
use Rattle.std.specs.Str.Parse.{AllDigits}
use Rattle.std.proofs.lemmas.Bool.{le-ltb, ne_eqb}
use Rattle.std.proofs.lemmas.Bool.Decides.{nat_tests}
use Rattle.std.proofs.lemmas.Fmt.{decimal_is_IsNumeral, length-decimal-le}
use Rattle.std.proofs.lemmas.List.Elements.{All-from_recursion}
use Rattle.std.proofs.lemmas.List.{append-nil, length-append, length-drop, length-replicate}
use Rattle.std.proofs.lemmas.Str.Parse.{digit_at}
use Rattle.std.proofs.Math.Seq.{take-append_seam}
use Rattle.kl_base.specs.declared.class.Range.{Range}
use Rattle.kl_base.specs.declared.limits.TheConstants.{SIZE_LIMIT}
use Rattle.kl_elf.specs.Records.{rela_at, sym_at}
use Rattle.kl_elf.specs.declared.records.Ehdr.{Ehdr}
use Rattle.kl_elf.specs.declared.records.Shdr.{Shdr}
use Rattle.kl_model.specs.Kept.{no_symbol}
use Rattle.kl_model.specs.Texts.{has, text_at}
use Rattle.kl_model.specs.Written.{ehdr_bytes, rela_bytes, shdr_bytes, sym_bytes}
use Rattle.kl_model.specs.declared.object.Object.{Object}
use Rattle.kl_model.specs.declared.object.Section.{Section}
use Rattle.kl_model.specs.declared.object.Symbol.{Symbol}
use Rattle.kl_rel.specs.Flaws.{first_of}
use Rattle.kl_rel.specs.Headers.{head, head_flaw, table_checks, ranges_flaw, string_in, section}
use Rattle.kl_rel.specs.Objects.{object}
use Rattle.kl_rel.specs.Sections.{has_priority, is_alignment, names, section_checks, sections_flaw, sections_in}
use Rattle.kl_rel.specs.SymbolTables.{listed_symbol, symbol_checks, symbol_count, symbol_form_checks, symbol_place_checks, symbols_flaw, symbols_in, table_form_checks}
use Rattle.kl_rel.specs.Relocations.{fields_before, fields_in, fields_of, is_rel, is_rela, rela_flaw_of, relocations_flaw}
use Rattle.kl_rel.specs.SectionGroups.{groups_flaw, groups_in}
use Rattle.kl_rel.proofs.KnownRecords.{IsSmallEhdr, IsSmallRela, IsSmallShdr, IsSmallSym, behind, read_rela, read_sym, string_there, text_there}
use Rattle.kl_rel.proofs.KnownFiles.{EachFrom, HasTable, IsFile, known_file, shnum_is, shstrndx_is, head_passes, table_passes, ranges_pass, sections_pass, other_passes, allocated_passes, fields_listed, flags_pass, form_passes, no_flaw, no_groups, no_relocation, object_is, one_table, relocations_pass, section_listed, sections_listed, tables_are}
use Rattle.kl_draw.specs.GapFile.{bytes_section, null_section, relocatable_head}
use Rattle.kl_elf.specs.declared.abi.TheConstants.{SHF_ALLOC, SHF_COMPRESSED, SHF_EXECINSTR, SHF_TLS, SHF_WRITE, SHN_UNDEF, SHT_PROGBITS, STT_FUNC, STT_NOTYPE}
use Rattle.kl_elf.specs.declared.records.TheConstants.Ehdr as ehdr
use Rattle.kl_elf.specs.declared.records.TheConstants.Rela as rela
use Rattle.kl_elf.specs.declared.records.TheConstants.Shdr as shdr
use Rattle.kl_elf.specs.declared.records.TheConstants.Sym as sym_record
use Rattle.kl_model.specs.declared.area.TheConstants as area
use Rattle.kl_generate.specs.declared.limits.TheConstants.{MADE_LIMIT}
use Rattle.kl_generate.specs.declared.object.TheConstants as made
use Rattle.kl_generate.specs.Made.{IsMadeInput, IsMadeSection, IsMadeSymbol, callee, made_call, made_name, made_word, text_size}
use Rattle.kl_generate.specs.MadeFile.{callee_name, callee_symbol, data_entries_place, data_entries_section, data_entry, data_place, data_section, data_size, headers_place, made_file, names_place, names_section, own_symbol, padding, section_names, sections_from_one, strings, strings_place, strings_section, symbols_place, symbols_section, text, text_entries_place, text_entries_section, text_entry, text_section}
use Rattle.kl_generate.specs.MadeRead.{IsMadeRead, MadeObjects, made_input}
use Rattle.kl_generate.proofs.TablesRead.{HasNoZero, IsEntrySection, ended_text, one_entry_passes, one_field, symbol_listed, symbol_passes, symbols_listed, symbols_pass, three_symbols}

-- the parts of a file in a row
in_a_row : (t d r s z y u m p x : List ℕ)
    → (t ++ (d ++ (r ++ (s ++ ((z ++ (y ++ u)) ++ (m ++ p)))))) ++ x ≡ t ++ (d ++ (r ++ (s ++ (z ++ (y ++ (u ++ (m ++ (p ++ x))))))))
in_a_row t d r s z y u m p x = simp append_assoc

length_headers : (ss : List Shdr) → length (flat_map shdr_bytes ss) ≡ shdr.SIZE * length ss
length_headers [] = refl
length_headers (s ∷ ss) = omega (arith, length-append (shdr_bytes s) (flat_map shdr_bytes ss), length_headers ss)

-- the name of a function has no zero byte, and five bytes at most
digits_have_no_zero : (ds : List ℕ) → AllDigits 10 ds → HasNoZero ds
digits_have_no_zero [] digits = tt
digits_have_no_zero (d ∷ ds) digits =
    let range = digit_at (d ∷ ds) 0 digits (omega arith) in
    (ne_eqb d 0 (λ e. omega (arith, range.0, e)), digits_have_no_zero ds digits.1)

name_has_no_zero : (k : ℕ) → k < MADE_LIMIT → HasNoZero (made_name k)
name_has_no_zero k small = (refl, digits_have_no_zero (decimal k) (decimal_is_IsNumeral k (omega arith)).0.1)

short_name : (k : ℕ) → k < MADE_LIMIT → length (made_name k) ≤ 5
short_name k small = omega (arith, length-decimal-le 4 k (omega arith) (omega arith) (omega arith))

-- the names of two functions, behind a zero byte
second_there : (xs ys : List ℕ) → drop (2 + length xs) (0 ∷ (xs ++ (0 ∷ ys))) ≡ ys
second_there xs ys =
    behind (0 ∷ (xs ++ (0 ∷ ys))) 0 (2 + length xs) (0 ∷ (xs ++ 0 ∷ [])) ys (omega (arith, length-append xs (0 ∷ [])))
    (ap (λ zs. 0 ∷ zs) (sym (append_assoc xs (0 ∷ []) ys)))

length_text : (k : ℕ) → length (text k) ≡ text_size k
length_text k =
    omega (arith, length-append (replicate (text_size k - 6) area.NOP) (made.RETURN ∷ []), length-replicate (text_size k - 6) area.NOP)

length_strings : (n k : ℕ) → length (strings n k) ≡ 3 + length (made_name k) + length (made_name (callee n k))
length_strings n k =
    omega (arith, length-append (made_name k) (0 ∷ (made_name (callee n k) ++ 0 ∷ [])), length-append (made_name (callee n k)) (0 ∷ []))

module _ (n k : ℕ) (few : n ≤ MADE_LIMIT) (below : k < n) where
  abbrev b : List ℕ
  b = made_file n k

  abbrev h : Ehdr
  h = relocatable_head (headers_place k) 8 7

  abbrev own : List ℕ
  own = made_name k

  abbrev called : List ℕ
  called = made_name (callee n k)

  abbrev names_of : List ℕ
  names_of = strings n k

  abbrev ss : List Shdr
  ss = sections_from_one (length names_of) k

  small_number : k < MADE_LIMIT
  small_number = omega arith

  small_callee : callee n k < MADE_LIMIT
  small_callee = omega arith

  short_names : length names_of ≤ 13
  short_names = omega (arith, length_strings n k, short_name k small_number, short_name (callee n k) small_callee)

  -- the file from its parts on
  abbrev from_headers : List ℕ
  from_headers = flat_map shdr_bytes (null_section ∷ ss) ++ names_of

  abbrev from_padding : List ℕ
  from_padding = padding ++ from_headers

  abbrev from_names : List ℕ
  from_names = section_names ++ from_padding

  abbrev from_called : List ℕ
  from_called = sym_bytes (callee_symbol k) ++ from_names

  abbrev from_own : List ℕ
  from_own = sym_bytes (own_symbol k) ++ from_called

  abbrev from_symbols : List ℕ
  from_symbols = replicate sym_record.SIZE 0 ++ from_own

  abbrev from_data_entries : List ℕ
  from_data_entries = rela_bytes data_entry ++ from_symbols

  abbrev from_text_entries : List ℕ
  from_text_entries = rela_bytes text_entry ++ from_data_entries

  abbrev from_data : List ℕ
  from_data = replicate data_size 0 ++ from_text_entries

  abbrev from_text : List ℕ
  from_text = text k ++ from_data

  whole : b ≡ ehdr_bytes h ++ from_text
  unfolding made_file
  whole =
      ap (λ xs. ehdr_bytes h ++ xs)
      (in_a_row (text k) (replicate data_size 0) (rela_bytes text_entry) (rela_bytes data_entry) (replicate sym_record.SIZE 0) (sym_bytes (own_symbol k))
      (sym_bytes (callee_symbol k)) section_names padding from_headers)

  at_text : drop ehdr.SIZE b ≡ from_text
  at_text = behind b 0 ehdr.SIZE (ehdr_bytes h) from_text refl whole

  at_data : drop (data_place k) b ≡ from_data
  at_data = behind b ehdr.SIZE (data_place k) (text k) from_data (omega (arith, length_text k)) at_text

  at_text_entries : drop (text_entries_place k) b ≡ from_text_entries
  at_text_entries = behind b (data_place k) (text_entries_place k) (replicate data_size 0) from_text_entries refl at_data

  at_data_entries : drop (data_entries_place k) b ≡ from_data_entries
  at_data_entries = behind b (text_entries_place k) (data_entries_place k) (rela_bytes text_entry) from_data_entries refl at_text_entries

  at_symbols : drop (symbols_place k) b ≡ from_symbols
  at_symbols = behind b (data_entries_place k) (symbols_place k) (rela_bytes data_entry) from_symbols refl at_data_entries

  at_own : drop (symbols_place k + sym_record.SIZE * 1) b ≡ from_own
  at_own = behind b (symbols_place k) (symbols_place k + sym_record.SIZE * 1) (replicate sym_record.SIZE 0) from_own refl at_symbols

  at_called : drop (symbols_place k + sym_record.SIZE * 2) b ≡ from_called
  at_called = behind b (symbols_place k + sym_record.SIZE * 1) (symbols_place k + sym_record.SIZE * 2) (sym_bytes (own_symbol k)) from_called (omega arith) at_own

  at_names : drop (names_place k) b ≡ from_names
  at_names = behind b (symbols_place k + sym_record.SIZE * 2) (names_place k) (sym_bytes (callee_symbol k)) from_names (omega arith) at_called

  at_padding : drop (names_place k + length section_names) b ≡ from_padding
  at_padding = behind b (names_place k) (names_place k + length section_names) section_names from_padding refl at_names

  at_headers : drop (headers_place k) b ≡ from_headers
  at_headers = behind b (names_place k + length section_names) (headers_place k) padding from_headers (omega arith) at_padding

  at_sections : drop (headers_place k + shdr.SIZE) b ≡ flat_map shdr_bytes ss ++ names_of
  at_sections =
      behind b (headers_place k) (headers_place k + shdr.SIZE) (shdr_bytes null_section) (flat_map shdr_bytes ss ++ names_of) refl
      (at_headers ∙ append_assoc (shdr_bytes null_section) (flat_map shdr_bytes ss) names_of)

  at_strings : drop (strings_place k) b ≡ names_of ++ []
  at_strings =
      behind b (headers_place k) (strings_place k) (flat_map shdr_bytes (null_section ∷ ss)) names_of (omega (arith, length_headers (null_section ∷ ss))) at_headers
      ∙ sym (append-nil names_of)

  long : length b ≡ strings_place k + length names_of
  long =
      let rest = ap length at_strings in
      omega (arith, rest, length-drop (strings_place k) b, length-append names_of [], length_strings n k)

  small_head : IsSmallEhdr h
  small_head = record {
    ident = refl;
    kind = omega arith;
    machine = omega arith;
    version = omega arith;
    entry = omega arith;
    phoff = omega arith;
    shoff = omega arith;
    flags = omega arith;
    ehsize = omega arith;
    phentsize = omega arith;
    phnum = omega arith;
    shentsize = omega arith;
    shnum = omega arith;
    shstrndx = omega arith;
  }

  small_section : (name kind flags place size align link info entsize : ℕ) → name < 2 ^ 32 → kind < 2 ^ 32 → flags < 2 ^ 32 → place < 2 ^ 32 → size < 2 ^ 32
      → align < 2 ^ 32 → link < 2 ^ 32 → info < 2 ^ 32 → entsize < 2 ^ 32
      → IsSmallShdr (record (bytes_section name kind flags place size align) { link = link; info = info; entsize = entsize })
  small_section name kind flags place size align link info entsize n k f p s a l i e = record {
    name = omega (arith, n);
    kind = omega (arith, k);
    flags = omega (arith, f);
    addr = omega arith;
    offset = omega (arith, p);
    size = omega (arith, s);
    link = omega (arith, l);
    info = omega (arith, i);
    addralign = omega (arith, a);
    entsize = omega (arith, e);
  }

  small_bytes : (name kind flags place size align : ℕ) → name < 2 ^ 32 → kind < 2 ^ 32 → flags < 2 ^ 32 → place < 2 ^ 32 → size < 2 ^ 32 → align < 2 ^ 32
      → IsSmallShdr (bytes_section name kind flags place size align)
  small_bytes name kind flags place size align n k f p s a = small_section name kind flags place size align 0 0 0 n k f p s a (omega arith) (omega arith) (omega arith)

  all_small : EachFrom (λ n s. IsSmallShdr s) 1 ss
  all_small =
      let short = short_names in (
        small_bytes _ _ _ _ _ _ (omega arith) (omega arith) (omega arith) (omega arith) (omega arith) (omega arith),
        (
          small_bytes _ _ _ _ _ _ (omega arith) (omega arith) (omega arith) (omega arith) (omega arith) (omega arith),
          (
            small_section _ _ _ _ _ _ _ _ _ (omega arith) (omega arith) (omega arith) (omega arith) (omega arith) (omega arith) (omega arith) (omega arith) (omega arith),
            (
              small_section _ _ _ _ _ _ _ _ _ (omega arith) (omega arith) (omega arith) (omega arith) (omega arith) (omega arith) (omega arith) (omega arith) (omega arith),
              (
                small_section _ _ _ _ _ _ _ _ _ (omega arith) (omega arith) (omega arith) (omega arith) (omega arith) (omega arith) (omega arith) (omega arith) (omega arith),
                (
                  small_bytes _ _ _ _ _ _ (omega arith) (omega arith) (omega arith) (omega arith) (omega arith) (omega arith),
                  (small_bytes _ _ _ _ _ _ (omega arith) (omega arith) (omega arith) (omega arith) (omega arith) (omega arith), tt),
                ),
              ),
            ),
          ),
        ),
      )

  file : IsFile b h ss
  file = known_file b h ss from_text names_of small_head all_small refl whole at_sections

  names_are : names b ≡ names_section k
  names_are = rw (shstrndx_is b h ss file) (file.sections 7)

  -- a text of the table of the sections' names
  name_at : (p n : ℕ) → p ≤ 61 → position (λ c. c == 0) (drop p section_names) ≡ Some n → string_in b (names b) p ≡ Some (record { at = names_place k + p; len = n })
  name_at p n low found = rw names_are (string_there b (names_section k) p n section_names from_padding refl low at_names found)

  text_is : (p n : ℕ) → p ≤ 61 → n ≤ length (drop p section_names) → text_at b (record { at = names_place k + p; len = n }) ≡ take n (drop p section_names)
  text_is p n low short = text_there b (names_section k) p n section_names from_padding refl low at_names short

  heads : head_flaw b ≡ None
  heads = head_passes b h ss file refl refl refl refl refl refl (omega (arith, long))

  table : first_of (table_checks b) ≡ None
  table = table_passes b h ss file refl (omega (arith, long)) refl

  ranges : ranges_flaw b ≡ None
  ranges =
      ranges_pass b h ss file
      (λ _. omega (arith, long), (λ _. omega (arith, long), (λ _. omega (arith, long), (λ _. omega (arith, long), (λ _. omega (arith, long), (λ _. omega (arith, long), (λ _. omega (arith, long), tt)))))))

  -- the sections in memory
  module _ (p len flags place size align : ℕ) (found : position (λ c. c == 0) (drop p section_names) ≡ Some len) (low : p ≤ 61) (inside : len ≤ length (drop p section_names)) where
    abbrev section_is : Shdr
    section_is = bytes_section p SHT_PROGBITS flags place size align

    abbrev name_is : Range
    name_is = record { at = names_place k + p; len = len }

    section_passes : has flags SHF_TLS ≡ false → has flags SHF_COMPRESSED ≡ false → (has flags SHF_WRITE && has flags SHF_EXECINSTR) ≡ false
        → has_priority (take len (drop p section_names)) ≡ false → is_alignment align ≡ true → size ≤ SIZE_LIMIT
        → (q : ℕ) → first_of (section_checks b (names b) q section_is) ≡ None
    section_passes tls compressed both plain align size =
        allocated_passes b (names b) section_is name_is (name_at p len low found) (flags_pass section_is tls compressed both)
        (form_passes b section_is name_is (take len (drop p section_names)) refl (text_is p len low inside) plain align size)

  sections : sections_flaw b ≡ None
  unfolding count_ones
  sections =
      sections_pass b h ss file (
        section_passes 1 5 (SHF_ALLOC + SHF_EXECINSTR) ehdr.SIZE (text_size k) 16 refl (omega arith) (omega arith) refl refl refl refl refl (omega arith),
        (
          section_passes 7 5 (SHF_ALLOC + SHF_WRITE) (data_place k) data_size 8 refl (omega arith) (omega arith) refl refl refl refl refl (omega arith),
          (
            other_passes b (names b) (text_entries_section k) (record { at = names_place k + 13; len = 10 }) (name_at 13 10 (omega arith) refl) refl,
            (
              other_passes b (names b) (data_entries_section k) (record { at = names_place k + 24; len = 10 }) (name_at 24 10 (omega arith) refl) refl,
              (
                other_passes b (names b) (symbols_section k) (record { at = names_place k + 35; len = 7 }) (name_at 35 7 (omega arith) refl) refl,
                (
                  other_passes b (names b) (strings_section (length names_of) k) (record { at = names_place k + 43; len = 7 }) (name_at 43 7 (omega arith) refl) refl,
                  (other_passes b (names b) (names_section k) (record { at = names_place k + 51; len = 9 }) (name_at 51 9 (omega arith) refl) refl, tt),
                ),
              ),
            ),
          ),
        ),
      )

  -- a section as it is read
  abbrev read_section : ℕ → Shdr → Section
  read_section n s =
      record { name = record { at = names_place k + s.name; len = n }; kind = s.kind; flags = s.flags; at = s.offset; size = s.size; align = s.addralign }

  abbrev others : List Section
  others =
      read_section 10 (text_entries_section k) ∷ read_section 10 (data_entries_section k) ∷ read_section 7 (symbols_section k)
      ∷ read_section 7 (strings_section (length names_of) k) ∷ read_section 9 (names_section k) ∷ []

  listed : sections_in b ≡ read_section 5 (text_section k) ∷ read_section 5 (data_section k) ∷ others
  listed =
      sections_listed b h ss file
      ∙ rw (
        section_listed b (names b) (text_section k) (record { at = names_place k + 1; len = 5 }) (name_at 1 5 (omega arith) refl),
        section_listed b (names b) (data_section k) (record { at = names_place k + 7; len = 5 }) (name_at 7 5 (omega arith) refl),
        section_listed b (names b) (text_entries_section k) (record { at = names_place k + 13; len = 10 }) (name_at 13 10 (omega arith) refl),
        section_listed b (names b) (data_entries_section k) (record { at = names_place k + 24; len = 10 }) (name_at 24 10 (omega arith) refl),
        section_listed b (names b) (symbols_section k) (record { at = names_place k + 35; len = 7 }) (name_at 35 7 (omega arith) refl),
        section_listed b (names b) (strings_section (length names_of) k) (record { at = names_place k + 43; len = 7 }) (name_at 43 7 (omega arith) refl),
        section_listed b (names b) (names_section k) (record { at = names_place k + 51; len = 9 }) (name_at 51 9 (omega arith) refl),
      ) refl

  groups : (groups_flaw b ≡ None) × (groups_in b ≡ [])
  groups = no_groups b h ss file (refl, (refl, (refl, (refl, (refl, (refl, (refl, tt)))))))

  -- the symbol table is section 5, and its string table section 6
  known_table : HasTable b (symbols_section k)
  unfolding table_form_checks
  known_table = one_table b 5 (symbols_section k) (tables_are b h ss file) refl (file.sections 5) (λ place. rw (file.sections 6) refl)

  abbrev strings_header : Shdr
  strings_header = strings_section (length names_of) k

  abbrev own_range : Range
  own_range = record { at = strings_place k + 1; len = length own }

  abbrev called_range : Range
  called_range = record { at = strings_place k + callee_name k; len = length called }

  own_there : drop 1 names_of ≡ own ++ 0 ∷ (called ++ 0 ∷ [])
  own_there = refl

  called_there : drop (callee_name k) names_of ≡ called ++ 0 ∷ []
  called_there = second_there own (called ++ 0 ∷ [])

  low_called : callee_name k ≤ length names_of
  low_called = omega (arith, length_strings n k)

  own_found : string_in b strings_header 1 ≡ Some own_range
  own_found =
      string_there b strings_header 1 (length own) names_of [] refl (omega (arith, length_strings n k)) at_strings
      (ended_text own (called ++ 0 ∷ []) (name_has_no_zero k small_number))

  called_found : string_in b strings_header (callee_name k) ≡ Some called_range
  called_found =
      string_there b strings_header (callee_name k) (length called) names_of [] refl low_called at_strings
      (ap (position (λ c. c == 0)) called_there ∙ ended_text called [] (name_has_no_zero (callee n k) small_callee))

  own_text : text_at b own_range ≡ own
  own_text =
      text_there b strings_header 1 (length own) names_of [] refl (omega (arith, length_strings n k)) at_strings
      (omega (arith, length-append own (0 ∷ (called ++ 0 ∷ []))))
      ∙ take-append_seam own (0 ∷ (called ++ 0 ∷ []))

  called_text : text_at b called_range ≡ called
  called_text =
      text_there b strings_header (callee_name k) (length called) names_of [] refl low_called at_strings
      (omega (arith, ap length called_there, length-append called (0 ∷ [])))
      ∙ (ap (take (length called)) called_there ∙ take-append_seam called (0 ∷ []))

  small_own : IsSmallSym (own_symbol k)
  small_own = record { name = omega arith; info = omega arith; other = omega arith; shndx = omega arith; value = omega arith; size = omega arith }

  small_called : IsSmallSym (callee_symbol k)
  small_called = record {
    name = omega (arith, short_name k small_number);
    info = omega arith;
    other = omega arith;
    shndx = omega arith;
    value = omega arith;
    size = omega arith;
  }

  own_read : sym_at b (symbols_place k + sym_record.SIZE * 1) ≡ own_symbol k
  own_read = read_sym b (symbols_place k + sym_record.SIZE * 1) (own_symbol k) from_called small_own at_own

  called_read : sym_at b (symbols_place k + sym_record.SIZE * 2) ≡ callee_symbol k
  called_read = read_sym b (symbols_place k + sym_record.SIZE * 2) (callee_symbol k) from_names small_called at_called

  -- both are GLOBAL and named
  own_named : (length own == 0) ≡ false
  own_named = grind (arith, nat_tests)

  called_named : (length called == 0) ≡ false
  called_named = grind (arith, nat_tests)

  own_passes : first_of (symbol_checks b (head b).shnum strings_header false (symbols_place k + sym_record.SIZE * 1)) ≡ None
  unfolding symbol_form_checks symbol_place_checks
  own_passes =
      symbol_passes b (head b).shnum strings_header false (symbols_place k + sym_record.SIZE * 1) (own_symbol k) own_range own_read own_found (rw own_named refl)
      (rw (shnum_is b h ss file) refl)

  called_passes : first_of (symbol_checks b (head b).shnum strings_header false (symbols_place k + sym_record.SIZE * 2)) ≡ None
  unfolding symbol_form_checks symbol_place_checks
  called_passes =
      symbol_passes b (head b).shnum strings_header false (symbols_place k + sym_record.SIZE * 2) (callee_symbol k) called_range called_read called_found (rw called_named refl)
      (rw (shnum_is b h ss file) refl)

  symbols : symbols_flaw b ≡ None
  symbols = symbols_pass b (symbols_section k) strings_header known_table.table refl (file.sections 6) own_passes called_passes

  abbrev read_own : Symbol
  read_own = listed_symbol (Some own_range) (own_symbol k)

  abbrev read_called : Symbol
  read_called = listed_symbol (Some called_range) (callee_symbol k)

  symbols_are : symbols_in b ≡ no_symbol ∷ read_own ∷ read_called ∷ []
  symbols_are =
      symbols_listed b (symbols_section k) strings_header known_table.table refl (file.sections 6)
      ∙ rw (
        symbol_listed b strings_header (symbols_place k + sym_record.SIZE * 1) (own_symbol k) own_range own_read own_found,
        symbol_listed b strings_header (symbols_place k + sym_record.SIZE * 2) (callee_symbol k) called_range called_read called_found,
      ) refl

  count : symbol_count b ≡ 3
  count = three_symbols b (symbols_section k) strings_header known_table.table refl (file.sections 6)

  -- the relocation entries
  small_text_entry : IsSmallRela text_entry
  small_text_entry = record { offset = omega arith; info = omega arith; addend = omega arith; signed = refl }

  small_data_entry : IsSmallRela data_entry
  small_data_entry = record { offset = omega arith; info = omega arith; addend = omega arith; signed = refl }

  text_entry_read : rela_at b (text_entries_place k + rela.SIZE * 0) ≡ text_entry
  text_entry_read =
      let here : text_entries_place k + rela.SIZE * 0 ≡ text_entries_place k = omega arith in
      ap (rela_at b) here ∙ read_rela b (text_entries_place k) text_entry from_data_entries small_text_entry at_text_entries

  data_entry_read : rela_at b (data_entries_place k + rela.SIZE * 0) ≡ data_entry
  data_entry_read =
      let here : data_entries_place k + rela.SIZE * 0 ≡ data_entries_place k = omega arith in
      ap (rela_at b) here ∙ read_rela b (data_entries_place k) data_entry from_symbols small_data_entry at_data_entries

  text_entries : IsEntrySection b 3 (text_entries_section k) (text_section k) text_entry
  text_entries = record {
    is = file.sections 3;
    kind = refl;
    known = rw (shnum_is b h ss file) refl;
    changes = file.sections 1;
    in_memory = refl;
    has_bytes = refl;
    symbols = rw (file.sections 5) refl;
    entsize = refl;
    size = refl;
    entry = text_entry_read;
  }

  data_entries : IsEntrySection b 4 (data_entries_section k) (data_section k) data_entry
  data_entries = record {
    is = file.sections 4;
    kind = refl;
    known = rw (shnum_is b h ss file) refl;
    changes = file.sections 2;
    in_memory = refl;
    has_bytes = refl;
    symbols = rw (file.sections 5) refl;
    entsize = refl;
    size = refl;
    entry = data_entry_read;
  }

  plain : (m : ℕ) (s : Shdr) → section b m ≡ s → is_rela s ≡ false → is_rel s ≡ false → (rela_flaw_of b m ≡ None) × (fields_of b m ≡ [])
  plain = no_relocation b

  text_fields : fields_of b 3 ≡ made_call ∷ []
  text_fields = one_field b 3 (text_entries_section k) (text_section k) text_entry text_entries

  data_fields : fields_of b 4 ≡ made_word ∷ []
  data_fields = one_field b 4 (data_entries_section k) (data_section k) data_entry data_entries

  before_text : fields_before b 3 0 ≡ []
  unfolding fields_before
  before_text = rw ((plain 1 _ (file.sections 1) refl refl).1, (plain 2 _ (file.sections 2) refl refl).1) refl

  before_data : fields_before b 4 0 ≡ made_call ∷ []
  unfolding fields_before
  before_data = rw ((plain 1 _ (file.sections 1) refl refl).1, (plain 2 _ (file.sections 2) refl refl).1, text_fields) refl

  text_entries_pass : rela_flaw_of b 3 ≡ None
  text_entries_pass =
      one_entry_passes b 3 (text_entries_section k) (text_section k) text_entry text_entries [] before_text (rw count refl)
      (le-ltb (text_size k) 5 (omega arith)) refl

  data_entries_pass : rela_flaw_of b 4 ≡ None
  data_entries_pass =
      one_entry_passes b 4 (data_entries_section k) (data_section k) data_entry data_entries (made_call ∷ []) before_data (rw count refl) refl refl

  entries : relocations_flaw b ≡ None
  entries =
      relocations_pass b h ss file (
        (plain 1 _ (file.sections 1) refl refl).0,
        (
          (plain 2 _ (file.sections 2) refl refl).0,
          (
            text_entries_pass,
            (
              data_entries_pass,
              (
                (plain 5 _ (file.sections 5) refl refl).0,
                ((plain 6 _ (file.sections 6) refl refl).0, ((plain 7 _ (file.sections 7) refl refl).0, tt)),
              ),
            ),
          ),
        ),
      )

  fields : fields_in b ≡ made_call ∷ made_word ∷ []
  fields =
      fields_listed b h ss file
      ∙ rw (
        (plain 1 _ (file.sections 1) refl refl).1,
        (plain 2 _ (file.sections 2) refl refl).1,
        text_fields,
        data_fields,
        (plain 5 _ (file.sections 5) refl refl).1,
        (plain 6 _ (file.sections 6) refl refl).1,
        (plain 7 _ (file.sections 7) refl refl).1,
      ) refl

  is_object : object b
      ≡ record {
        sections = read_section 5 (text_section k) ∷ read_section 5 (data_section k) ∷ others;
        symbols = no_symbol ∷ read_own ∷ read_called ∷ [];
        fields = made_call ∷ made_word ∷ [];
        groups = [];
      }
  is_object =
      object_is b (read_section 5 (text_section k) ∷ read_section 5 (data_section k) ∷ others) (no_symbol ∷ read_own ∷ read_called ∷ []) (made_call ∷ made_word ∷ []) []
      listed symbols_are fields groups.1

  text_made : IsMadeSection b (codes ".text") (SHF_ALLOC + SHF_EXECINSTR) (text_size k) 16 (read_section 5 (text_section k))
  text_made = record { named = text_is 1 5 (omega arith) (omega arith); kind = refl; flagged = refl; sized = refl; aligned = refl }

  data_made : IsMadeSection b (codes ".data") (SHF_ALLOC + SHF_WRITE) 8 8 (read_section 5 (data_section k))
  data_made = record { named = text_is 7 5 (omega arith) (omega arith); kind = refl; flagged = refl; sized = refl; aligned = refl }

  own_made : IsMadeSymbol b own STT_FUNC 1 read_own
  own_made = record { named = own_text; binding = refl; typed = refl; visibility = refl; stands = refl; value = refl }

  called_made : IsMadeSymbol b called STT_NOTYPE SHN_UNDEF read_called
  called_made = record { named = called_text; binding = refl; typed = refl; visibility = refl; stands = refl; value = refl }

  is_made : IsMadeInput n k (made_input n k)
  is_made = record {
    place = refl;
    text = read_section 5 (text_section k);
    words = read_section 5 (data_section k);
    others = others;
    sections = ap (λ (o : Object). o.sections) is_object;
    is_text = text_made;
    is_data = data_made;
    other_count = refl;
    unallocated = All-from_recursion (λ (s : Section). has s.flags SHF_ALLOC ≡ false) others (refl, (refl, (refl, (refl, (refl, tt)))));
    null = no_symbol;
    own = read_own;
    called = read_called;
    symbols = ap (λ (o : Object). o.symbols) is_object;
    is_null = (refl, refl);
    is_own = own_made;
    is_called = called_made;
    fields = ap (λ (o : Object). o.fields) is_object;
    groups = ap (λ (o : Object). o.groups) is_object;
  }

  pub made_is_read : IsMadeRead n k
  made_is_read = record {
    sound = no_flaw b heads table ranges sections known_table.checks symbols entries groups.0;
    made = is_made;
    short = omega (arith, long, short_names);
  }

pub made_are_read : MadeObjects
made_are_read n k some few below = made_is_read n k few below
