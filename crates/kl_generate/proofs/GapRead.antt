-- A gap object reads as its gaps.
use Rattle.std.proofs.Common.{ℕ, ◌≡◌, ◌+◌, ◌*◌, ◌^◌, ◌<◌, ◌≤◌, ◌∙◌, true, false, ◌&&◌, List, [], ◌∷◌, ◌++◌, length, get_or, take, drop, replicate, refl, ap, sym, arith, append_assoc}
use Rattle.std.specs.Prelude.{Some, None, flat_map, position, ◌==◌}
use Rattle.std.specs.Int.RustNames.{count_ones}
use Rattle.std.proofs.lemmas.List.{append-nil, length-drop, length-replicate, replicate-append-replicate}
use Rattle.kl_base.specs.declared.class.Range.{Range}
use Rattle.kl_base.specs.declared.limits.TheConstants.{SIZE_LIMIT}
use Rattle.kl_elf.specs.declared.records.Ehdr.{Ehdr}
use Rattle.kl_elf.specs.declared.records.Shdr.{Shdr}
use Rattle.kl_model.specs.Fit.{AreGaps}
use Rattle.kl_model.specs.Texts.{has, text_at}
use Rattle.kl_model.specs.Written.{ehdr_bytes, shdr_bytes}
use Rattle.kl_model.specs.declared.place.Gaps.{Gaps}
use Rattle.kl_rel.specs.Flaws.{first_of}
use Rattle.kl_rel.specs.Headers.{head_flaw, null_header, table_checks, ranges_flaw, string_in, section}
use Rattle.kl_rel.specs.Sections.{has_priority, is_linked_type, names, section_checks, section_name, sections_flaw, sections_in}
use Rattle.kl_rel.specs.Relocations.{fields_in, fields_of, is_rel, is_rela, rela_flaw_of, relocations_flaw}
use Rattle.kl_rel.specs.SectionGroups.{groups_flaw, groups_in}
use Rattle.kl_rel.proofs.KnownRecords.{IsSmallEhdr, IsSmallShdr, behind, bytes_there, string_there, text_there}
use Rattle.kl_rel.proofs.KnownFiles.{EachFrom, IsFile, known_file, shstrndx_is, head_passes, table_passes, ranges_pass, sections_pass, other_passes, allocated_passes, fields_listed, flags_pass, form_passes, HasNoSymbols, no_flaw, no_groups, no_relocation, no_symbols, nothing_of, object_is, relocations_pass, section_listed, sections_listed, tables_are}
use Rattle.kl_draw.specs.GapFile.{bytes_section, gap_file, gap_sections, headers_place, names_place, null_section, padding, relocatable_head, rodata_place, rwdata_place, section_names}
use Rattle.kl_elf.specs.declared.abi.TheConstants.{SHF_ALLOC, SHF_COMPRESSED, SHF_EXECINSTR, SHF_TLS, SHF_WRITE, SHT_NOBITS, SHT_PROGBITS, SHT_STRTAB}
use Rattle.kl_elf.specs.declared.records.TheConstants.Ehdr as ehdr
use Rattle.kl_elf.specs.declared.records.TheConstants.Shdr as shdr
use Rattle.kl_model.specs.declared.area.TheConstants as area
use Rattle.kl_generate.specs.GapRead.{GapObjects, IsRead, gap_object}

module _ (z : Gaps) (are : AreGaps z) where
  abbrev b : List ℕ
  b = gap_file z

  abbrev h : Ehdr
  h = relocatable_head (headers_place z) 6 5

  abbrev names_header : Shdr
  names_header = bytes_section 26 SHT_STRTAB 0 (names_place z) (length section_names) 1

  abbrev ss : List Shdr
  ss = bytes_section 1 SHT_PROGBITS (SHF_ALLOC + SHF_EXECINSTR) ehdr.SIZE z.text 16
      ∷ bytes_section 7 SHT_PROGBITS SHF_ALLOC (rodata_place z) z.rodata 16
      ∷ bytes_section 15 SHT_PROGBITS (SHF_ALLOC + SHF_WRITE) (rwdata_place z) z.rwdata 16
      ∷ bytes_section 21 SHT_NOBITS (SHF_ALLOC + SHF_WRITE) (names_place z) z.bss 16
      ∷ names_header ∷ []

  -- the file from its parts on
  abbrev from_headers : List ℕ
  from_headers = flat_map shdr_bytes (gap_sections z)

  abbrev from_padding : List ℕ
  from_padding = padding ++ from_headers

  abbrev from_names : List ℕ
  from_names = section_names ++ from_padding

  abbrev from_zeros : List ℕ
  from_zeros = replicate (z.rodata + z.rwdata) 0 ++ from_names

  abbrev from_text : List ℕ
  from_text = replicate z.text area.INT3 ++ from_zeros

  whole : b ≡ ehdr_bytes h ++ from_text
  unfolding gap_file
  whole = refl

  at_text : drop ehdr.SIZE b ≡ from_text
  at_text = behind b 0 ehdr.SIZE (ehdr_bytes h) from_text refl whole

  at_zeros : drop (rodata_place z) b ≡ from_zeros
  at_zeros = behind b ehdr.SIZE (rodata_place z) (replicate z.text area.INT3) from_zeros (omega (arith, length-replicate {A = ℕ})) at_text

  at_names : drop (names_place z) b ≡ from_names
  at_names = behind b (rodata_place z) (names_place z) (replicate (z.rodata + z.rwdata) 0) from_names (omega (arith, length-replicate {A = ℕ})) at_zeros

  at_padding : drop (names_place z + length section_names) b ≡ from_padding
  at_padding = behind b (names_place z) (names_place z + length section_names) section_names from_padding refl at_names

  at_headers : drop (headers_place z) b ≡ from_headers
  at_headers = behind b (names_place z + length section_names) (headers_place z) padding from_headers (omega arith) at_padding

  at_sections : drop (headers_place z + shdr.SIZE) b ≡ flat_map shdr_bytes ss
  at_sections = behind b (headers_place z) (headers_place z + shdr.SIZE) (shdr_bytes null_section) (flat_map shdr_bytes ss) refl at_headers

  -- each gap has 2 ^ 18 bytes at most
  small : (z.text ≤ 2 ^ 18) × (z.rodata ≤ 2 ^ 18) × (z.rwdata ≤ 2 ^ 18) × (z.bss ≤ 2 ^ 18)
  small = let t = are.text in let r = are.rodata in let d = are.rwdata in let s = are.bss in (omega arith, omega arith, omega arith, omega arith)

  small_head : IsSmallEhdr h
  small_head = record {
    ident = refl;
    kind = omega arith;
    machine = omega arith;
    version = omega arith;
    entry = omega arith;
    phoff = omega arith;
    shoff = omega (arith, small.0, small.1, small.2);
    flags = omega arith;
    ehsize = omega arith;
    phentsize = omega arith;
    phnum = omega arith;
    shentsize = omega arith;
    shnum = omega arith;
    shstrndx = omega arith;
  }

  small_section : (name kind flags place size align : ℕ) → name < 2 ^ 32 → kind < 2 ^ 32 → flags < 2 ^ 32 → place < 2 ^ 32 → size < 2 ^ 32 → align < 2 ^ 32
      → IsSmallShdr (record null_section { name = name; kind = kind; flags = flags; offset = place; size = size; addralign = align })
  small_section name kind flags place size align n k f p s a = record {
    name = omega (arith, n);
    kind = omega (arith, k);
    flags = omega (arith, f);
    addr = omega arith;
    offset = omega (arith, p);
    size = omega (arith, s);
    link = omega arith;
    info = omega arith;
    addralign = omega (arith, a);
    entsize = omega arith;
  }

  all_small : EachFrom (λ n s. IsSmallShdr s) 1 ss
  all_small =
      let s = small in (
        small_section _ _ _ _ _ _ (omega arith) (omega arith) (omega arith) (omega arith) (omega arith) (omega arith),
        (
          small_section _ _ _ _ _ _ (omega arith) (omega arith) (omega arith) (omega arith) (omega arith) (omega arith),
          (
            small_section _ _ _ _ _ _ (omega arith) (omega arith) (omega arith) (omega arith) (omega arith) (omega arith),
            (
              small_section _ _ _ _ _ _ (omega arith) (omega arith) (omega arith) (omega arith) (omega arith) (omega arith),
              (
                small_section _ _ _ _ _ _ (omega arith) (omega arith) (omega arith) (omega arith) (omega arith) (omega arith),
                tt,
              ),
            ),
          ),
        ),
      )

  file : IsFile b h ss
  file = known_file b h ss from_text [] small_head all_small refl whole (at_sections ∙ sym (append-nil (flat_map shdr_bytes ss)))

  long : length b ≡ headers_place z + shdr.SIZE * 6
  long =
      let rest = ap length at_sections in
      omega (arith, rest, length-drop (headers_place z + shdr.SIZE) b)

  names_are : names b ≡ names_header
  names_are = rw (shstrndx_is b h ss file) (file.sections 5)

  -- a text of the names' table
  name_at : (p n : ℕ) → p ≤ 36 → position (λ c. c == 0) (drop p section_names) ≡ Some n → string_in b (names b) p ≡ Some (record { at = names_place z + p; len = n })
  name_at p n low found = rw names_are (string_there b names_header p n section_names from_padding refl low at_names found)

  text_is : (p n : ℕ) → p ≤ 36 → n ≤ length (drop p section_names) → text_at b (record { at = names_place z + p; len = n }) ≡ take n (drop p section_names)
  text_is p n low short = text_there b names_header p n section_names from_padding refl low at_names short

  heads : head_flaw b ≡ None
  heads = head_passes b h ss file refl refl refl refl refl refl (omega (arith, long))

  table : first_of (table_checks b) ≡ None
  table = table_passes b h ss file refl (omega (arith, long)) refl

  ranges : ranges_flaw b ≡ None
  ranges = ranges_pass b h ss file (λ _. omega (arith, long), (λ _. omega (arith, long), (λ _. omega (arith, long), (λ e. cc, (λ _. omega (arith, long), tt)))))

  -- the sections of the gaps
  module _ (p n kind flags place size : ℕ) (found : position (λ c. c == 0) (drop p section_names) ≡ Some n) (low : p ≤ 36) (inside : n ≤ length (drop p section_names)) where
    abbrev section_is : Shdr
    section_is = bytes_section p kind flags place size 16

    abbrev name_is : Range
    name_is = record { at = names_place z + p; len = n }

    name_there : (kind == 0) ≡ false → section_name b (names b) section_is ≡ Some name_is
    name_there some = rw (some) (name_at p n low found)

    gap_passes : (kind == 0) ≡ false → has flags SHF_TLS ≡ false → has flags SHF_COMPRESSED ≡ false → (has flags SHF_WRITE && has flags SHF_EXECINSTR) ≡ false
        → is_linked_type kind ≡ true → has_priority (take n (drop p section_names)) ≡ false → size ≤ SIZE_LIMIT
        → (q : ℕ) → first_of (section_checks b (names b) q section_is) ≡ None
    unfolding count_ones
    gap_passes some tls compressed both linked plain size =
        allocated_passes b (names b) section_is name_is (name_there some) (flags_pass section_is tls compressed both)
        (form_passes b section_is name_is (take n (drop p section_names)) linked (text_is p n low inside) plain refl size)

  sections : sections_flaw b ≡ None
  sections =
      let s = small in
      sections_pass b h ss file (
        gap_passes 1 5 SHT_PROGBITS (SHF_ALLOC + SHF_EXECINSTR) ehdr.SIZE z.text refl (omega arith) (omega arith) refl refl refl refl refl refl (omega arith),
        (
          gap_passes 7 7 SHT_PROGBITS SHF_ALLOC (rodata_place z) z.rodata refl (omega arith) (omega arith) refl refl refl refl refl refl (omega arith),
          (
            gap_passes 15 5 SHT_PROGBITS (SHF_ALLOC + SHF_WRITE) (rwdata_place z) z.rwdata refl (omega arith) (omega arith) refl refl refl refl refl refl (omega arith),
            (
              gap_passes 21 4 SHT_NOBITS (SHF_ALLOC + SHF_WRITE) (names_place z) z.bss refl (omega arith) (omega arith) refl refl refl refl refl refl (omega arith),
              (
                other_passes b (names b) names_header (record { at = names_place z + 26; len = 9 }) (name_at 26 9 (omega arith) refl) refl,
                tt,
              ),
            ),
          ),
        ),
      )

  listed : sections_in b ≡ (gap_object z).sections
  listed =
      sections_listed b h ss file
      ∙ rw (
        section_listed b (names b) (get_or ss 0 null_header) (record { at = names_place z + 1; len = 5 }) (name_at 1 5 (omega arith) refl),
        section_listed b (names b) (get_or ss 1 null_header) (record { at = names_place z + 7; len = 7 }) (name_at 7 7 (omega arith) refl),
        section_listed b (names b) (get_or ss 2 null_header) (record { at = names_place z + 15; len = 5 }) (name_at 15 5 (omega arith) refl),
        section_listed b (names b) (get_or ss 3 null_header) (record { at = names_place z + 21; len = 4 }) (name_at 21 4 (omega arith) refl),
        section_listed b (names b) (get_or ss 4 null_header) (record { at = names_place z + 26; len = 9 }) (name_at 26 9 (omega arith) refl),
      ) refl

  symbols : HasNoSymbols b
  symbols = no_symbols b (tables_are b h ss file)

  -- none is a relocation section or a group
  no_entries : (n : ℕ) (s : Shdr) → section b n ≡ s → is_rela s ≡ false → is_rel s ≡ false → (rela_flaw_of b n ≡ None) × (fields_of b n ≡ [])
  no_entries = no_relocation b

  entries_pass : relocations_flaw b ≡ None
  entries_pass =
      relocations_pass b h ss file
      ((no_entries 1 _ (file.sections 1) refl refl).0, ((no_entries 2 _ (file.sections 2) refl refl).0, ((no_entries 3 _ (file.sections 3) refl refl).0, ((no_entries 4 _ (file.sections 4) refl refl).0, ((no_entries 5 _ (file.sections 5) refl refl).0, tt)))))

  no_fields : fields_in b ≡ []
  no_fields =
      fields_listed b h ss file
      ∙ nothing_of (λ n s. fields_of b n) 1 ss
      ((no_entries 1 _ (file.sections 1) refl refl).1, ((no_entries 2 _ (file.sections 2) refl refl).1, ((no_entries 3 _ (file.sections 3) refl refl).1, ((no_entries 4 _ (file.sections 4) refl refl).1, ((no_entries 5 _ (file.sections 5) refl refl).1, tt)))))

  groups : (groups_flaw b ≡ None) × (groups_in b ≡ [])
  groups = no_groups b h ss file (refl, (refl, (refl, (refl, (refl, tt)))))

  -- the zero bytes are those of two sections
  at_rodata : drop (rodata_place z) b ≡ replicate z.rodata 0 ++ (replicate z.rwdata 0 ++ from_names)
  at_rodata =
      at_zeros ∙ (ap (λ xs. xs ++ from_names) (sym (replicate-append-replicate z.rodata z.rwdata 0)) ∙ append_assoc (replicate z.rodata 0) (replicate z.rwdata 0) from_names)

  at_rwdata : drop (rwdata_place z) b ≡ replicate z.rwdata 0 ++ from_names
  at_rwdata = behind b (rodata_place z) (rwdata_place z) (replicate z.rodata 0) (replicate z.rwdata 0 ++ from_names) (omega (arith, length-replicate {A = ℕ})) at_rodata

  pub gaps_read : IsRead z b
  gaps_read = record {
    sound = no_flaw b heads table ranges sections symbols.table symbols.flaw entries_pass groups.0;
    whole = object_is b (gap_object z).sections [] [] [] listed symbols.list no_fields groups.1;
    names = rw (text_is 1 5 (omega arith) (omega arith), text_is 7 7 (omega arith) (omega arith), text_is 15 5 (omega arith) (omega arith), text_is 21 4 (omega arith) (omega arith), text_is 26 9 (omega arith) (omega arith)) refl;
    text = bytes_there b ehdr.SIZE z.text (replicate z.text area.INT3) from_zeros (length-replicate z.text area.INT3) at_text;
    rodata = bytes_there b (rodata_place z) z.rodata (replicate z.rodata 0) (replicate z.rwdata 0 ++ from_names) (length-replicate z.rodata 0) at_rodata;
    rwdata = bytes_there b (rwdata_place z) z.rwdata (replicate z.rwdata 0) from_names (length-replicate z.rwdata 0) at_rwdata;
  }

pub gaps_are_read : GapObjects
gaps_are_read z are = gaps_read z are
