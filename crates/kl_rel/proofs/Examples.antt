-- The definitions on a small object, by computation: a text of 16 bytes with two relocation entries, and a COMDAT group that holds
-- it. What stands in it is as `readelf` shows it.
use Rattle.std.specs.Prelude.{ℕ, ◌≡◌, true, List, [], ◌∷◌, ◌++◌, Option, Some, None, refl, codes, replicate, take, slice_set, negsuc, pos}
use Rattle.std.specs.Int.RustNames.{count_ones}
use Rattle.kl_le.specs.Bytes.{num}
use Rattle.std.specs.Int.{bytes_low_first}
use Rattle.kl_elf.specs.declared.head.HeadFault.TheVariants.{Truncated}
use Rattle.kl_model.specs.Kept.{no_symbol}
use Rattle.kl_model.specs.declared.object.Object.{Object}
use Rattle.kl_rel.specs.Headers.{section, table_checks, string_in, range_flaw, ranges_flaw}
use Rattle.kl_rel.specs.Sections.{flags_checks, form_checks, section_checks, sections_flaw, listed_section, sections_in}
use Rattle.kl_rel.specs.SymbolTables.{symbol_tables, symbol_table, table_form_checks, symbol_table_checks, symbol_form_checks, symbol_place_checks, symbol_in, symbol_checks, symbols_flaw, symbols_in}
use Rattle.kl_rel.specs.Relocations.{rela_checks, fields_of, fields_before, entry_checks, entries_flaw, relocations_flaw, fields_in}
use Rattle.kl_rel.specs.SectionGroups.{members, members_of, members_before, group_form_checks, member_flaw, members_flaw, group_checks, groups_flaw, group_of, groups_at, groups_in}
use Rattle.kl_rel.specs.Objects.{flaw, object}
use Rattle.kl_rel.specs.declared.fault.ReadFault.{ReadFault}
use Rattle.kl_rel.specs.declared.fault.ReadKind.{ReadKind}
use Rattle.kl_rel.specs.declared.fault.ReadKind.TheVariants.{Head, SectionTable, RelaPlace, FieldOverlap, GroupForm, SymbolTable}

abbrev le : ℕ → ℕ → List ℕ
le w v = bytes_low_first 0 w v

-- a section header by sh_name, sh_type, sh_flags, sh_offset, sh_size, sh_link, sh_info, sh_addralign and sh_entsize
abbrev header : ℕ → ℕ → ℕ → ℕ → ℕ → ℕ → ℕ → ℕ → ℕ → List ℕ
header name kind flags offset size link info align entsize =
    le 4 name ++ le 4 kind ++ le 8 flags ++ le 8 0 ++ le 8 offset ++ le 8 size ++ le 4 link ++ le 4 info ++ le 8 align ++ le 8 entsize

abbrev file : List ℕ
file =
    (0x7f ∷ codes "ELF") ++ 2 ∷ 1 ∷ 1 ∷ replicate 9 0 ++ le 2 1 ++ le 2 62 ++ le 4 1 ++ le 8 0 ++ le 8 0 ++ le 8 264 ++ le 4 0 ++ le 2 64 ++ le 2 0 ++ le 2 0 ++ le 2 64 ++ le 2 7 ++ le 2 5
    -- 64: the text
    ++ replicate 16 0
    -- 80: PLT32 (4) at 1 with symbol 2 and addend -4, and 64 (1) at 8 with symbol 1 and addend 5
    ++ le 8 1 ++ le 8 0x200000004 ++ le 8 0xfffffffffffffffc ++ le 8 8 ++ le 8 0x100000001 ++ le 8 5
    -- 128: symbol 0, the symbol of section 1, and `start`, a GLOBAL and HIDDEN function
    ++ replicate 24 0
    ++ le 4 0 ++ 3 ∷ 0 ∷ le 2 1 ++ le 8 0 ++ le 8 0
    ++ le 4 1 ++ 0x12 ∷ 2 ∷ le 2 1 ++ le 8 0 ++ le 8 6
    -- 200: the names of symbols, and 208: those of sections
    ++ 0 ∷ codes "start" ++ 0 ∷ 0 ∷ []
    ++ 0 ∷ codes ".rela.text" ++ 0 ∷ codes ".symtab" ++ 0 ∷ codes ".strtab" ++ 0 ∷ codes ".shstrtab" ++ 0 ∷ codes ".group" ++ 0 ∷ 0 ∷ 0 ∷ 0 ∷ []
    -- 256: the group
    ++ le 4 1 ++ le 4 1
    -- 264: the section headers
    ++ header 0 0 0 0 0 0 0 0 0
    ++ header 6 1 0x206 64 16 0 0 16 0
    ++ header 1 4 0x40 80 48 3 1 8 24
    ++ header 12 2 0 128 72 4 2 8 24
    ++ header 20 3 0 200 8 0 0 1 0
    ++ header 28 3 0 208 45 0 0 1 0
    ++ header 38 17 0 256 8 3 1 4 4

-- the object that stands in it
abbrev small : Object
small = record {
  sections = record { name = record { at = 214; len = 5 }; kind = 1; flags = 0x206; at = 64; size = 16; align = 16 }
      ∷ record { name = record { at = 209; len = 10 }; kind = 4; flags = 0x40; at = 80; size = 48; align = 8 }
      ∷ record { name = record { at = 220; len = 7 }; kind = 2; flags = 0; at = 128; size = 72; align = 8 }
      ∷ record { name = record { at = 228; len = 7 }; kind = 3; flags = 0; at = 200; size = 8; align = 1 }
      ∷ record { name = record { at = 236; len = 9 }; kind = 3; flags = 0; at = 208; size = 45; align = 1 }
      ∷ record { name = record { at = 246; len = 6 }; kind = 17; flags = 0; at = 256; size = 8; align = 4 } ∷ [];
  symbols = no_symbol
      ∷ record { name = record { at = 200; len = 0 }; binding = 0; kind = 3; visibility = 0; section = 1; value = 0; size = 0 }
      ∷ record { name = record { at = 201; len = 5 }; binding = 1; kind = 2; visibility = 2; section = 1; value = 0; size = 6 } ∷ [];
  fields = record { rela = 2; index = 0; section = 1; offset = 1; kind = 4; symbol = 2; addend = negsuc 3 }
      ∷ record { rela = 2; index = 1; section = 1; offset = 8; kind = 1; symbol = 1; addend = pos 5 } ∷ [];
  groups = record { section = 6; comdat = true; signature = record { at = 214; len = 5 }; members = 1 ∷ [] } ∷ [];
}

abbrev at : ReadKind → ℕ → Option ReadFault
at kind place = Some (record { kind = kind; at = place })

-- It has no flaw. Without its last byte the section header table isn't whole. A field of 4 bytes at 12 ends with the section and one
-- at 13 doesn't; one at 5 shares byte 8 with the field at 8. LOCAL symbols don't end at number 3, and a second member that is the
-- first again isn't allowed.
examples : (flaw file ≡ None) × (object file ≡ small) × (flaw (take 63 file) ≡ at (Head Truncated) 63) × (flaw (take 711 file) ≡ at SectionTable 40)
    × (flaw (slice_set (slice_set file 80 12) 104 0) ≡ None) × (flaw (slice_set file 80 13) ≡ at RelaPlace 80) × (flaw (slice_set file 80 5) ≡ at FieldOverlap 104)
    × (flaw (slice_set file 500 3) ≡ at SymbolTable 180) × (flaw (slice_set (slice_set file 680 12) 264 1) ≡ at GroupForm 264)
unfolding num count_ones flaw object table_checks section ranges_flaw range_flaw sections_flaw sections_in listed_section section_checks flags_checks form_checks string_in symbol_table_checks symbol_tables symbol_table table_form_checks symbols_flaw symbols_in symbol_in symbol_checks symbol_form_checks symbol_place_checks relocations_flaw fields_in rela_checks entries_flaw entry_checks fields_before fields_of groups_flaw groups_in groups_at group_of group_checks group_form_checks members_flaw member_flaw members_before members_of members
examples = (refl, refl, refl, refl, refl, refl, refl, refl, refl)
