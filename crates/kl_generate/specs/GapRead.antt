-- What is read of a gap object.
use Rattle.std.specs.Prelude.{ℕ, ◌+◌, ◌≡◌, List, [], ◌∷◌, map, replicate, codes, None}
use Rattle.kl_model.specs.Fit.{AreGaps}
use Rattle.kl_model.specs.Texts.{text_at}
use Rattle.kl_model.specs.declared.object.Object.{Object}
use Rattle.kl_model.specs.declared.object.Section.{Section}
use Rattle.kl_model.specs.declared.place.Gaps.{Gaps}
use Rattle.kl_rel.specs.Objects.{flaw, object}
use Rattle.kl_draw.specs.GapFile.{gap_file, names_place, rodata_place, rwdata_place}
use Rattle.kl_elf.specs.declared.abi.TheConstants.{SHF_ALLOC, SHF_EXECINSTR, SHF_WRITE, SHT_NOBITS, SHT_PROGBITS, SHT_STRTAB}
use Rattle.kl_elf.specs.declared.records.TheConstants.Ehdr as ehdr
use Rattle.kl_model.specs.declared.area.TheConstants as area

-- the place of a name in the table of names
abbrev pub name_place : Gaps → ℕ → ℕ
name_place z name = names_place z + name

-- a section of a gap, by the places of its name and its bytes
abbrev pub gap : Gaps → ℕ → ℕ → ℕ → ℕ → ℕ → ℕ → Section
gap z name len kind flags place size =
    record { name = record { at = name_place z name; len = len }; kind = kind; flags = flags; at = place; size = size; align = 16 }

-- THE OBJECT that stands in the file: a section of each class of the size of its gap, the names of the sections, and nothing else
abbrev pub gap_object : Gaps → Object
gap_object z = record {
  sections = gap z 1 5 SHT_PROGBITS (SHF_ALLOC + SHF_EXECINSTR) ehdr.SIZE z.text
      ∷ gap z 7 7 SHT_PROGBITS SHF_ALLOC (rodata_place z) z.rodata
      ∷ gap z 15 5 SHT_PROGBITS (SHF_ALLOC + SHF_WRITE) (rwdata_place z) z.rwdata
      ∷ gap z 21 4 SHT_NOBITS (SHF_ALLOC + SHF_WRITE) (names_place z) z.bss
      ∷ record { name = record { at = name_place z 26; len = 9 }; kind = SHT_STRTAB; flags = 0; at = names_place z; size = 36; align = 1 } ∷ [];
  symbols = [];
  fields = [];
  groups = [];
}

-- it is read of the file of these gaps, whose sections have their names and bytes
pub record IsRead (z : Gaps) (b : List ℕ) : Type 0 where
  pub sound : flaw b ≡ None
  pub whole : object b ≡ gap_object z
  pub names : map (λ x. text_at b x.name) (gap_object z).sections
      ≡ codes ".text" ∷ codes ".rodata" ∷ codes ".data" ∷ codes ".bss" ∷ codes ".shstrtab" ∷ []
  pub text : text_at b (record { at = ehdr.SIZE; len = z.text }) ≡ replicate z.text area.INT3
  pub rodata : text_at b (record { at = rodata_place z; len = z.rodata }) ≡ replicate z.rodata 0
  pub rwdata : text_at b (record { at = rwdata_place z; len = z.rwdata }) ≡ replicate z.rwdata 0

-- of all gaps
abbrev pub GapObjects : Type 0
GapObjects = (z : Gaps) → AreGaps z → IsRead z (gap_file z)
