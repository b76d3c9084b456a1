-- What holds of a dynamic section that the reader holds.
use Rattle.std.proofs.Common.{ℕ, ◌≡◌, ◌+◌, ◌*◌, ◌/◌, ◌<◌, ◌≤◌, ◌∙◌, false, List, length, refl, ap, arith}
use Rattle.std.specs.Prelude.{◌==◌, Some}
use Rattle.kl_elf.specs.declared.records.Phdr.{Phdr}
use Rattle.kl_elf.specs.declared.abi.TheConstants.{PT_DYNAMIC}
use Rattle.kl_model.specs.Memory.{segments}
use Rattle.kl_model.specs.Loaded.{dynamics, dyns_from}
use Rattle.kl_image.specs.Headers.{has_bytes_outside}
use Rattle.kl_image.specs.Dynamic.{dynamic_header}
use Rattle.kl_image.specs.Sections.{IsSection}
use Rattle.kl_image.specs.declared.dynamic.DynamicSection.{DynamicSection}
use Rattle.kl_image.proofs.SegmentFlaws.{all_inside, found_inside, inside}
use Rattle.kl_image.proofs.Entries.{dyns_few}

-- its bytes lie in the file
pub header_inside : (d : DynamicSection) → IsSection d → has_bytes_outside d.bytes.now d.header ≡ false
header_inside d is = found_inside d.bytes.now (λ s. s.kind == PT_DYNAMIC) (segments d.bytes.now) d.header (all_inside d.bytes.now is.sound) is.header_is

-- its entries are those of its header, and no more than its bytes have room for
pub header_entries : (b : List ℕ) (s : Phdr) → dynamic_header b ≡ Some s → dynamics b ≡ dyns_from b s.offset (s.filesz / 16)
header_entries b s is = rw is refl

pub entries_few : (d : DynamicSection) → IsSection d → length d.entries.now ≤ d.header.filesz / 16
entries_few d is =
    let few = dyns_few d.bytes.now d.header.offset (d.header.filesz / 16) in
    let long = ap length (is.entries_are ∙ header_entries d.bytes.now d.header is.header_is) in
    omega (arith, few, long)

pub place_in : (d : DynamicSection) (n : ℕ) → IsSection d → n < length d.entries.now → d.header.offset + 16 * n ≤ length d.bytes.now
place_in d n is h =
    let few = entries_few d is in
    let room = inside d.bytes.now d.header (header_inside d is) (omega (arith, few, h)) in
    omega (arith, few, room, h)
