-- A dynamic section as the reader holds it. For the contracts inside this crate alone.
use Rattle.std.specs.Prelude.{◌≡◌, ◌<◌, ◌^◌, [], length, Some}
use Rattle.kl_model.specs.Memory.{segments}
use Rattle.kl_model.specs.Loaded.{dynamics}
use Rattle.kl_image.specs.Headers.{segment_flaws}
use Rattle.kl_image.specs.Dynamic.{dynamic_header}
use Rattle.kl_image.specs.declared.dynamic.DynamicSection.{DynamicSection}

-- it has the program headers and the entries of its bytes, whose program headers have no flaw
pub record IsSection (d : DynamicSection) : Type 0 where
  pub short : length d.bytes.now < 2 ^ 63
  pub segments_are : d.segments.now ≡ segments d.bytes.now
  pub sound : segment_flaws d.bytes.now ≡ []
  pub header_is : dynamic_header d.bytes.now ≡ Some d.header
  pub entries_are : d.entries.now ≡ dynamics d.bytes.now
