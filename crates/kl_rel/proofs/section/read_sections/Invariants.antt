use Rattle.std.proofs.Common.{◌≡◌, ◌++◌}
use Rattle.std.specs.Prelude.{map}
use Rattle.kl_rel.specs.Flaws.{first_of}
use Rattle.kl_rel.specs.Sections.{section_flaw_of, section_of, sections_flaw, sections_in}
use Rattle.kl_rel.proofs.Passes.{upto}
use Rattle.kl_rel.proofs.section.read_sections.Given as goal

abbrev pub invariant-loop-number : goal.invariant-loop-number
invariant-loop-number l = record {
  flaw : first_of (map (section_flaw_of l.bytes) (upto l.number l.table.count)) ≡ sections_flaw l.bytes;
  list : l.sections ++ map (section_of l.bytes) (upto l.number l.table.count) ≡ sections_in l.bytes;
}
