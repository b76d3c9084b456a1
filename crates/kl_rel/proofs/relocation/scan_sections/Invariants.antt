use Rattle.std.proofs.Common.{◌≡◌, length}
use Rattle.std.specs.Prelude.{AllPairs, map}
use Rattle.kl_model.specs.Fit.{ShareNoByte}
use Rattle.kl_rel.specs.Flaws.{first_of}
use Rattle.kl_rel.specs.Relocations.{rela_flaw_of, relocations_flaw, fields_before}
use Rattle.kl_rel.specs.FieldScans.{IsScan}
use Rattle.kl_rel.proofs.Passes.{upto}
use Rattle.kl_rel.proofs.relocation.scan_sections.Given as goal

abbrev pub invariant-loop-number : goal.invariant-loop-number
invariant-loop-number l = record {
  flaw : AllPairs ShareNoByte l.scan.fields.items → first_of (map (rela_flaw_of l.bytes) (upto l.number l.table.count)) ≡ relocations_flaw l.bytes;
  fields : l.scan.fields.items ≡ fields_before l.bytes l.number 0;
  scan : IsScan l.scan;
  count : length l.scan.ends.items ≡ l.table.count;
}
