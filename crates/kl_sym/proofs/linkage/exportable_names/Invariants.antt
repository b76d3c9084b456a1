use Rattle.std.proofs.Common.{◌≡◌, map}
use Rattle.kl_sym.proofs.DynamicSteps.{exported_by}
use Rattle.kl_sym.proofs.linkage.exportable_names.Given as goal

abbrev pub invariant-loop-line : goal.invariant-loop-line
invariant-loop-line l = l.marks.items ≡ map (exported_by l.kit.exports l.line-index) l.numbering.index
