use Rattle.std.proofs.Common.{◌≡◌, length, map}
use Rattle.kl_names.specs.Walked.{occurring_before}
use Rattle.kl_sym.specs.UsedNames.{used_before}
use Rattle.kl_sym.proofs.used.used_names.Given as goal

abbrev pub invariant-loop-i : goal.invariant-loop-i
invariant-loop-i l = record {
  marks : l.marks.items ≡ map (used_before l.kit l.inputs l.i) l.numbering.index;
  next : l.next ≡ length (occurring_before l.inputs l.i);
}
