use Rattle.std.proofs.Common.{◌≡◌, map}
use Rattle.kl_sym.proofs.UsedSteps.{used_up_to}
use Rattle.kl_sym.proofs.used.mark_used.Given as goal

abbrev pub invariant-loop-field : goal.invariant-loop-field
invariant-loop-field l = l.marks.items ≡ map (used_up_to l.kit l.inputs l.i l.field-index) l.numbering.index
