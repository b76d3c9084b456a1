use Rattle.std.proofs.Common.{◌≡◌, take}
use Rattle.kl_names.specs.Removed.{marked}
use Rattle.kl_names.proofs.removed.mark.Given as goal

abbrev pub invariant-loop-member : goal.invariant-loop-member
invariant-loop-member l = l.removed ≡ marked l.initial.removed (take l.member-index l.members)
