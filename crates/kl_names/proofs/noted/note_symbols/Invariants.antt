use Rattle.kl_names.specs.Noted.{AreNoted}
use Rattle.kl_names.specs.Walked.{occurring_before}
use Rattle.kl_names.proofs.noted.note_symbols.Given as goal

abbrev pub invariant-loop-i : goal.invariant-loop-i
invariant-loop-i l = AreNoted l.kit l.inputs (occurring_before l.inputs l.i) l.numbering.index l.walk.facts.items l.walk.commons.items l.walk.next
