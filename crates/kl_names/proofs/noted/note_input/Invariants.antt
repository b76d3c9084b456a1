use Rattle.kl_names.specs.Noted.{AreNoted}
use Rattle.kl_names.proofs.Steps.{occurring_up_to}
use Rattle.kl_names.proofs.noted.note_input.Given as goal

abbrev pub invariant-loop-number : goal.invariant-loop-number
invariant-loop-number l = AreNoted l.kit l.inputs (occurring_up_to l.inputs l.i l.number) l.numbering.index l.walk.facts.items l.walk.commons.items l.walk.next
