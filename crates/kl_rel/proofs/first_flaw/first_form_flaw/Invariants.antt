use Rattle.kl_rel.specs.Chains.{PassForms}
use Rattle.kl_rel.proofs.first_flaw.first_form_flaw.Given as goal

abbrev pub invariant-loop-number : goal.invariant-loop-number
invariant-loop-number l = PassForms l.bytes l.number
