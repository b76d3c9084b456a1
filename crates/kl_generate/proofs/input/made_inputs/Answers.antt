use Rattle.kl_generate.specs.MadeRead.{made_inputs}
use Rattle.kl_generate.proofs.MadeFit.{made_fit}
use Rattle.kl_generate.proofs.MadeInputsOf.{all-short, are-made}
use Rattle.kl_generate.proofs.input.made_inputs.Goals as goal

pub returns-clause-made : goal.returns-clause-made
returns-clause-made c = rw c.in_ok-inputs.ensures.inputs (are-made c.args.count c.requires.some c.requires.few)

pub returns-clause-fit : goal.returns-clause-fit
returns-clause-fit c =
    let is = c.in_ok-inputs.ensures.inputs in
    rw is (made_fit c.args.count (made_inputs c.args.count) c.requires.few (are-made c.args.count c.requires.some c.requires.few) (rw is at c.in_ok-inputs.ensures.fit)
    (all-short c.args.count c.requires.some c.requires.few))
