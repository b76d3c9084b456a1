use Rattle.std.proofs.Common.{◌∙◌, ap, arith, rules}
use Rattle.kl_le.specs.Bytes.{num}
use Rattle.kl_model.specs.Reaches.{plus, signed_4}
use Rattle.kl_got.proofs.Distances.{leads}
use Rattle.kl_got.proofs.stub.stub_bytes.Goals as goal

pub returns-clause-leads : goal.returns-clause-leads
returns-clause-leads c =
    let stub = c.args.stub in let slot = c.args.slot in
    ap (λ b. plus (plus stub 6) (signed_4 (num b 2 4))) (search rules) ∙ leads stub slot (omega arith) (omega arith) c.requires.above c.requires.below
