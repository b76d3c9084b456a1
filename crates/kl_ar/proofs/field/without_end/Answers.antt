use Rattle.std.proofs.Common.{sym}
use Rattle.kl_ar.proofs.Cutting.{all_cut, cut_is}
use Rattle.kl_ar.proofs.field.without_end.Goals as goal

pub returns-in-Some-clause-bytes : goal.returns-in-Some-clause-bytes
returns-in-Some-clause-bytes c = cut_is c.args.byte c.args.bytes.now c.in-Some.last c.in-Some.ensures.0.high c.in-Some.ensures.1 c.in-Some.ensures.0.after

pub returns-in-None-clause-bytes : goal.returns-in-None-clause-bytes
returns-in-None-clause-bytes c = sym (all_cut c.args.byte c.args.bytes.now c.in-None.ensures)
