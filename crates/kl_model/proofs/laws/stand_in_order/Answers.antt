use Rattle.std.specs.Prelude.{nat_lt}
use Rattle.kl_model.specs.Names.{edge_lines}
use Rattle.kl_model.proofs.ListWords.{in_order-permutes}
use Rattle.kl_model.proofs.StandOnce.{lines_ascend, names_are, names_ascend}
use Rattle.kl_model.proofs.laws.stand_in_order.Goals as goal

pub returns-clause-names_ascend : goal.returns-clause-names_ascend
returns-clause-names_ascend c = names_ascend

pub returns-clause-names : goal.returns-clause-names
returns-clause-names c = names_are

pub returns-clause-lines_ascend : goal.returns-clause-lines_ascend
returns-clause-lines_ascend c = lines_ascend

pub returns-clause-lines : goal.returns-clause-lines
returns-clause-lines c = λ kit. in_order-permutes (λ x y. nat_lt x.0 y.0) (edge_lines kit)
