use Rattle.std.proofs.Common.{rules, ◌∙◌, arith}
use Rattle.kl_le.proofs.Num.{num_read}
use Rattle.kl_le.proofs.get.Goals as goal

pub returns-in-1-clause-number : goal.returns-in-1-clause-number
returns-in-1-clause-number g c = num_read c.args.b.now c.args.at g.row.W 1 c.from.result c.in-1.is (omega arith)

pub returns-in-2-clause-number : goal.returns-in-2-clause-number
returns-in-2-clause-number g c = num_read c.args.b.now c.args.at g.row.W 2 c.from-in-2.result c.in-2.is (c.from-in-2.ensures ∙ c.read_u16.ensures)

pub returns-in-4-clause-number : goal.returns-in-4-clause-number
returns-in-4-clause-number g c = num_read c.args.b.now c.args.at g.row.W 4 c.from-in-4.result c.in-4.is (c.from-in-4.ensures ∙ c.read_u32.ensures)

pub returns-in_default-clause-number : goal.returns-in_default-clause-number
returns-in_default-clause-number g c = num_read c.args.b.now c.args.at g.row.W 8 c.read_u64.result (search rules) c.read_u64.ensures
