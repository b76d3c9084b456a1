use Rattle.std.proofs.Common.{rules}
use Rattle.kl_le.proofs.Num.{num_written, num_set}
use Rattle.kl_le.proofs.put.Goals as goal

pub returns-in-1-clause-number : goal.returns-in-1-clause-number
returns-in-1-clause-number g c = num_set c.args.b.now c.args.at g.row.W c.args.v c.in-1.is c.requires.room

pub returns-in-2-clause-number : goal.returns-in-2-clause-number
returns-in-2-clause-number g c = num_written c.args.b.now c.write_u16.new.buf c.args.at g.row.W 2 c.args.v c.in-2.is c.requires.room c.requires.fits c.write_u16.ensures

pub returns-in-4-clause-number : goal.returns-in-4-clause-number
returns-in-4-clause-number g c = num_written c.args.b.now c.write_u32.new.buf c.args.at g.row.W 4 c.args.v c.in-4.is c.requires.room c.requires.fits c.write_u32.ensures

pub returns-in_default-clause-number : goal.returns-in_default-clause-number
returns-in_default-clause-number g c = num_written c.args.b.now c.write_u64.new.buf c.args.at g.row.W 8 c.args.v (search rules) c.requires.room c.requires.fits c.write_u64.ensures
