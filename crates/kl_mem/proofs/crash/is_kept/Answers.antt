use Rattle.kl_mem.proofs.Pending.{kept_file, lost_file, lost_new}
use Rattle.kl_mem.proofs.crash.is_kept.Goals as goal

pub returns-in-Some-clause-yes : goal.returns-in-Some-clause-yes
returns-in-Some-clause-yes c = λ yes. kept_file c.args.pending.now c.args.k c.args.name.now c.in-Some.file c.is_appended.result c.requires.changes c.in-Some.ensures c.is_appended.ensures.no yes

pub returns-in-Some-clause-no : goal.returns-in-Some-clause-no
returns-in-Some-clause-no c = λ no. lost_file c.args.pending.now c.args.k c.args.name.now c.in-Some.file c.is_appended.result c.requires.changes c.in-Some.ensures c.is_appended.ensures.yes no

pub returns-in-None-clause-no : goal.returns-in-None-clause-no
returns-in-None-clause-no c = λ no. lost_new c.args.pending.now c.args.k c.args.name.now c.requires.changes c.in-None.ensures
