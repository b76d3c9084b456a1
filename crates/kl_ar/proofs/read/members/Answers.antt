use Rattle.kl_ar.proofs.Grammars.{read_back, name_errors, whole_if_ok}
use Rattle.kl_ar.proofs.read.members.Goals as goal

pub returns-clause-whole : goal.returns-clause-whole
returns-clause-whole c = whole_if_ok c.args.bytes.now c.read_members.result c.read_members.ensures.sound

pub returns-clause-read : goal.returns-clause-read
returns-clause-read c = λ stored is. read_back c.args.bytes.now stored is

pub returns-clause-names : goal.returns-clause-names
returns-clause-names c = name_errors c.args.bytes.now c.read_members.result c.read_members.ensures.fault
