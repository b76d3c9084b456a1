use Rattle.kl_reloc.proofs.Extended.{are_read_back, are_signed}
use Rattle.kl_reloc.proofs.laws.read_back.Goals as goal

pub returns-clause-read_back : goal.returns-clause-read_back
returns-clause-read_back c = are_read_back

pub returns-clause-signed : goal.returns-clause-signed
returns-clause-signed c = are_signed
