use Rattle.kl_map.proofs.Lines as lines
use Rattle.kl_map.proofs.laws.one_spelling.Goals as goal

pub returns : goal.returns
returns c = lines.one_spelling
