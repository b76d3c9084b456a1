use Rattle.kl_generate.proofs.MadeLinked as linked
use Rattle.kl_generate.proofs.laws.made_links.Goals as goal

pub returns : goal.returns
returns c = linked.made_links
