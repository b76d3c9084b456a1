use Rattle.kl_shared.proofs.Linked as linked
use Rattle.kl_shared.proofs.library_links.Goals as goal

pub returns : goal.returns
returns c = linked.library_links
