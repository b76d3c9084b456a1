use Rattle.kl_steps.proofs.RoomyKits as roomy
use Rattle.kl_steps.proofs.roomy_links.Goals as goal

pub returns : goal.returns
returns c = roomy.roomy_links
