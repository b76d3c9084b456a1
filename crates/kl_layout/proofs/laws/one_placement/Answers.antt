use Rattle.kl_layout.proofs.OnlyPlaced as only
use Rattle.kl_layout.proofs.laws.one_placement.Goals as goal

pub returns : goal.returns
returns c = only.one_placement
