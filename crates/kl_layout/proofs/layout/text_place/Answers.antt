use Rattle.kl_layout.proofs.LineParts.{step_small}
use Rattle.kl_layout.proofs.layout.text_place.Goals as goal

pub returns-in-Library-clause-small : goal.returns-in-Library-clause-small
returns-in-Library-clause-small c = step_small c.greatest_align.result c.greatest_align.ensures.step
