use Rattle.kl_shared.proofs.GraphTexts.{has_texts}
use Rattle.kl_viewed.proofs.Given.{right}
use Rattle.kl_viewed.proofs.no_flaw.Goals as goal

pub returns : goal.returns
returns c = λ kit inputs gaps order img p l. right kit inputs gaps order img p l (has_texts kit inputs l.fit)
