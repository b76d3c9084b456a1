use Rattle.kl_loading.proofs.ExportsRead.{exports_are}
use Rattle.kl_loading.proofs.exports_found.Goals as goal

pub returns : goal.returns
returns c = λ img p kit inputs g gaps order library laid numbers holds texts. exports_are img p kit inputs g gaps order library laid numbers holds texts
