use Rattle.kl_loading.proofs.TablesRead.{tables_are}
use Rattle.kl_loading.proofs.tables_read_back.Goals as goal

pub returns : goal.returns
returns c = λ img p kit inputs g gaps order library laid numbers holds texts. tables_are img p kit inputs g gaps order library laid numbers holds.file holds.made texts
