use Rattle.kl_text.proofs.Printed.{lines-line, words-join}
use Rattle.kl_text.proofs.laws.prints_back.Goals as goal

pub returns-clause-line : goal.returns-clause-line
returns-clause-line c = lines-line

pub returns-clause-words : goal.returns-clause-words
returns-clause-words c = words-join
