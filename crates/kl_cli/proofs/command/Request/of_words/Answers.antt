use Rattle.std.proofs.Common.{rules}
use Rattle.kl_cli.proofs.Words.{many_words, no_words}
use Rattle.kl_cli.proofs.command.Request.of_words.Goals as goal
use Rattle.kl_cli.proofs.command.Request.of_words.Goals.{in_default-via-then-words-lt1, in_default-via-else-words-lt1+else-words-lt2+else-words-lt3+else-words-lt4+else-words-lt5}

pub returns-in_default-clause-words : goal.returns-in_default-clause-words
returns-in_default-clause-words c =
    elim c.in_default.branch [
      | in_default-via-then-words-lt1 w ↦ no_words c.args.words.now (search rules)
      | in_default-via-else-words-lt1+else-words-lt2+else-words-lt3+else-words-lt4+else-words-lt5 w ↦ many_words c.args.words.now (search rules)
    ]
