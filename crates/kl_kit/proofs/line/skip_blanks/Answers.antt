use Rattle.kl_kit.proofs.Words.{no_words, skipped, begins, rest_is}
use Rattle.kl_kit.proofs.line.skip_blanks.Goals as goal

pub returns-in_err-start-clause-none : goal.returns-in_err-start-clause-none
returns-in_err-start-clause-none c = rw c.from_residual.ensures (no_words c.args.bytes.now c.in_err-start.ensures)

pub returns-clause-word : goal.returns-clause-word
returns-clause-word c =
    let b = c.args.bytes.now in
    rw (rest_is b c.in_ok-start.start) (begins b c.in_ok-start.start c.in_ok-start.ensures.0.high c.in_ok-start.ensures.1)

pub returns-clause-words : goal.returns-clause-words
returns-clause-words c =
    let b = c.args.bytes.now in
    rw (rest_is b c.in_ok-start.start) (skipped b c.in_ok-start.start c.in_ok-start.ensures.0.high c.in_ok-start.ensures.0.before)
