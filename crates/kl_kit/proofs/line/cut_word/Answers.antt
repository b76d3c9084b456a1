use Rattle.kl_kit.proofs.Words.{word_cut, last_word, rest_is}
use Rattle.kl_kit.proofs.line.cut_word.Goals as goal

pub returns-in-Some : goal.returns-in-Some
returns-in-Some c =
    let b = c.args.bytes.now in
    rw (rest_is b c.in-Some.end) (word_cut b c.in-Some.end c.requires c.in-Some.ensures.0.high c.in-Some.ensures.0.before c.in-Some.ensures.1)

pub returns-in-None : goal.returns-in-None
returns-in-None c = last_word c.args.bytes.now c.requires c.in-None.ensures
