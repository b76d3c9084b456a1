use Rattle.std.proofs.Common.{◌≡◌, ◌∙◌, ap, rules}
use Rattle.std.specs.Prelude.{is_ok}
use Rattle.kl_cli.specs.Answers.{cause_of, texts}
use Rattle.kl_cli.specs.Commands.{request_of}
use Rattle.kl_cli.proofs.Said.{answers, done_ends, done_in_memory, says, untouched}
use Rattle.kl_cli.proofs.top.run.Goals as goal

pub returns-clause-answer : goal.returns-clause-answer
returns-clause-answer g c =
    rw (c.of.ensures.cause, c.cause_of.ensures)
    (answers (texts c.args.words.now) (g.E.Entropy.meaning c.args.entropy.now) (g.E.Entropy.meaning c.answer-ended.new.entropy) (g.S.Store.meaning c.args.store.now) c.answer-ended.result c.is_ok.result c.answer-ended.ensures.stands c.answer-ended.ensures.refused)

pub returns-clause-done : goal.returns-clause-done
returns-clause-done g c = λ at.
    rw (c.of.ensures.cause, c.of.ensures.batches, c.cause_of.ensures, c.batches_of-batches.ensures)
    (done_ends c.answer-ended.result c.is_ok.result c.answer-ended.ensures.done c.answer-ended.ensures.refusal (rw (c.of.ensures.cause, c.cause_of.ensures) at at))

pub returns-clause-untouched : goal.returns-clause-untouched
returns-clause-untouched g c =
    rw (c.of.ensures.cause, c.of.ensures.batches, c.cause_of.ensures, c.batches_of-batches.ensures) (untouched c.answer-ended.result c.is_ok.result c.answer-ended.ensures.untouched)

pub returns-clause-memory : goal.returns-clause-memory
returns-clause-memory g c = λ asks.
    rw (c.of.ensures.cause, c.cause_of.ensures)
    (done_in_memory (g.E.Entropy.meaning c.args.entropy.now) (g.E.Entropy.meaning c.answer-ended.new.entropy) (g.S.Store.meaning c.args.store.now) (g.S.Store.meaning c.answer-ended.new.store) (request_of (texts c.args.words.now)) c.answer-ended.result c.is_ok.result asks c.answer-ended.ensures.done (c.answer-ended.ensures.memory asks))

pub returns-clause-says : goal.returns-clause-says
returns-clause-says g c =
    let told : c.is_ok.result ≡ is_ok c.tell-told.result = search rules in
    rw (c.of.ensures.cause ∙ c.cause_of.ensures ∙ ap (cause_of c.answer-ended.result) told)
    (says _ _ _ _ _ c.answer-ended.result _ _ c.tell-told.result c.answer-ended.ensures.done c.answer-ended.ensures.refusal c.tell-told.ensures.writes c.tell-told.ensures.cause)
