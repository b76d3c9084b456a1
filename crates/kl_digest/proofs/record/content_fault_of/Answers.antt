use Rattle.std.proofs.Common.{true, false, sym, ◌∙◌}
use Rattle.kl_digest.proofs.Digits.{content_is, tail_is}
use Rattle.kl_digest.proofs.record.content_fault_of.Goals as goal

pub returns-then-not-ends_well : goal.returns-then-not-ends_well
returns-then-not-ends_well c = sym (content_is c.args.bytes.now _ false c.in_default.ensures c.in_default-wrong_digit.ensures (sym c.ends_well.ensures ∙ c.if-not-ends_well.true) (tail_is c.args.bytes.now))

pub returns : goal.returns
returns c = sym (content_is c.args.bytes.now _ true c.in_default.ensures c.in_default-wrong_digit.ensures (sym c.ends_well.ensures ∙ c.if-not-ends_well.false) (tail_is c.args.bytes.now))
