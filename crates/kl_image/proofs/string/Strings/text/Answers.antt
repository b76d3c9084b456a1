use Rattle.std.proofs.Common.{◌+◌, ap}
use Rattle.kl_image.proofs.Texts.{text_none, text_some}
use Rattle.kl_image.proofs.string.Strings.text.Goals as goal

pub returns-then-end-self : goal.returns-then-end-self
returns-then-end-self c =
    text_none c.args.self.now.bytes.now c.args.at (c.args.at + c.len_at.result) c.if-at-self.false (ap (λ n. c.args.at + n) c.len_at.ensures.len) c.if-end-self.true

pub returns : goal.returns
returns c =
    text_some c.args.self.now.bytes.now c.args.at (c.args.at + c.len_at.result) c.if-at-self.false (ap (λ n. c.args.at + n) c.len_at.ensures.len) c.if-end-self.false
