use Rattle.std.proofs.Common.{arith}
use Rattle.kl_image.proofs.Texts.{end_bound}
use Rattle.kl_image.proofs.string.Strings.len_at.Goals as goal

pub returns-then-next-len-clause-within : goal.returns-then-next-len-clause-within
returns-then-next-len-clause-within c = let bound = end_bound c.args.self.now.bytes.now c.args.place c.requires.place in omega (arith, bound, c.text_len.ensures)

pub returns-else-next-len-clause-within : goal.returns-else-next-len-clause-within
returns-else-next-len-clause-within c = let bound = end_bound c.args.self.now.bytes.now c.args.place c.requires.place in omega (arith, bound, c.text_len-else-next-len.ensures)
