use Rattle.kl_image.proofs.Texts.{or_len}
use Rattle.kl_image.proofs.string.zero_or_len.Goals as goal

pub returns : goal.returns
returns c = rw (c.unwrap_or.ensures, c.first_zero.ensures) (or_len c.args.bytes.now)
