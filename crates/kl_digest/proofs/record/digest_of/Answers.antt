use Rattle.std.proofs.Common.{ap}
use Rattle.std.specs.Prelude.{is_ok}
use Rattle.kl_digest.proofs.Digits.{digits_value}
use Rattle.kl_digest.proofs.record.digest_of.Goals as goal

pub unwrap-requires : goal.unwrap-requires
unwrap-requires c = let value = digits_value c.args.digits.now c.requires.count c.requires.each in let done = rw value.2 at c.decode_to_slice.ensures.value in ap is_ok done.0
