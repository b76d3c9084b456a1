use Rattle.std.proofs.Common.{◌≡◌, ◌<◌, ◌^◌, drop}
use Rattle.std.specs.Prelude.{Some, fold}
use Rattle.kl_kit.specs.Forms.{with_digit, number_of}
use Rattle.kl_kit.proofs.form.number_of.Given as goal

abbrev pub invariant-loop-digit : goal.invariant-loop-digit
invariant-loop-digit l = record {
  value : fold with_digit (Some l.number) (drop l.digit-index l.digits) ≡ number_of l.digits;
  bound : l.number < 16 ^ l.digit-index;
}
