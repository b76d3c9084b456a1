use Rattle.std.proofs.Common.{◌≡◌, ◌+◌, drop}
use Rattle.kl_digest.specs.Records.{digit_place}
use Rattle.kl_digest.proofs.record.wrong_digit.Given as goal

abbrev pub invariant-loop-place : goal.invariant-loop-place
invariant-loop-place l = record { rest : digit_place l.digits 16 ≡ digit_place (drop l.place l.digits) (l.place + 16) }
