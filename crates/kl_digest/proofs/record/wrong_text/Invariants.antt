use Rattle.std.proofs.Common.{◌≡◌, drop}
use Rattle.kl_digest.specs.Records.{record_prefix, text_place}
use Rattle.kl_digest.proofs.record.wrong_text.Given as goal

abbrev pub invariant-loop-place : goal.invariant-loop-place
invariant-loop-place l = record { rest : text_place record_prefix l.bytes 0 ≡ text_place (drop l.place record_prefix) (drop l.place l.bytes) l.place }
